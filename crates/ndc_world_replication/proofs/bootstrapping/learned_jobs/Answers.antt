use Rattle.std.proofs.Common.{◌<◌, List, ◌++◌, length, map, ap, sym, ◌∙◌, arith}
use Rattle.std.specs.List.{range_with_len}
use Rattle.ndc_model_cells.specs.Jobs.{cell_for}
use Rattle.ndc_model_cells.specs.declared.job.ShardJob.{ShardJob}
use Rattle.ndc_model_cells.specs.declared.message.Message.{Message}
use Rattle.ndc_cluster_links.proofs.RestLemmas.{cell_there}
use Rattle.ndc_model.specs.Moves.{all_arrive, arrives}
use Rattle.ndc_model_cells.specs.Domains.{learned_of_domains}
use Rattle.ndc_world_replication.proofs.QuietLemmas.{no_domain_jobs, no_item}
use Rattle.ndc_world_replication.proofs.TakeLemmas.{jobs_of_more}
use Rattle.ndc_world_replication.proofs.bootstrapping.learned_jobs.Goals as goal

pub loop-shard-preserved : goal.loop-shard-preserved
loop-shard-preserved g c =
    let below : c.loop-shard.shard < length c.args.cells.now = omega (arith, c.requires, c.loop-shard-test.true) in
    c.in_ok-add_jobs.ensures
    ∙ ap (λ (jobs : List ShardJob). jobs ++ map (arrives c.loop-shard.shard) c.in_ok-messages.messages.items) c.loop-shard.invariant
    ∙ ap (λ (messages : List Message). all_arrive (λ shard. learned_of_domains c.args.domains.now (cell_for shard (map g.C.Cell.cell c.args.cells.now))) (range_with_len 0 c.loop-shard.shard) ++ map (arrives c.loop-shard.shard) messages)
    (c.in_ok-messages.ensures ∙ ap (learned_of_domains c.args.domains.now) (cell_there g.C.Cell.cell c.args.cells.now c.loop-shard.shard c.index-cells-shard.result below c.index-cells-shard.is))
    ∙ jobs_of_more (λ shard. learned_of_domains c.args.domains.now (cell_for shard (map g.C.Cell.cell c.args.cells.now))) c.loop-shard.shard

pub returns-then-is_empty : goal.returns-then-is_empty
returns-then-is_empty g c = c.new-jobs.ensures.items ∙ sym (no_domain_jobs c.args.domains.now (λ shard. cell_for shard (map g.C.Cell.cell c.args.cells.now)) (range_with_len 0 c.args.shards) (no_item c.args.domains.now (sym c.if-is_empty.ensures)))
