use Rattle.std.proofs.Common.{◌<◌, List, ℕ, ◌++◌, length, map, ap, sym, subst, ◌∙◌}
use Rattle.std.specs.List.{AllByRecursion, flat_map}
use Rattle.ndc_model_cells.specs.declared.job.ShardJob.{ShardJob}
use Rattle.ndc_model_cells.specs.declared.message.Message.{Message}
use Rattle.ndc_model.specs.Moves.{arrives, by_link, due}
use Rattle.ndc_world_replication.specs.Places.{links_at}
use Rattle.ndc_world_replication.proofs.QuietLemmas.{no_item, no_jobs_below}
use Rattle.ndc_world_replication.proofs.TakeLemmas.{jobs_of_more}
use Rattle.ndc_world_replication.proofs.replication.Replication.due_jobs.Goals as goal

pub add_due-requires-clause-places : goal.add_due-requires-clause-places
add_due-requires-clause-places g c =
    subst (AllByRecursion (λ (place : ℕ). place < length c.args.self.now.links)) (sym c.as_slice-places.ensures.value) c.in_ok-places.ensures.places

pub loop-shard-preserved : goal.loop-shard-preserved
loop-shard-preserved g c =
    c.in_ok-add_due.ensures
    ∙ ap (λ (ps : List ℕ). c.loop-shard.jobs.items ++ map (arrives c.loop-shard.shard) (flat_map (due c.args.self.now c.loop-shard.shard) (links_at ps c.args.self.now.links))) c.as_slice-places.ensures.value
    ∙ ap (λ (messages : List Message). c.loop-shard.jobs.items ++ map (arrives c.loop-shard.shard) messages) (c.in_ok-places.ensures.due c.loop-shard.shard c.loop-shard-test.true)
    ∙ ap (λ (jobs : List ShardJob). jobs ++ map (arrives c.loop-shard.shard) (by_link c.args.reader (due c.args.self.now) c.args.self.now.links c.loop-shard.shard)) c.loop-shard.invariant
    ∙ jobs_of_more (by_link c.args.reader (due c.args.self.now) c.args.self.now.links) c.loop-shard.shard

pub returns-then-is_empty : goal.returns-then-is_empty
returns-then-is_empty g c =
    c.new-jobs.ensures.items
    ∙ sym (no_jobs_below (by_link c.args.reader (due c.args.self.now) c.args.self.now.links) c.args.header.now.shards
    (λ shard below. sym (c.in_ok-places.ensures.due shard below) ∙ ap (λ (ps : List ℕ). flat_map (due c.args.self.now shard) (links_at ps c.args.self.now.links))
    (sym c.as_slice-places.ensures.value ∙ no_item c.as_slice-places.result.now (sym c.if-is_empty.ensures))))
