use Rattle.std.proofs.Common.{◌≡◌, ◌<◌, ◌+◌, ℕ, List, ◌∷◌, drop, length, map, ap, refl, sym, subst, ◌∙◌, arith}
use Rattle.std.proofs.lemmas.List.{at_drop_more, length-set}
use Rattle.ndc_model_cells.specs.Cells.{Cell}
use Rattle.ndc_model_cells.specs.Jobs.{cell_for}
use Rattle.ndc_model_cells.specs.declared.job.ShardJob.{ShardJob}
use Rattle.ndc_model_cells.specs.declared.message.Message.{Message}
use Rattle.ndc_cluster_links.proofs.QueueLemmas.{all_at}
use Rattle.ndc_cluster_links.proofs.RestLemmas.{cell_there}
use Rattle.ndc_cluster_links.specs.Rest.{IsRestOf, queue_at}
use Rattle.ndc_world_replication.proofs.GrowLemmas.{firsts_then, fronts_then, rests_then}
use Rattle.ndc_world_replication.specs.Publishers.{AreRestsBut}
use Rattle.ndc_world_replication.proofs.publisher.extend_asked.Goals as goal

pub loop-asked-preserved : goal.loop-asked-preserved
loop-asked-preserved g c =
    let at = c.asked-item.result.shard in
    let new = c.extend.new.self in
    let old = c.loop-asked.queues in
    let whole : ℕ → List Message = λ shard. (cell_for shard (map g.C.Cell.cell c.args.cells.now)).written in
    let many : length new ≡ length old = ap length c.in_ok-extend.ensures.others ∙ length-set old at (queue_at new at) in
    let inside : at < length c.args.queues.now = all_at (λ (asked : ShardJob). asked.shard < length c.args.queues.now) c.args.jobs.now c.loop-asked.asked-index c.asked-item.result (omega arith) c.asked-item.is c.requires.shards in
    let here : IsRestOf (queue_at new at) (whole at) =
    subst (λ (cell : Cell). IsRestOf (queue_at new at) cell.written) (cell_there g.C.Cell.cell c.args.cells.now at c.index-cells-shard.result (omega (arith, inside, c.requires.alike)) c.index-cells-shard.is) c.in_ok-extend.ensures.rest in
    let left : AreRestsBut (c.asked-item.result ∷ drop (c.loop-asked.asked-index + 1) c.args.jobs.now) old whole =
    subst (λ (jobs : List ShardJob). AreRestsBut jobs old whole)
    (at_drop_more (λ (jobs : List ShardJob). jobs) c.args.jobs.now c.loop-asked.asked-index c.asked-item.result (omega arith) ∙ ap (λ (asked : ShardJob). asked ∷ drop (c.loop-asked.asked-index + 1) c.args.jobs.now) (sym c.asked-item.is))
    c.loop-asked.invariant.others in
    record {
      len = many ∙ c.loop-asked.invariant.len;
      first = firsts_then old new at whole c.in_ok-extend.ensures.others here c.in_ok-extend.ensures.first ∙ c.loop-asked.invariant.first;
      fronts = fronts_then old new at whole c.in_ok-extend.ensures.others here many c.loop-asked.invariant.fronts;
      others = rests_then old new at whole c.in_ok-extend.ensures.others here many c.asked-item.result (drop (c.loop-asked.asked-index + 1) c.args.jobs.now) refl left;
    }
