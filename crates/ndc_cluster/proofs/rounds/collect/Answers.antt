use Rattle.std.proofs.Common.{ap, ◌∙◌}
use Rattle.std.proofs.Math.Seq.{map-set_same}
use Rattle.std.proofs.lemmas.List.{length-set}
use Rattle.ndc_cluster.specs.Rounds.{left_of}
use Rattle.ndc_cluster.proofs.RoundLemmas.{shard_there, taken_more}
use Rattle.ndc_cluster.proofs.rounds.collect.Goals as goal

pub returns-in_default-clause-cells : goal.returns-in_default-clause-cells
returns-in_default-clause-cells g c =
    map-set_same (λ slot. left_of (g.C.Cell.cell slot.cell) slot.fresh) c.loop-asked.slots.items c.asked-item.result.shard _ c.index_mut.result.now (ap (λ slot. left_of (g.C.Cell.cell slot.cell) slot.fresh) c.index_mut.ensures.value) ∙ c.loop-asked.invariant.1

pub loop-asked-preserved : goal.loop-asked-preserved
loop-asked-preserved g c = (
  length-set c.loop-asked.slots.items c.asked-item.result.shard _ ∙ c.loop-asked.invariant.0,
  map-set_same (λ slot. left_of (g.C.Cell.cell slot.cell) slot.fresh) c.loop-asked.slots.items c.asked-item.result.shard _ c.index_mut.result.now (ap (λ slot. left_of (g.C.Cell.cell slot.cell) slot.fresh) c.index_mut.ensures.value) ∙ c.loop-asked.invariant.1,
  taken_more _ c.args.jobs.now c.loop-asked.asked-index c.asked-item.result c.loop-asked.slots.items c.index_mut.result.now _ c.loop-asked.replies.items _ c.in-Some.reply _ c.loop-asked-test.true c.asked-item.is
      (shard_there c.args.jobs.now c.loop-asked.asked-index c.asked-item.result _ _ c.loop-asked-test.true c.asked-item.is c.loop-asked.invariant.0 c.requires) c.index_mut.ensures.value c.in-Some.ensures.items c.in_ok-push.ensures.items
      c.loop-asked.invariant.2,
)
