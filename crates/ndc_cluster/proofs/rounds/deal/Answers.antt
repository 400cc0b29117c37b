use Rattle.std.proofs.Common.{map, ap, ◌∙◌}
use Rattle.std.proofs.lemmas.List.{length-set, map-append}
use Rattle.ndc_cluster.specs.Rounds.{slot_of}
use Rattle.ndc_cluster.proofs.RoundLemmas.{deal_more, shard_there}
use Rattle.ndc_cluster.proofs.rounds.deal.Goals as goal

pub loop-asked-preserved : goal.loop-asked-preserved
loop-asked-preserved g c = (
  length-set c.loop-asked.slots.items c.asked-item.result.shard _ ∙ c.loop-asked.invariant.0,
  deal_more _ c.args.jobs.now c.loop-asked.asked-index c.asked-item.result c.loop-asked.slots.items c.index_mut.result.now _ _ c.loop-asked-test.true c.asked-item.is
      (shard_there c.args.jobs.now c.loop-asked.asked-index c.asked-item.result _ _ c.loop-asked-test.true c.asked-item.is c.loop-asked.invariant.0 c.requires) c.index_mut.ensures.value
      (ap (λ js. slot_of (g.C.Cell.cell c.index_mut.result.now.cell) js c.index_mut.result.now.replies.items c.index_mut.result.now.fresh.from c.index_mut.result.now.fresh.messages.items) (ap (map (λ job. job.now)) c.in_ok-push.ensures.items ∙ map-append (λ job. job.now) c.index_mut.result.now.jobs.items _))
      c.loop-asked.invariant.1,
)
