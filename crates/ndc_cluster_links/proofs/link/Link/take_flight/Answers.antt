use Rattle.std.proofs.Common.{◌∙◌, ap, sym, arith}
use Rattle.std.proofs.lemmas.List.{length-set}
use Rattle.ndc_model.specs.Queues.{Lane}
use Rattle.ndc_cluster_links.proofs.DoneLemmas.{done_still}
use Rattle.ndc_cluster_links.proofs.QuietLemmas.{quiet_still}
use Rattle.ndc_cluster_links.proofs.link.Link.take_flight.Goals as goal

pub invariant_of-self : goal.invariant_of-self
invariant_of-self c = record {
  few = omega (arith, length-set c.self.inside.lanes.items c.args.shard c.take.new.self, c.self.invariant.few);
  done = c.self.invariant.done ∙ sym (done_still c.self.inside.lanes.items c.args.shard c.index_mut-lane.result.now c.take.new.self c.index_mut-lane.ensures.value (ap (λ (lane : Lane). lane.levels.done) c.take.ensures.empty));
  quiet = λ is. quiet_still c.self.inside.lanes.items c.args.shard c.take.new.self (ap (λ (lane : Lane). lane.flight) c.take.ensures.empty) (c.self.invariant.quiet is);
}
