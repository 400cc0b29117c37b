use Rattle.std.proofs.Common.{◌∙◌, sym, arith}
use Rattle.std.proofs.lemmas.List.{length-set}
use Rattle.ndc_cluster_links.proofs.DoneLemmas.{done_still}
use Rattle.ndc_cluster_links.proofs.link.Link.pull_some.Goals as goal

pub invariant_of-self-2 : goal.invariant_of-self-2
invariant_of-self-2 c = record {
  few = omega (arith, length-set c.self.inside.lanes.items c.args.shard c.pull.new.self, c.self.invariant.few);
  done = c.self.invariant.done ∙ sym (done_still c.self.inside.lanes.items c.args.shard c.index_mut-lane.result.now c.pull.new.self c.index_mut-lane.ensures.value c.pull.ensures.done);
  quiet = λ is. absurd (cc);
}
