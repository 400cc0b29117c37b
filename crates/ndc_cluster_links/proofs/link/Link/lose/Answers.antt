use Rattle.std.proofs.Common.{◌∙◌, ap, sym, arith}
use Rattle.std.proofs.lemmas.List.{length-set}
use Rattle.ndc_queue.specs.Levels.{LevelPair}
use Rattle.ndc_cluster_links.proofs.DoneLemmas.{done_still}
use Rattle.ndc_cluster_links.proofs.link.Link.lose.Goals as goal

pub invariant_of-self : goal.invariant_of-self
invariant_of-self c = record {
  few = omega (arith, length-set c.self.inside.lanes.items c.args.shard c.lose.new.self, c.self.invariant.few);
  done = c.self.invariant.done ∙ sym (done_still c.self.inside.lanes.items c.args.shard c.index_mut-lane.result.now c.lose.new.self c.index_mut-lane.ensures.value (ap (λ (levels : LevelPair). levels.done) c.lose.ensures.levels));
  quiet = λ is. absurd (cc);
}
