use Rattle.std.proofs.Common.{List, ap, length, sym, subst, ◌∙◌, arith}
use Rattle.ndc_cluster_links.specs.Links.{done_of}
use Rattle.ndc_cluster_links.proofs.DoneLemmas.{done_new}
use Rattle.ndc_cluster_links.proofs.QuietLemmas.{AreQuiet, quiet_new}
use Rattle.ndc_model.specs.Queues.{Lane}
use Rattle.ndc_cluster_links.proofs.link.Link.new.Goals as goal

pub invariant_of-result : goal.invariant_of-result
invariant_of-result c = record {
  few = omega arith;
  done = sym (ap done_of c.loop-lanes.invariant.0 ∙ done_new (length c.loop-lanes.lanes.items));
  quiet = λ is. subst (λ (lanes : List Lane). AreQuiet lanes) (sym c.loop-lanes.invariant.0) (quiet_new (length c.loop-lanes.lanes.items));
}
