use Rattle.std.proofs.Common.{List, ap, length, subst, sym, ◌∙◌, arith}
use Rattle.std.proofs.lemmas.List.{length-map}
use Rattle.ndc_cluster_links.proofs.DoneLemmas.{done_emptied}
use Rattle.ndc_cluster_links.proofs.QuietLemmas.{AreQuiet, quiet_emptied, quiet_link}
use Rattle.ndc_model.specs.Moves.{without_flight}
use Rattle.ndc_model.specs.Queues.{Lane}
use Rattle.ndc_model.specs.World.{Link}
use Rattle.ndc_cluster_links.specs.Links.{done_of}
use Rattle.ndc_cluster_links.proofs.link.Link.empty.Goals as goal

pub returns-then-self : goal.returns-then-self
returns-then-self c = sym (quiet_link c.args.self.now (subst (λ (link : Link). AreQuiet link.lanes) c.self.view_is (c.self.invariant.quiet c.if-self.true)))

pub invariant_of-self : goal.invariant_of-self
invariant_of-self c = record {
  few = omega (arith, ap length c.empty_lanes.ensures, length-map c.self.inside.lanes.items without_flight, c.self.invariant.few);
  done = c.self.invariant.done ∙ sym (ap done_of c.empty_lanes.ensures ∙ done_emptied c.self.inside.lanes.items);
  quiet = λ is. subst (λ (lanes : List Lane). AreQuiet lanes) (sym c.empty_lanes.ensures) (quiet_emptied c.self.inside.lanes.items);
}
