use Rattle.std.proofs.Common.{[], List, ap, length, subst, sym, ◌≡◌, ◌∙◌, arith}
use Rattle.std.specs.List.{AllByRecursion}
use Rattle.std.proofs.lemmas.List.{length-map}
use Rattle.ndc_cluster_links.proofs.DoneLemmas.{done_rewound}
use Rattle.ndc_cluster_links.proofs.QuietLemmas.{flights_rewound}
use Rattle.ndc_cluster_links.specs.Links.{done_of, flights_of}
use Rattle.ndc_model.specs.Queues.{after_rewind}
use Rattle.ndc_model_cells.specs.declared.message.Message.{Message}
use Rattle.ndc_cluster_links.proofs.link.Link.rewind.Goals as goal

pub invariant_of-self : goal.invariant_of-self
invariant_of-self c = record {
  few = omega (arith, ap length c.rewind_lanes.ensures, length-map c.self.inside.lanes.items after_rewind, c.self.invariant.few);
  done = c.self.invariant.done ∙ sym (ap done_of c.rewind_lanes.ensures ∙ done_rewound c.self.inside.lanes.items);
  quiet = λ is. subst (AllByRecursion (λ (flight : List Message). flight ≡ [])) (sym (ap flights_of c.rewind_lanes.ensures ∙ flights_rewound c.self.inside.lanes.items)) (c.self.invariant.quiet is);
}
