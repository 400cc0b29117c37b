use Rattle.std.proofs.Common.{List, sym, ◌∙◌, ap, subst}
use Rattle.ndc_model_cells.specs.declared.message.Message.{Message}
use Rattle.ndc_model_sets.specs.Sets.{batch_at}
use Rattle.ndc_shard_waiting.specs.Shortcuts.{LeadsUp}
use Rattle.ndc_model_cells.specs.Messages.{batches_of, IsNewTo}
use Rattle.ndc_shard_waiting.proofs.KeptUpLemmas.{kept-leads}
use Rattle.ndc_shard_waiting.proofs.held.Held.free.Goals as goal

pub invariant_of-self : goal.invariant_of-self
invariant_of-self c = record {
  are = c.free.ensures.waiting;
  lead = λ key to h. let left = c.forget_all.ensures key to h in
      subst (λ (l : List Message). LeadsUp (batches_of l) key to) (sym c.in-Ok.ensures.rest)
      (kept-leads c.self.inside.shelf c.args.message c.self.invariant.are
      (subst (λ (l : List Message). IsNewTo (batches_of l) c.args.message) (sym c.self.view_is) c.requires) key to (c.self.invariant.lead key to left.0)
      (ap (λ (l : List Message). batch_at key (batches_of l)) (sym (c.as_slice.ensures.value ∙ c.in-Ok.ensures.ok)) ∙ left.1));
}
