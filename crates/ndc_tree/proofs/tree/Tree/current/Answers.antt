use Rattle.std.proofs.Common.{◌∙◌, ap, sym}
use Rattle.std.specs.Option.{option_map}
use Rattle.ndc_event.specs.declared.batch.Batch.{Batch}
use Rattle.ndc_model_sets.specs.Reading.{current_key}
use Rattle.ndc_tree.specs.Tree.{TreeValue}
use Rattle.ndc_tree.proofs.LastLemmas.{current_is_last}
use Rattle.ndc_tree.proofs.tree.Tree.current.Goals as goal

pub returns : goal.returns
returns c =
    c.key_of.ensures ∙ ap (λ o. option_map (λ (b : Batch). b.key) o) c.last.ensures
    ∙ sym (ap (λ o. option_map (λ (b : Batch). b.key) o) (current_is_last c.self.inside.run c.self.inside.batches c.self.invariant.0))
    ∙ ap (λ (t : TreeValue). current_key t.run t.batches) c.self.view_is
