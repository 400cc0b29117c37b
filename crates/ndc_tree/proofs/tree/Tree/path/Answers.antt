use Rattle.std.proofs.Common.{◌∙◌, List, Some, ap, sym, map}
use Rattle.std.specs.Option.{option_map}
use Rattle.ndc_event.specs.declared.batch.Batch.{Batch}
use Rattle.ndc_tree.proofs.ReadingLemmas.{map-twice}
use Rattle.ndc_tree.proofs.tree.Tree.path.Goals as goal

pub returns-in_ok-keys_of-in-Some : goal.returns-in_ok-keys_of-in-Some
returns-in_ok-keys_of-in-Some c =
    ap Some (c.in_ok-keys_of-in-Some.ensures ∙ ap (map (λ b. b.now.key)) c.as_slice.ensures.value ∙ map-twice (λ b. b.now) (λ (b : Batch). b.key) c.in-Some.path.items)
    ∙ ap (λ o. option_map (λ (l : List Batch). map (λ b. b.key) l) (option_map (λ list. map (λ b. b.now) list.items) o)) (sym c.in-Some.is)
    ∙ ap (λ o. option_map (λ (l : List Batch). map (λ b. b.key) l) o) c.in_ok-path_batches.ensures
