-- Paths after a write.
use Rattle.std.proofs.Common.{◌≡◌, true, List, [], ◌∷◌, ◌++◌, Some, None, ap, ◌∙◌}
use Rattle.ndc_event.specs.Batch.{fault_of}
use Rattle.ndc_event.specs.declared.batch.Batch.{Batch}
use Rattle.ndc_model_sets.specs.Learned.{has_key}
use Rattle.ndc_model_sets.specs.Paths.{path_to}
use Rattle.ndc_model_sets.specs.Sets.{Has, arrived, batch_at, earlier}
use Rattle.ndc_model_sets.specs.Sound.{IsSound}
use Rattle.ndc_model_sets.proofs.PathLemmas.{path-below, path-first}
use Rattle.ndc_model_sets.proofs.SoundLemmas.{new-set, new-there, old-path}

pub paths_stay : (batches : List Batch) (new b : Batch) → IsSound batches → batch_at new.key batches ≡ None → fault_of new ≡ None → has_key (earlier new) batches ≡ true
    → Has batches b → path_to b.key (arrived new batches) ≡ path_to b.key batches
paths_stay batches new b sound fresh faultless reached has = old-path batches new sound fresh faultless reached b has

-- the path to a batch that is written goes on after its parent's
pub path_behind_parent : (batches : List Batch) (new parent : Batch) → IsSound batches → batch_at new.key batches ≡ None → fault_of new ≡ None → has_key (earlier new) batches ≡ true
    → Has batches parent → new.parent ≡ Some parent.key → path_to new.key (arrived new batches) ≡ path_to parent.key batches ++ new ∷ []
path_behind_parent batches new parent sound fresh faultless reached has at =
    path-below (arrived new batches) new parent.key (new-set batches new sound fresh faultless reached) (new-there batches new sound fresh faultless reached) at
    ∙ ap (λ (path : List Batch). path ++ new ∷ []) (old-path batches new sound fresh faultless reached parent has)

-- the path to a batch that begins a run is it alone
pub path_of_beginning : (batches : List Batch) (new : Batch) → IsSound batches → batch_at new.key batches ≡ None → fault_of new ≡ None → has_key (earlier new) batches ≡ true
    → new.parent ≡ None → path_to new.key (arrived new batches) ≡ new ∷ []
path_of_beginning batches new sound fresh faultless reached none =
    path-first (arrived new batches) new (new-set batches new sound fresh faultless reached) (new-there batches new sound fresh faultless reached) none
