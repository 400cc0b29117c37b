-- Where the last kept batch of a path stands.
use Rattle.std.specs.Prelude.{◌≡◌, ℕ, ◌≤◌, List, [], ◌∷◌, ◌++◌, length, take, drop, Some}
use Rattle.ndc_event.specs.declared.batch.Batch.{Batch}
use Rattle.ndc_event.specs.declared.key.BatchKey.{BatchKey}
use Rattle.ndc_state.specs.Value.{StateValue}
use Rattle.ndc_rebuild.specs.Kept.{kept_at, last_kept}

-- the last kept batch of the path is the one before this place, and this is kept for it
pub record IsFoundAt (states : List (BatchKey × StateValue)) (path : List Batch) (count : ℕ) (kept : StateValue) : Type 0 where
  pub within : count ≤ length path
  pub found : last_kept states path ≡ Some (kept, drop count path)
  pub front : List Batch
  pub batch : Batch
  pub up_to : take count path ≡ front ++ batch ∷ []
  pub at : kept_at batch.key states ≡ Some kept
