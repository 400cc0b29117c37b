-- What one writer for each version means for the branches of runs.
use Rattle.std.specs.Prelude.{◌≡◌, List, Some}
use Rattle.ndc_event.specs.declared.batch.Batch.{Batch}
use Rattle.ndc_event.specs.declared.key.RunId.{RunId}
use Rattle.ndc_model_sets.specs.Branches.{IsLeading, current_tip}
use Rattle.ndc_model_sets.specs.Sets.{Has}

-- a run has one branch whose last version is greater than that of every other, and it is the current one
pub record HasOneCurrent (run : RunId) (batches : List Batch) : Type 0 where
  pub tip : Batch
  pub current : current_tip run batches ≡ Some tip
  pub leads : IsLeading run batches tip
  pub only : (other : Batch) → IsLeading run batches other → other ≡ tip

-- each run of these batches has
abbrev pub EachHasOneCurrent : List Batch → Type 0
EachHasOneCurrent batches = (b : Batch) → Has batches b → HasOneCurrent b.run batches
