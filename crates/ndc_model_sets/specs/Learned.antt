-- What is learned of the batches that have arrived.
use Rattle.std.specs.Prelude.{◌≡◌, Bool, true, List, [], ◌∷◌, ◌++◌, Option, Some, None, is_some, if◌then◌else◌}
use Rattle.ndc_event.specs.declared.batch.Batch.{Batch}
use Rattle.ndc_event.specs.declared.key.BatchKey.{BatchKey}
use Rattle.ndc_model_sets.specs.Sets.{earlier, batch_at, Has}

-- the key, where there is one, is that of one of the batches
abbrev pub has_key : Option BatchKey → List Batch → Bool
has_key None batches = true
has_key (Some key) batches = is_some (batch_at key batches)

-- which of the batches are learned, after those that are learned so far
abbrev pub learned_behind : List Batch → List Batch → List Batch
learned_behind so_far [] = []
learned_behind so_far (b ∷ batches) =
    if has_key (earlier b) so_far then b ∷ learned_behind (so_far ++ b ∷ []) batches else learned_behind so_far batches

-- the learned batches: those without an earlier key, and those whose earlier key is that of a learned one
abbrev pub learned : List Batch → List Batch
learned batches = learned_behind [] batches

-- following earlier keys upwards from a batch, each is that of one of the batches
pub data ReachesTop (batches : List Batch) : Batch → Type 0 where
  top : (b : Batch) → Has batches b → earlier b ≡ None → ReachesTop batches b
  up : (b before : Batch) (key : BatchKey) → Has batches b → earlier b ≡ Some key → batch_at key batches ≡ Some before → ReachesTop batches before → ReachesTop batches b

-- following earlier keys upwards from a batch, one comes to this one
pub data WaitsFor (batches : List Batch) (one : Batch) : Batch → Type 0 where
  itself : WaitsFor batches one one
  behind : (b before : Batch) (key : BatchKey) → Has batches b → earlier b ≡ Some key → batch_at key batches ≡ Some before → WaitsFor batches one before → WaitsFor batches one b

-- the earlier key of each of the batches is that of one of them
abbrev pub IsClosed : List Batch → Type 0
IsClosed batches = (b : Batch) → Has batches b → has_key (earlier b) batches ≡ true

-- each of these batches is one of those
abbrev pub IsPart : List Batch → List Batch → Type 0
IsPart part batches = (b : Batch) → Has part b → Has batches b
