-- Events by their ids.
use Rattle.std.specs.Prelude.{◌≡◌, ℕ, ◌<◌, ◌≤◌, nat_lt, Bool, ◌==◌, ◌&&◌, List, Option, None, find, if◌then◌else◌}
use Rattle.std.specs.List.{AllByRecursion}
use Rattle.std.specs.declared.cmp.Ordering.{Ordering}
use Rattle.std.specs.declared.cmp.Ordering.TheVariants.{Less, Equal, Greater}
use Rattle.ndc_event.specs.Batch.{fault_of}
use Rattle.ndc_event.specs.Sorted.{InOrder}
use Rattle.ndc_event.specs.declared.batch.Batch.{Batch}
use Rattle.ndc_event.specs.declared.batch.Event.{Event}
use Rattle.ndc_state.specs.Replay.{history_of}
use Rattle.ndc_model_sets.specs.Paths.{first_id, last_id}

-- whether this is the event of the version and the id
abbrev pub is_event : ℕ → ℕ → Event → Bool
is_event version id event = (event.version == version) && (event.id == id)

-- the event of the version and the id among those of the batches
abbrev pub event_at : ℕ → ℕ → List Batch → Option Event
event_at version id batches = find (is_event version id) (history_of batches)

-- the event of the id among these
abbrev pub event_of : ℕ → List Event → Option Event
event_of id events = find (λ event. event.id == id) events

-- how the ids of a batch's events stand to this id: all come before it, all after it, or it is one of them
abbrev pub against_id : ℕ → Batch → Ordering
against_id id b = if nat_lt (last_id b.events) id then Less else if nat_lt id (first_id b.events) then Greater else Equal

-- the ids of the second batch's events come after those of the first's, and rise
pub record IdsGoOn (one two : Batch) : Type 0 where
  pub behind : last_id one.events < first_id two.events
  pub rise : first_id two.events ≤ last_id two.events

-- no batch has a fault, and the ids rise from batch to batch
abbrev pub AreInIdOrder : List Batch → Type 0
AreInIdOrder batches = InOrder IdsGoOn batches × AllByRecursion (λ b. fault_of b ≡ None) batches

-- no batch has a fault, and among those of one version ids rise from batch to batch
abbrev pub AreVersionsInIdOrder : List Batch → Type 0
AreVersionsInIdOrder batches = InOrder (λ one two. one.key.version ≡ two.key.version → IdsGoOn one two) batches × AllByRecursion (λ b. fault_of b ≡ None) batches
