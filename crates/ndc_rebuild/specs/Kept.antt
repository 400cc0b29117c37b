-- Kept copies of states, and where replay of a path goes on from them.
use Rattle.std.specs.Prelude.{◌≡◌, ℕ, ◌-◌, ◌/◌, Bool, not, ◌==◌, List, [], ◌∷◌, ◌++◌, Option, Some, None, Ok, if◌then◌else◌}
use Rattle.std.specs.Map.{lookup, remove_entry}
use Rattle.indexmap.specs.IndexMap.{insert_entry}
use Rattle.ndc_event.specs.declared.batch.Batch.{Batch}
use Rattle.ndc_event.specs.declared.batch.Event.{Event}
use Rattle.ndc_event.specs.declared.key.BatchKey.{BatchKey}
use Rattle.ndc_event.specs.declared.key.RunId.{RunId}
use Rattle.ndc_event.specs.Key.{key_eq}
use Rattle.ndc_state.specs.Replay.{history_of, replay_of}
use Rattle.ndc_state.specs.Value.{StateValue}

-- the states that are kept of a run, by the key of the last batch of their path, without their origins
pub record Kept : Type 0 where
  pub run : RunId
  pub states : List (BatchKey × StateValue)

-- a state without its origins
abbrev pub bare : StateValue → StateValue
bare s = record s { origins = [] }

-- what is kept for a key
abbrev pub kept_at : BatchKey → List (BatchKey × StateValue) → Option StateValue
kept_at key states = lookup (key_eq key) states

-- whether the last so many events before the next id took their count to or past a multiple of 512
abbrev pub reaches : ℕ → ℕ → Bool
reaches events next = not ((next - 1) / 512 == (next - 1 - events) / 512)

-- a state is kept for its tip, where its last batch, of so many events, reaches a multiple of 512
abbrev pub with_kept : BatchKey → ℕ → StateValue → List (BatchKey × StateValue) → List (BatchKey × StateValue)
with_kept tip events s states = if reaches events s.next then insert_entry key_eq states tip (bare s) else states

-- what is kept but for the tip
abbrev pub without_kept : BatchKey → List (BatchKey × StateValue) → List (BatchKey × StateValue)
without_kept tip states = remove_entry (key_eq tip) states

-- the batches, after a state where there is one
abbrev pub behind_kept : List Batch → Option StateValue → Option (StateValue × List Batch)
behind_kept batches None = None
behind_kept batches (Some s) = Some (s, batches)

-- the first that there is
abbrev pub or_earlier : Option (StateValue × List Batch) → Option (StateValue × List Batch) → Option (StateValue × List Batch)
or_earlier None earlier = earlier
or_earlier (Some found) earlier = Some found

-- the last batch of the path that is kept: its state, and the batches after it
abbrev pub last_kept : List (BatchKey × StateValue) → List Batch → Option (StateValue × List Batch)
last_kept states [] = None
last_kept states (batch ∷ batches) = or_earlier (last_kept states batches) (behind_kept batches (kept_at batch.key states))

-- the batches after the last that is kept, all where none is
abbrev pub batches_behind : List Batch → Option (StateValue × List Batch) → List Batch
batches_behind path None = path
batches_behind path (Some found) = found.1

-- the events after the last batch of the path that is kept
abbrev pub events_behind : List (BatchKey × StateValue) → List Batch → List Event
events_behind states path = history_of (batches_behind path (last_kept states path))

-- what is kept for a batch is the state of the path to it
abbrev pub IsStateOf : StateValue → RunId → List Event → Type 0
IsStateOf kept run events = (s : StateValue) × (replay_of run events ≡ Ok s) × (kept ≡ bare s)

-- each batch of the path that is kept was kept with this path to it
abbrev pub FitsPath : Kept → List Batch → Type 0
FitsPath k path = (front back : List Batch) (batch : Batch) (kept : StateValue)
    → path ≡ front ++ batch ∷ back → kept_at batch.key k.states ≡ Some kept → IsStateOf kept k.run (history_of (front ++ batch ∷ []))
