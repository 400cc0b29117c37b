-- What holds of a run with its states.
use Rattle.std.specs.Prelude.{◌≡◌, ◌+◌, ◌≤◌, ◌^◌, All, List, length, Option, Some, None, IsOk, if◌then◌else◌}
use Rattle.ndc_event.specs.declared.batch.Batch.{Batch}
use Rattle.ndc_event.specs.declared.key.BatchKey.{BatchKey}
use Rattle.ndc_event.specs.declared.key.RunId.{RunId}
use Rattle.ndc_rebuild.specs.Kept.{Kept, bare, kept_at, reaches}
use Rattle.ndc_state.specs.Replay.{replay_of}
use Rattle.ndc_state.specs.Value.{StateValue, new_state}
use Rattle.ndc_model_sets.specs.Current.{state_to}
use Rattle.ndc_model_sets.specs.Paths.{events_to}
use Rattle.ndc_model_sets.specs.Sets.{batch_at, Has}
use Rattle.ndc_tree.specs.Tree.{IsTree}

-- every path of a run replays
abbrev pub AllReplay : RunId → List Batch → Type 0
AllReplay run batches = (b : Batch) → Has batches b → IsOk (replay_of run (events_to b.key batches))

-- the ids of all events are at most 10^12
abbrev pub AreSmall : List Batch → Type 0
AreSmall batches = (b : Batch) → Has batches b → All (λ event. event.id ≤ 10 ^ 12) b.events

-- the batches of a run: a tree whose paths replay
pub record IsRun (run : RunId) (batches : List Batch) : Type 0 where
  pub tree : IsTree run batches
  pub replays : AllReplay run batches
  pub small : AreSmall batches

-- what is to be kept for a batch: the state of its path, where it takes the number of events to or past a multiple of 512
abbrev pub to_keep : RunId → List Batch → Batch → Option StateValue
to_keep run batches b = if reaches (length b.events) (length (events_to b.key batches) + 1) then Some (bare (state_to run b.key batches)) else None

-- of each batch is kept what is to be kept, and nothing else
pub record IsKept (run : RunId) (batches : List Batch) (k : Kept) : Type 0 where
  pub run_is : k.run ≡ run
  pub at : (b : Batch) → Has batches b → kept_at b.key k.states ≡ to_keep run batches b
  pub none : (key : BatchKey) → batch_at key batches ≡ None → kept_at key k.states ≡ None

-- the state of the path to a parent; that of no event, where there is none
abbrev pub state_before : RunId → Option BatchKey → List Batch → StateValue
state_before run None batches = new_state run
state_before run (Some key) batches = state_to run key batches
