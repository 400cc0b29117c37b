-- Which paths replay, and the states after them.
use Rattle.std.specs.Prelude.{◌≡◌, Bool, is_ok, List, Some, Ok}
use Rattle.std.specs.List.{AllByRecursion}
use Rattle.ndc_event.specs.declared.batch.Batch.{Batch}
use Rattle.ndc_event.specs.declared.batch.Event.{Event}
use Rattle.ndc_event.specs.declared.key.BatchKey.{BatchKey}
use Rattle.ndc_event.specs.declared.key.Origin.{Origin}
use Rattle.ndc_event.specs.declared.key.RunId.{RunId}
use Rattle.ndc_model_sets.specs.Paths.{events_to}
use Rattle.ndc_model_sets.specs.Sets.{batch_at}
use Rattle.ndc_state.specs.Replay.{replay_of}
use Rattle.ndc_state.specs.Value.{StateValue}
use Rattle.ndc_dump_causes.specs.declared.replaying.Kept.{Kept}

-- whether the path to a batch replays
abbrev pub replays_to : List Batch → Batch → Bool
replays_to batches b = is_ok (replay_of b.run (events_to b.key batches))

-- the events replay as those of the run, and this is the state after them but for its origins
pub record IsStateOf (s : StateValue) (run : RunId) (events : List Event) : Type 0 where
  pub whole : StateValue
  pub origins : List Origin
  pub replays : replay_of run events ≡ Ok whole
  pub same : s ≡ record whole { origins = origins }

-- this is the state after the batch of a key but for its origins
pub record IsStateAt (batches : List Batch) (key : BatchKey) (s : StateValue) : Type 0 where
  pub batch : Batch
  pub at : batch_at key batches ≡ Some batch
  pub state : IsStateOf s batch.run (events_to key batches)

-- each state that is kept is that after its batch but for its origins
abbrev pub AreKept : List Batch → List Kept → Type 0
AreKept batches kept = AllByRecursion (λ one. IsStateAt batches one.key one.state) kept
