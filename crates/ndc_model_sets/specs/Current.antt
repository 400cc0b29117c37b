-- The states of branches, and which runs are open, zombies or closed.
use Rattle.std.specs.Prelude.{◌≡◌, Bool, true, false, ◌++◌, List, [], ◌∷◌, Option, Some, None, Result, Ok, Err, if◌then◌else◌}
use Rattle.ndc_event.specs.declared.batch.Batch.{Batch}
use Rattle.ndc_event.specs.declared.key.BatchKey.{BatchKey}
use Rattle.ndc_event.specs.declared.key.Origin.{Origin}
use Rattle.ndc_event.specs.declared.key.RunId.{RunId}
use Rattle.ndc_reapply.specs.declared.stray.Stray.{Stray}
use Rattle.ndc_reapply.specs.Strays.{strays_of}
use Rattle.ndc_state.specs.declared.rule.StateError.{StateError}
use Rattle.ndc_state.specs.Replay.{replay_of}
use Rattle.ndc_state.specs.Value.{StateValue, new_state}
use Rattle.ndc_model_sets.specs.declared.view.RunStatus.{RunStatus}
use Rattle.ndc_model_sets.specs.declared.view.RunStatus.TheVariants.{Running, Zombie, Closed}
use Rattle.ndc_model_sets.specs.Branches.{current_tip, is_current_run, runs, workflow_tip}
use Rattle.ndc_model_sets.specs.Origins.{origins_in, signals}
use Rattle.ndc_model_sets.specs.Paths.{events_to}

-- the state that was replayed; where the events do not replay, that of no event
abbrev pub replayed_or_new : RunId → Result StateValue StateError → StateValue
replayed_or_new run (Ok s) = s
replayed_or_new run (Err error) = new_state run

-- the state of the path to the batch of this key
abbrev pub state_to : RunId → BatchKey → List Batch → StateValue
state_to run key batches = replayed_or_new run (replay_of run (events_to key batches))

-- the state at a tip, or that of no event
abbrev pub state_at : RunId → Option Batch → List Batch → StateValue
state_at run None batches = new_state run
state_at run (Some tip) batches = state_to run tip.key batches

-- the state of the current branch of a run
abbrev pub current_state : RunId → List Batch → StateValue
current_state run batches = state_at run (current_tip run batches) batches

-- a run is closed where its state is; else it is open where it is the current run, and a zombie where it is not
abbrev pub status_of : Bool → Bool → RunStatus
status_of is_running is_current = if is_running then (if is_current then Running else Zombie) else Closed

-- the status of a run, by the state of its current branch
abbrev pub run_status : RunId → List Batch → RunStatus
run_status run batches = status_of (current_state run batches).running (is_current_run run batches)

-- whether it is the status of a zombie
abbrev pub is_zombie : RunStatus → Bool
is_zombie Running = false
is_zombie Zombie = true
is_zombie Closed = false

-- the origins of a branch of a run that ends with this tip
abbrev pub origins_at : RunId → Option Batch → List Batch → List Origin
origins_at run None batches = []
origins_at run (Some tip) batches = origins_in run (events_to tip.key batches)

-- the origins that a run settles: those on its current branch, where it is not a zombie
abbrev pub settled_by : RunId → List Batch → List Origin
settled_by run batches = if is_zombie (run_status run batches) then [] else origins_at run (current_tip run batches) batches

-- the origins that some of these runs settle
abbrev pub settled_by_runs : List RunId → List Batch → List Origin
settled_by_runs [] batches = []
settled_by_runs (run ∷ others) batches = settled_by run batches ++ settled_by_runs others batches

-- the settled origins of a set
abbrev pub settled : List Batch → List Origin
settled batches = settled_by_runs (runs batches) batches

-- the strays of a set: its signals whose origins are not settled, each once, ordered by version, event and run
abbrev pub strays : List Batch → List Stray
strays batches = strays_of (signals batches) (settled batches)

-- where there is a tip whose state is open, the list is empty
abbrev pub NoneWhereOpen : Option Batch → List Batch → List Stray → Type 0
NoneWhereOpen None batches list = Unit {0}
NoneWhereOpen (Some tip) batches list = (state_to tip.run tip.key batches).running ≡ true → list ≡ []

-- a set leaves nothing to be applied again: where its current run is open it has no stray
abbrev pub HasNoStray : List Batch → Type 0
HasNoStray batches = NoneWhereOpen (workflow_tip batches) batches (strays batches)
