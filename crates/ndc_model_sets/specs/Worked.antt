-- Small worked sets: one workflow after a failover whose messages came late.
use Rattle.std.specs.Prelude.{ℕ, List, [], ◌∷◌, Option, Some, None, codes}
use Rattle.ndc_event.specs.Key.{run_of}
use Rattle.ndc_event.specs.declared.batch.Batch.{Batch}
use Rattle.ndc_event.specs.declared.key.BatchKey.{BatchKey}
use Rattle.ndc_event.specs.declared.key.Origin.{Origin}
use Rattle.ndc_event.specs.declared.key.RunId.{RunId}
use Rattle.ndc_event.specs.declared.kind.EventKind.{EventKind}
use Rattle.ndc_event.specs.declared.kind.EventKind.TheVariants.{WorkflowExecutionStarted, WorkflowExecutionSignaled, WorkflowExecutionTerminated, WorkflowExecutionContinuedAsNew, DecisionTaskScheduled, DecisionTaskStarted, DecisionTaskCompleted}
use Rattle.ndc_history.specs.declared.item.Item.{Item}
use Rattle.ndc_state.specs.Written.{events_from}

-- a key: a version and a task
abbrev pub key : ℕ → ℕ → BatchKey
key version task = record { version = version; task = task }

-- an item: an id with a version
abbrev pub item : ℕ → ℕ → Item
item id version = record { id = id; version = version }

-- the run of the first batch that is written with version 1 as this task
abbrev pub run : ℕ → RunId
run task = run_of (key 1 task)

-- the origin of the event with this id that was written with this version in run 1
abbrev pub from : ℕ → ℕ → Origin
from id version = record { run = run 1; event = id; version = version }

-- a batch of a run with this key below this parent, with these kinds of events from this id on
abbrev pub batch : RunId → BatchKey → Option BatchKey → Option BatchKey → ℕ → List EventKind → Batch
batch of own parent carrier id kinds = record {
  domain = codes "alpha";
  workflow = codes "w1";
  run = of;
  key = own;
  parent = parent;
  carrier = carrier;
  events = events_from id own.version kinds;
}

-- the first batch of run 1, and of another run
abbrev pub begun : Batch
begun = batch (run 1) (key 1 1) None None 1 (WorkflowExecutionStarted (codes "order") ∷ DecisionTaskScheduled ∷ [])

abbrev pub begun_again : ℕ → Option BatchKey → Batch
begun_again task carrier = batch (run task) (key 1 task) None carrier 1 (WorkflowExecutionStarted (codes "order") ∷ DecisionTaskScheduled ∷ [])

-- a signal, and a copy of one
abbrev pub signal : List ℕ → List ℕ → EventKind
signal name input = WorkflowExecutionSignaled name input None

abbrev pub copy : List ℕ → List ℕ → Origin → EventKind
copy name input origin = WorkflowExecutionSignaled name input (Some origin)

-- a batch of run 1 with one signal
abbrev pub signaled : BatchKey → BatchKey → ℕ → EventKind → Batch
signaled own parent id kind = batch (run 1) own (Some parent) None id (kind ∷ [])

-- two clusters signal the same run with their own versions
abbrev pub forked : List Batch
forked = begun ∷ signaled (key 1 2) (key 1 1) 3 (signal (codes "a1") (codes "x")) ∷ signaled (key 2 2) (key 1 1) 3 (signal (codes "b1") (codes "y")) ∷ []

-- the second cluster writes four batches below the second batch of the first, and the last of them arrives alone
abbrev pub behind_a_gap : List Batch
behind_a_gap =
    begun ∷ signaled (key 1 2) (key 1 1) 3 (signal (codes "p") (codes "x")) ∷ signaled (key 1 3) (key 1 2) 4 (signal (codes "q") (codes "x"))
    ∷ signaled (key 2 6) (key 2 5) 7 (signal (codes "r") (codes "y")) ∷ []

-- the first cluster closes the run and begins another one, while the second goes on with the first run
abbrev pub old_run_wins : List Batch
old_run_wins =
    begun ∷ batch (run 1) (key 1 2) (Some (key 1 1)) None 3 (WorkflowExecutionTerminated (codes "stop") ∷ []) ∷ begun_again 3 None
    ∷ batch (run 3) (key 1 4) (Some (key 1 3)) None 3 (signal (codes "a1") (codes "x") ∷ [])
    ∷ signaled (key 2 2) (key 1 1) 3 (signal (codes "b1") (codes "y")) ∷ []

-- three clusters signal the same run, and the second and the third have copied the signal of the first
abbrev pub copied_twice : List Batch
copied_twice =
    begun ∷ signaled (key 1 2) (key 1 1) 3 (signal (codes "a1") (codes "x")) ∷ signaled (key 2 2) (key 1 1) 3 (signal (codes "b1") (codes "y"))
    ∷ signaled (key 2 3) (key 2 2) 4 (copy (codes "a1") (codes "x") (from 3 1)) ∷ signaled (key 3 2) (key 1 1) 3 (signal (codes "c1") (codes "z"))
    ∷ signaled (key 3 3) (key 3 2) 4 (copy (codes "a1") (codes "x") (from 3 1)) ∷ []

-- the branch that loses has more events than the one that wins
abbrev pub longer_loses : List Batch
longer_loses =
    begun ∷ signaled (key 1 2) (key 1 1) 3 (signal (codes "a1") (codes "x"))
    ∷ batch (run 1) (key 1 3) (Some (key 1 2)) None 4 (WorkflowExecutionTerminated (codes "stop") ∷ []) ∷ begun_again 4 None
    ∷ signaled (key 2 2) (key 1 1) 3 (signal (codes "b1") (codes "y")) ∷ []

-- a run is continued, and its first batch is lost
abbrev pub first_lost : List Batch
first_lost =
    batch (run 1) (key 1 2) (Some (key 1 1)) None 3 (DecisionTaskStarted ∷ [])
    ∷ batch (run 1) (key 1 3) (Some (key 1 2)) None 4 (DecisionTaskCompleted ∷ WorkflowExecutionContinuedAsNew (run 4) (codes "order") ∷ []) ∷ begun_again 4 (Some (key 1 3)) ∷ []

-- the key of a batch, where there is one
abbrev pub key_of : Option Batch → Option BatchKey
key_of None = None
key_of (Some b) = Some b.key
