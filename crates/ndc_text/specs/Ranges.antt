-- The ranges of what a batch text holds.
use Rattle.std.specs.Prelude.{ℕ, ◌/◌, ◌%◌, ◌^◌, Bool, ◌&&◌, nat_le, List, [], ◌∷◌, Option, Some, None, IsTrue, ⊤}
use Rattle.ndc_event.specs.Name.{is_name}
use Rattle.ndc_event.specs.declared.batch.Batch.{Batch}
use Rattle.ndc_event.specs.declared.batch.Event.{Event}
use Rattle.ndc_event.specs.declared.key.BatchKey.{BatchKey}
use Rattle.ndc_event.specs.declared.key.Origin.{Origin}
use Rattle.ndc_event.specs.declared.kind.EventKind.{EventKind}
use Rattle.ndc_event.specs.declared.kind.EventKind.TheVariants.{WorkflowExecutionStarted, WorkflowExecutionSignaled, WorkflowExecutionCancelRequested, WorkflowExecutionCompleted, WorkflowExecutionFailed, WorkflowExecutionCanceled, WorkflowExecutionTerminated, WorkflowExecutionContinuedAsNew, DecisionTaskScheduled, DecisionTaskStarted, DecisionTaskCompleted, DecisionTaskFailed, DecisionTaskTimedOut, ActivityTaskScheduled, ActivityTaskStarted, ActivityTaskCompleted, ActivityTaskFailed, ActivityTaskTimedOut, TimerStarted, TimerFired, TimerCanceled, StartChildWorkflowExecutionInitiated, ChildWorkflowExecutionStarted, ChildWorkflowExecutionCompleted, ChildWorkflowExecutionFailed, MarkerRecorded}

-- event ids and tasks are 1 to 10^12
abbrev pub is_id : ℕ → Bool
is_id n = nat_le 1 n && nat_le n (10 ^ 12)

-- versions are at most 10^13
abbrev pub is_version : ℕ → Bool
is_version n = nat_le n (10 ^ 13)

-- a run's id is a version above the low 64 bits, and a task in them
abbrev pub is_run : ℕ → Bool
is_run n = is_version (n / 2 ^ 64) && is_id (n % 2 ^ 64)

-- a key's numbers are in range
abbrev pub KeyFits : BatchKey → Type 0
KeyFits key = IsTrue (is_id key.task) × IsTrue (is_version key.version)

-- a key's, where there is one
abbrev pub OptionKeyFits : Option BatchKey → Type 0
OptionKeyFits None = ⊤
OptionKeyFits (Some key) = KeyFits key

-- an origin's numbers are in range
abbrev pub OriginFits : Option Origin → Type 0
OriginFits None = ⊤
OriginFits (Some o) = IsTrue (is_id o.event) × IsTrue (is_run o.run.value) × IsTrue (is_version o.version)

-- the bytes are a name, as those of every `Name` are
abbrev pub IsName : List ℕ → Type 0
IsName bytes = IsTrue (is_name bytes)

-- the numbers in the attributes are in range
abbrev pub KindFits : EventKind → Type 0
KindFits (WorkflowExecutionStarted type) = IsName type
KindFits (WorkflowExecutionSignaled name input origin) = IsName name × IsName input × OriginFits origin
KindFits WorkflowExecutionCancelRequested = ⊤
KindFits (WorkflowExecutionCompleted result) = IsName result
KindFits (WorkflowExecutionFailed reason) = IsName reason
KindFits WorkflowExecutionCanceled = ⊤
KindFits (WorkflowExecutionTerminated reason) = IsName reason
KindFits (WorkflowExecutionContinuedAsNew run type) = IsTrue (is_run run.value) × IsName type
KindFits DecisionTaskScheduled = ⊤
KindFits DecisionTaskStarted = ⊤
KindFits DecisionTaskCompleted = ⊤
KindFits (DecisionTaskFailed cause) = IsName cause
KindFits DecisionTaskTimedOut = ⊤
KindFits (ActivityTaskScheduled id type) = IsName id × IsName type
KindFits (ActivityTaskStarted id) = IsName id
KindFits (ActivityTaskCompleted id result) = IsName id × IsName result
KindFits (ActivityTaskFailed id reason) = IsName id × IsName reason
KindFits (ActivityTaskTimedOut id) = IsName id
KindFits (TimerStarted id) = IsName id
KindFits (TimerFired id) = IsName id
KindFits (TimerCanceled id) = IsName id
KindFits (StartChildWorkflowExecutionInitiated id type) = IsName id × IsName type
KindFits (ChildWorkflowExecutionStarted id) = IsName id
KindFits (ChildWorkflowExecutionCompleted id result) = IsName id × IsName result
KindFits (ChildWorkflowExecutionFailed id reason) = IsName id × IsName reason
KindFits (MarkerRecorded name) = IsName name

-- an event's numbers are in range
abbrev pub EventFits : Event → Type 0
EventFits e = IsTrue (is_id e.id) × IsTrue (is_version e.version) × KindFits e.kind

-- those of each event
abbrev pub EventsFit : List Event → Type 0
EventsFit [] = ⊤
EventsFit (e ∷ es) = EventFits e × EventsFit es

-- the numbers of a batch are in range, and its names are names
pub record InRange (b : Batch) : Type 0 where
  pub domain : IsName b.domain
  pub run : IsTrue (is_run b.run.value)
  pub key : KeyFits b.key
  pub workflow : IsName b.workflow
  pub carrier : OptionKeyFits b.carrier
  pub parent : OptionKeyFits b.parent
  pub events : EventsFit b.events
