-- What events are about, and what happened in them: the words by which the events of two sides are matched.
use Rattle.std.specs.Prelude.{ℕ, Bool, true, false, not, ◌&&◌, ◌++◌, List, [], codes, nat_eq, unwrap_or, Option, Some, None, if◌then◌else◌}
use Rattle.std.specs.Cmp.Lexicographic.{pointwise}
use Rattle.ndc_event.specs.Attributes.{first_name}
use Rattle.ndc_event.specs.Key.{run_text}
use Rattle.ndc_event.specs.Kind.{kind_name}
use Rattle.ndc_event.specs.declared.key.RunId.{RunId}
use Rattle.ndc_event.specs.declared.kind.EventKind.{EventKind}
use Rattle.ndc_event.specs.declared.kind.EventKind.TheVariants.{WorkflowExecutionStarted, WorkflowExecutionSignaled, WorkflowExecutionCancelRequested, WorkflowExecutionCompleted, WorkflowExecutionFailed, WorkflowExecutionCanceled, WorkflowExecutionTerminated, WorkflowExecutionContinuedAsNew, DecisionTaskScheduled, DecisionTaskStarted, DecisionTaskCompleted, DecisionTaskFailed, DecisionTaskTimedOut, ActivityTaskScheduled, ActivityTaskStarted, ActivityTaskCompleted, ActivityTaskFailed, ActivityTaskTimedOut, TimerStarted, TimerFired, TimerCanceled, StartChildWorkflowExecutionInitiated, ChildWorkflowExecutionStarted, ChildWorkflowExecutionCompleted, ChildWorkflowExecutionFailed, MarkerRecorded}
use Rattle.ndc_explain_sides.specs.declared.subject.Sort.{Sort}
use Rattle.ndc_explain_sides.specs.declared.subject.Sort.TheVariants.{Start, Signal, CancelRequest, Close, Decision, Activity, Timer, Child, Marker}

-- what sort of thing an event is about
unfoldable pub sort_of : EventKind → Sort
sort_of (WorkflowExecutionStarted _) = Start
sort_of (WorkflowExecutionSignaled _ _ _) = Signal
sort_of WorkflowExecutionCancelRequested = CancelRequest
sort_of (WorkflowExecutionCompleted _) = Close
sort_of (WorkflowExecutionFailed _) = Close
sort_of WorkflowExecutionCanceled = Close
sort_of (WorkflowExecutionTerminated _) = Close
sort_of (WorkflowExecutionContinuedAsNew _ _) = Close
sort_of DecisionTaskScheduled = Decision
sort_of DecisionTaskStarted = Decision
sort_of DecisionTaskCompleted = Decision
sort_of (DecisionTaskFailed _) = Decision
sort_of DecisionTaskTimedOut = Decision
sort_of (ActivityTaskScheduled _ _) = Activity
sort_of (ActivityTaskStarted _) = Activity
sort_of (ActivityTaskCompleted _ _) = Activity
sort_of (ActivityTaskFailed _ _) = Activity
sort_of (ActivityTaskTimedOut _) = Activity
sort_of (TimerStarted _) = Timer
sort_of (TimerFired _) = Timer
sort_of (TimerCanceled _) = Timer
sort_of (StartChildWorkflowExecutionInitiated _ _) = Child
sort_of (ChildWorkflowExecutionStarted _) = Child
sort_of (ChildWorkflowExecutionCompleted _ _) = Child
sort_of (ChildWorkflowExecutionFailed _ _) = Child
sort_of (MarkerRecorded _) = Marker

-- whether things of a sort are told apart by the first name of their events; a run has one start, one close and one cancel request
abbrev pub has_id : Sort → Bool
has_id Start = false
has_id Signal = true
has_id CancelRequest = false
has_id Close = false
has_id Decision = false
has_id Activity = true
has_id Timer = true
has_id Child = true
has_id Marker = true

-- how a sort is called
abbrev pub sort_word : Sort → List ℕ
sort_word Start = codes "start"
sort_word Signal = codes "signal"
sort_word CancelRequest = codes "cancel request"
sort_word Close = codes "close"
sort_word Decision = codes "decision"
sort_word Activity = codes "activity"
sort_word Timer = codes "timer"
sort_word Child = codes "child"
sort_word Marker = codes "marker"

abbrev pub is_signal : Sort → Bool
is_signal Signal = true
is_signal _ = false

abbrev pub is_decision : Sort → Bool
is_decision Decision = true
is_decision _ = false

-- the id of what an event is about, where it has one
abbrev pub id_of : EventKind → List ℕ
id_of kind = if has_id (sort_of kind) then unwrap_or (first_name kind) [] else []

-- the run in which events are matched, or no run where they are matched over all
abbrev pub scope_text : Option RunId → List ℕ
scope_text None = codes "all"
scope_text (Some run) = run_text run

-- words, and an id, in a scope
abbrev pub label_of : Option RunId → List ℕ → List ℕ → List ℕ
label_of scope words id = scope_text scope ++ codes " " ++ words ++ codes " " ++ id

-- a scope by itself
abbrev pub scope_label : Option RunId → List ℕ
scope_label scope = label_of scope [] []

-- what an event is about: an activity, a timer, a child or a marker by its id, or the start, the close, the cancel request
abbrev pub subject_label : Option RunId → EventKind → List ℕ
subject_label scope kind = label_of scope (sort_word (sort_of kind)) (id_of kind)

-- what happened to it: the kind of the event and the id, without results and reasons
abbrev pub deed_label : Option RunId → EventKind → List ℕ
deed_label scope kind = label_of scope (kind_name kind) (id_of kind)

-- whether two labels are one
abbrev pub same_label : List ℕ → List ℕ → Bool
same_label one two = pointwise nat_eq one two
