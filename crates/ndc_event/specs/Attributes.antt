-- The attributes of kinds of events, by which kinds are told apart.
use Rattle.std.specs.Prelude.{ℕ, List, Option, None, Some}
use Rattle.ndc_event.specs.declared.kind.EventKind.{EventKind}
use Rattle.ndc_event.specs.declared.kind.EventKind.TheVariants.{WorkflowExecutionStarted, WorkflowExecutionSignaled, WorkflowExecutionCancelRequested, WorkflowExecutionCompleted, WorkflowExecutionFailed, WorkflowExecutionCanceled, WorkflowExecutionTerminated, WorkflowExecutionContinuedAsNew, DecisionTaskScheduled, DecisionTaskStarted, DecisionTaskCompleted, DecisionTaskFailed, DecisionTaskTimedOut, ActivityTaskScheduled, ActivityTaskStarted, ActivityTaskCompleted, ActivityTaskFailed, ActivityTaskTimedOut, TimerStarted, TimerFired, TimerCanceled, StartChildWorkflowExecutionInitiated, ChildWorkflowExecutionStarted, ChildWorkflowExecutionCompleted, ChildWorkflowExecutionFailed, MarkerRecorded}
use Rattle.ndc_event.specs.declared.key.Origin.{Origin}
use Rattle.ndc_event.specs.declared.key.RunId.{RunId}

-- the first attribute that is a name
unfoldable pub first_name : EventKind → Option (List ℕ)
first_name (WorkflowExecutionStarted name) = Some name
first_name (WorkflowExecutionSignaled name _ _) = Some name
first_name WorkflowExecutionCancelRequested = None
first_name (WorkflowExecutionCompleted name) = Some name
first_name (WorkflowExecutionFailed name) = Some name
first_name WorkflowExecutionCanceled = None
first_name (WorkflowExecutionTerminated name) = Some name
first_name (WorkflowExecutionContinuedAsNew _ name) = Some name
first_name DecisionTaskScheduled = None
first_name DecisionTaskStarted = None
first_name DecisionTaskCompleted = None
first_name (DecisionTaskFailed name) = Some name
first_name DecisionTaskTimedOut = None
first_name (ActivityTaskScheduled name _) = Some name
first_name (ActivityTaskStarted name) = Some name
first_name (ActivityTaskCompleted name _) = Some name
first_name (ActivityTaskFailed name _) = Some name
first_name (ActivityTaskTimedOut name) = Some name
first_name (TimerStarted name) = Some name
first_name (TimerFired name) = Some name
first_name (TimerCanceled name) = Some name
first_name (StartChildWorkflowExecutionInitiated name _) = Some name
first_name (ChildWorkflowExecutionStarted name) = Some name
first_name (ChildWorkflowExecutionCompleted name _) = Some name
first_name (ChildWorkflowExecutionFailed name _) = Some name
first_name (MarkerRecorded name) = Some name

-- the second attribute that is a name
unfoldable pub second_name : EventKind → Option (List ℕ)
second_name (WorkflowExecutionStarted _) = None
second_name (WorkflowExecutionSignaled _ name _) = Some name
second_name WorkflowExecutionCancelRequested = None
second_name (WorkflowExecutionCompleted _) = None
second_name (WorkflowExecutionFailed _) = None
second_name WorkflowExecutionCanceled = None
second_name (WorkflowExecutionTerminated _) = None
second_name (WorkflowExecutionContinuedAsNew _ _) = None
second_name DecisionTaskScheduled = None
second_name DecisionTaskStarted = None
second_name DecisionTaskCompleted = None
second_name (DecisionTaskFailed _) = None
second_name DecisionTaskTimedOut = None
second_name (ActivityTaskScheduled _ name) = Some name
second_name (ActivityTaskStarted _) = None
second_name (ActivityTaskCompleted _ name) = Some name
second_name (ActivityTaskFailed _ name) = Some name
second_name (ActivityTaskTimedOut _) = None
second_name (TimerStarted _) = None
second_name (TimerFired _) = None
second_name (TimerCanceled _) = None
second_name (StartChildWorkflowExecutionInitiated _ name) = Some name
second_name (ChildWorkflowExecutionStarted _) = None
second_name (ChildWorkflowExecutionCompleted _ name) = Some name
second_name (ChildWorkflowExecutionFailed _ name) = Some name
second_name (MarkerRecorded _) = None

-- the run that a closing event goes on as
unfoldable pub next_run : EventKind → Option RunId
next_run (WorkflowExecutionStarted _) = None
next_run (WorkflowExecutionSignaled _ _ _) = None
next_run WorkflowExecutionCancelRequested = None
next_run (WorkflowExecutionCompleted _) = None
next_run (WorkflowExecutionFailed _) = None
next_run WorkflowExecutionCanceled = None
next_run (WorkflowExecutionTerminated _) = None
next_run (WorkflowExecutionContinuedAsNew x _) = Some x
next_run DecisionTaskScheduled = None
next_run DecisionTaskStarted = None
next_run DecisionTaskCompleted = None
next_run (DecisionTaskFailed _) = None
next_run DecisionTaskTimedOut = None
next_run (ActivityTaskScheduled _ _) = None
next_run (ActivityTaskStarted _) = None
next_run (ActivityTaskCompleted _ _) = None
next_run (ActivityTaskFailed _ _) = None
next_run (ActivityTaskTimedOut _) = None
next_run (TimerStarted _) = None
next_run (TimerFired _) = None
next_run (TimerCanceled _) = None
next_run (StartChildWorkflowExecutionInitiated _ _) = None
next_run (ChildWorkflowExecutionStarted _) = None
next_run (ChildWorkflowExecutionCompleted _ _) = None
next_run (ChildWorkflowExecutionFailed _ _) = None
next_run (MarkerRecorded _) = None

-- the origin that a copied signal names
unfoldable pub copied_origin : EventKind → Option Origin
copied_origin (WorkflowExecutionStarted _) = None
copied_origin (WorkflowExecutionSignaled _ _ x) = x
copied_origin WorkflowExecutionCancelRequested = None
copied_origin (WorkflowExecutionCompleted _) = None
copied_origin (WorkflowExecutionFailed _) = None
copied_origin WorkflowExecutionCanceled = None
copied_origin (WorkflowExecutionTerminated _) = None
copied_origin (WorkflowExecutionContinuedAsNew _ _) = None
copied_origin DecisionTaskScheduled = None
copied_origin DecisionTaskStarted = None
copied_origin DecisionTaskCompleted = None
copied_origin (DecisionTaskFailed _) = None
copied_origin DecisionTaskTimedOut = None
copied_origin (ActivityTaskScheduled _ _) = None
copied_origin (ActivityTaskStarted _) = None
copied_origin (ActivityTaskCompleted _ _) = None
copied_origin (ActivityTaskFailed _ _) = None
copied_origin (ActivityTaskTimedOut _) = None
copied_origin (TimerStarted _) = None
copied_origin (TimerFired _) = None
copied_origin (TimerCanceled _) = None
copied_origin (StartChildWorkflowExecutionInitiated _ _) = None
copied_origin (ChildWorkflowExecutionStarted _) = None
copied_origin (ChildWorkflowExecutionCompleted _ _) = None
copied_origin (ChildWorkflowExecutionFailed _ _) = None
copied_origin (MarkerRecorded _) = None
