-- Kinds of events.
use Rattle.std.specs.Prelude.{ℕ, List, codes}
use Rattle.ndc_event.specs.declared.kind.EventKind.{EventKind}
use Rattle.ndc_event.specs.declared.kind.EventKind.TheVariants.{WorkflowExecutionStarted, WorkflowExecutionSignaled, WorkflowExecutionCancelRequested, WorkflowExecutionCompleted, WorkflowExecutionFailed, WorkflowExecutionCanceled, WorkflowExecutionTerminated, WorkflowExecutionContinuedAsNew, DecisionTaskScheduled, DecisionTaskStarted, DecisionTaskCompleted, DecisionTaskFailed, DecisionTaskTimedOut, ActivityTaskScheduled, ActivityTaskStarted, ActivityTaskCompleted, ActivityTaskFailed, ActivityTaskTimedOut, TimerStarted, TimerFired, TimerCanceled, StartChildWorkflowExecutionInitiated, ChildWorkflowExecutionStarted, ChildWorkflowExecutionCompleted, ChildWorkflowExecutionFailed, MarkerRecorded}

-- how a kind is printed
unfoldable pub kind_name : EventKind → List ℕ
kind_name (WorkflowExecutionStarted _) = codes "WorkflowExecutionStarted"
kind_name (WorkflowExecutionSignaled _ _ _) = codes "WorkflowExecutionSignaled"
kind_name WorkflowExecutionCancelRequested = codes "WorkflowExecutionCancelRequested"
kind_name (WorkflowExecutionCompleted _) = codes "WorkflowExecutionCompleted"
kind_name (WorkflowExecutionFailed _) = codes "WorkflowExecutionFailed"
kind_name WorkflowExecutionCanceled = codes "WorkflowExecutionCanceled"
kind_name (WorkflowExecutionTerminated _) = codes "WorkflowExecutionTerminated"
kind_name (WorkflowExecutionContinuedAsNew _ _) = codes "WorkflowExecutionContinuedAsNew"
kind_name DecisionTaskScheduled = codes "DecisionTaskScheduled"
kind_name DecisionTaskStarted = codes "DecisionTaskStarted"
kind_name DecisionTaskCompleted = codes "DecisionTaskCompleted"
kind_name (DecisionTaskFailed _) = codes "DecisionTaskFailed"
kind_name DecisionTaskTimedOut = codes "DecisionTaskTimedOut"
kind_name (ActivityTaskScheduled _ _) = codes "ActivityTaskScheduled"
kind_name (ActivityTaskStarted _) = codes "ActivityTaskStarted"
kind_name (ActivityTaskCompleted _ _) = codes "ActivityTaskCompleted"
kind_name (ActivityTaskFailed _ _) = codes "ActivityTaskFailed"
kind_name (ActivityTaskTimedOut _) = codes "ActivityTaskTimedOut"
kind_name (TimerStarted _) = codes "TimerStarted"
kind_name (TimerFired _) = codes "TimerFired"
kind_name (TimerCanceled _) = codes "TimerCanceled"
kind_name (StartChildWorkflowExecutionInitiated _ _) = codes "StartChildWorkflowExecutionInitiated"
kind_name (ChildWorkflowExecutionStarted _) = codes "ChildWorkflowExecutionStarted"
kind_name (ChildWorkflowExecutionCompleted _ _) = codes "ChildWorkflowExecutionCompleted"
kind_name (ChildWorkflowExecutionFailed _ _) = codes "ChildWorkflowExecutionFailed"
kind_name (MarkerRecorded _) = codes "MarkerRecorded"

-- the place of a kind among all kinds
unfoldable pub kind_number : EventKind → ℕ
kind_number (WorkflowExecutionStarted _) = 0
kind_number (WorkflowExecutionSignaled _ _ _) = 1
kind_number WorkflowExecutionCancelRequested = 2
kind_number (WorkflowExecutionCompleted _) = 3
kind_number (WorkflowExecutionFailed _) = 4
kind_number WorkflowExecutionCanceled = 5
kind_number (WorkflowExecutionTerminated _) = 6
kind_number (WorkflowExecutionContinuedAsNew _ _) = 7
kind_number DecisionTaskScheduled = 8
kind_number DecisionTaskStarted = 9
kind_number DecisionTaskCompleted = 10
kind_number (DecisionTaskFailed _) = 11
kind_number DecisionTaskTimedOut = 12
kind_number (ActivityTaskScheduled _ _) = 13
kind_number (ActivityTaskStarted _) = 14
kind_number (ActivityTaskCompleted _ _) = 15
kind_number (ActivityTaskFailed _ _) = 16
kind_number (ActivityTaskTimedOut _) = 17
kind_number (TimerStarted _) = 18
kind_number (TimerFired _) = 19
kind_number (TimerCanceled _) = 20
kind_number (StartChildWorkflowExecutionInitiated _ _) = 21
kind_number (ChildWorkflowExecutionStarted _) = 22
kind_number (ChildWorkflowExecutionCompleted _ _) = 23
kind_number (ChildWorkflowExecutionFailed _ _) = 24
kind_number (MarkerRecorded _) = 25
