-- Which numbers a batch may have, as tests: they pass exactly where `InRange` holds.
use Rattle.std.specs.Prelude.{Bool, true, ◌&&◌, Option, Some, None}
use Rattle.std.specs.List.{list_all}
use Rattle.ndc_event.specs.Name.{is_name}
use Rattle.ndc_event.specs.declared.batch.Batch.{Batch}
use Rattle.ndc_event.specs.declared.batch.Event.{Event}
use Rattle.ndc_event.specs.declared.key.BatchKey.{BatchKey}
use Rattle.ndc_event.specs.declared.key.Origin.{Origin}
use Rattle.ndc_event.specs.declared.kind.EventKind.{EventKind}
use Rattle.ndc_event.specs.declared.kind.EventKind.TheVariants.{WorkflowExecutionStarted, WorkflowExecutionSignaled, WorkflowExecutionCancelRequested, WorkflowExecutionCompleted, WorkflowExecutionFailed, WorkflowExecutionCanceled, WorkflowExecutionTerminated, WorkflowExecutionContinuedAsNew, DecisionTaskScheduled, DecisionTaskStarted, DecisionTaskCompleted, DecisionTaskFailed, DecisionTaskTimedOut, ActivityTaskScheduled, ActivityTaskStarted, ActivityTaskCompleted, ActivityTaskFailed, ActivityTaskTimedOut, TimerStarted, TimerFired, TimerCanceled, StartChildWorkflowExecutionInitiated, ChildWorkflowExecutionStarted, ChildWorkflowExecutionCompleted, ChildWorkflowExecutionFailed, MarkerRecorded}
use Rattle.ndc_text.specs.Ranges.{is_id, is_run, is_version}

-- whether a key's numbers are in range
abbrev pub key_fits : BatchKey → Bool
key_fits key = is_id key.task && is_version key.version

-- whether a key's are, where there is one
abbrev pub option_key_fits : Option BatchKey → Bool
option_key_fits None = true
option_key_fits (Some key) = key_fits key

-- whether an origin's numbers are in range, where there is one
abbrev pub origin_fits : Option Origin → Bool
origin_fits None = true
origin_fits (Some o) = is_id o.event && is_run o.run.value && is_version o.version

-- whether the numbers in the attributes are in range, and its names are names
unfoldable pub kind_fits : EventKind → Bool
kind_fits (WorkflowExecutionStarted type) = is_name type
kind_fits (WorkflowExecutionSignaled name input origin) = is_name name && is_name input && origin_fits origin
kind_fits WorkflowExecutionCancelRequested = true
kind_fits (WorkflowExecutionCompleted result) = is_name result
kind_fits (WorkflowExecutionFailed reason) = is_name reason
kind_fits WorkflowExecutionCanceled = true
kind_fits (WorkflowExecutionTerminated reason) = is_name reason
kind_fits (WorkflowExecutionContinuedAsNew run type) = is_run run.value && is_name type
kind_fits DecisionTaskScheduled = true
kind_fits DecisionTaskStarted = true
kind_fits DecisionTaskCompleted = true
kind_fits (DecisionTaskFailed cause) = is_name cause
kind_fits DecisionTaskTimedOut = true
kind_fits (ActivityTaskScheduled id type) = is_name id && is_name type
kind_fits (ActivityTaskStarted id) = is_name id
kind_fits (ActivityTaskCompleted id result) = is_name id && is_name result
kind_fits (ActivityTaskFailed id reason) = is_name id && is_name reason
kind_fits (ActivityTaskTimedOut id) = is_name id
kind_fits (TimerStarted id) = is_name id
kind_fits (TimerFired id) = is_name id
kind_fits (TimerCanceled id) = is_name id
kind_fits (StartChildWorkflowExecutionInitiated id type) = is_name id && is_name type
kind_fits (ChildWorkflowExecutionStarted id) = is_name id
kind_fits (ChildWorkflowExecutionCompleted id result) = is_name id && is_name result
kind_fits (ChildWorkflowExecutionFailed id reason) = is_name id && is_name reason
kind_fits (MarkerRecorded name) = is_name name

-- whether an event's numbers are in range
abbrev pub event_fits : Event → Bool
event_fits e = is_id e.id && is_version e.version && kind_fits e.kind

-- whether the numbers of a batch are in range, and its names are names
unfoldable pub is_in_range : Batch → Bool
is_in_range b =
    is_name b.domain && is_name b.workflow && is_run b.run.value && key_fits b.key && option_key_fits b.parent && option_key_fits b.carrier && list_all event_fits b.events
