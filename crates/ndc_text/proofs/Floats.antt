-- The data of a batch has no float, so its text is known.
use Rattle.std.proofs.Common.{◌≡◌, false, List, [], ◌∷◌, Option, Some, None, map, refl}
use Rattle.std.specs.Prelude.{codes}
use Rattle.serde_json.specs.Data.{string, array, object, no_members, put}
use Rattle.ndc_event.specs.Key.{run_text}
use Rattle.serde_json.specs.View.{items_of}
use Rattle.serde_json.specs.Written.{has_float, items_have_float}
use Rattle.ndc_event.specs.declared.batch.Batch.{Batch}
use Rattle.ndc_event.specs.declared.batch.Event.{Event}
use Rattle.ndc_event.specs.declared.key.BatchKey.{BatchKey}
use Rattle.ndc_event.specs.declared.kind.EventKind.{EventKind}
use Rattle.ndc_event.specs.declared.kind.EventKind.TheVariants.{WorkflowExecutionStarted, WorkflowExecutionSignaled, WorkflowExecutionCancelRequested, WorkflowExecutionCompleted, WorkflowExecutionFailed, WorkflowExecutionCanceled, WorkflowExecutionTerminated, WorkflowExecutionContinuedAsNew, DecisionTaskScheduled, DecisionTaskStarted, DecisionTaskCompleted, DecisionTaskFailed, DecisionTaskTimedOut, ActivityTaskScheduled, ActivityTaskStarted, ActivityTaskCompleted, ActivityTaskFailed, ActivityTaskTimedOut, TimerStarted, TimerFired, TimerCanceled, StartChildWorkflowExecutionInitiated, ChildWorkflowExecutionStarted, ChildWorkflowExecutionCompleted, ChildWorkflowExecutionFailed, MarkerRecorded}
use Rattle.ndc_text.specs.Text.{num, with_attributes, event_members, event_data, batch_data, parent_data, with_carrier}

pub kind_floats : (e : Event) (k : EventKind) → has_float (object (event_members e k)) ≡ false
unfolding with_attributes
kind_floats e (WorkflowExecutionStarted type) = refl
kind_floats e (WorkflowExecutionSignaled name input None) = refl
kind_floats e (WorkflowExecutionSignaled name input (Some origin)) = refl
kind_floats e WorkflowExecutionCancelRequested = refl
kind_floats e (WorkflowExecutionCompleted result) = refl
kind_floats e (WorkflowExecutionFailed reason) = refl
kind_floats e WorkflowExecutionCanceled = refl
kind_floats e (WorkflowExecutionTerminated reason) = refl
kind_floats e (WorkflowExecutionContinuedAsNew run type) = refl
kind_floats e DecisionTaskScheduled = refl
kind_floats e DecisionTaskStarted = refl
kind_floats e DecisionTaskCompleted = refl
kind_floats e (DecisionTaskFailed cause) = refl
kind_floats e DecisionTaskTimedOut = refl
kind_floats e (ActivityTaskScheduled id type) = refl
kind_floats e (ActivityTaskStarted id) = refl
kind_floats e (ActivityTaskCompleted id result) = refl
kind_floats e (ActivityTaskFailed id reason) = refl
kind_floats e (ActivityTaskTimedOut id) = refl
kind_floats e (TimerStarted id) = refl
kind_floats e (TimerFired id) = refl
kind_floats e (TimerCanceled id) = refl
kind_floats e (StartChildWorkflowExecutionInitiated id type) = refl
kind_floats e (ChildWorkflowExecutionStarted id) = refl
kind_floats e (ChildWorkflowExecutionCompleted id result) = refl
kind_floats e (ChildWorkflowExecutionFailed id reason) = refl
kind_floats e (MarkerRecorded name) = refl

pub events_floats : (es : List Event) → items_have_float (items_of (map event_data es)) ≡ false
events_floats [] = refl
events_floats (e ∷ es) = rw (kind_floats e e.kind, events_floats es) refl

options_float : (b : Batch) (carrier parent : Option BatchKey) → items_have_float (items_of (map event_data b.events)) ≡ false
    → has_float (object (with_carrier carrier (put (codes "domain") (string b.domain) (put (codes "events") (array (items_of (map event_data b.events))) (put (codes "parent") (parent_data parent)
    (put (codes "run") (string (run_text b.run)) (put (codes "task") (num b.key.task) (put (codes "version") (num b.key.version) (put (codes "workflow") (string b.workflow) no_members))))))))) ≡ false
options_float b None None h = rw h refl
options_float b None (Some parent) h = rw h refl
options_float b (Some carrier) None h = rw h refl
options_float b (Some carrier) (Some parent) h = rw h refl

pub batch_floats : (b : Batch) → has_float (batch_data b) ≡ false
batch_floats b = options_float b b.carrier b.parent (events_floats b.events)
