-- The text of a batch: one JSON object without spaces, the keys of each object ascending.
use Rattle.std.specs.Prelude.{ℕ, List, Option, Some, None, codes, map}
use Rattle.serde_json.specs.Data.{Data, null, number, unsigned, string, array, object, Members, no_members, put}
use Rattle.serde_json.specs.View.{items_of}
use Rattle.serde_json.specs.Written.{compact_text}
use Rattle.ndc_event.specs.Key.{run_text}
use Rattle.ndc_event.specs.Kind.{kind_name}
use Rattle.ndc_event.specs.declared.batch.Batch.{Batch}
use Rattle.ndc_event.specs.declared.batch.Event.{Event}
use Rattle.ndc_event.specs.declared.key.BatchKey.{BatchKey}
use Rattle.ndc_event.specs.declared.key.Origin.{Origin}
use Rattle.ndc_event.specs.declared.kind.EventKind.{EventKind}
use Rattle.ndc_event.specs.declared.kind.EventKind.TheVariants.{WorkflowExecutionStarted, WorkflowExecutionSignaled, WorkflowExecutionCancelRequested, WorkflowExecutionCompleted, WorkflowExecutionFailed, WorkflowExecutionCanceled, WorkflowExecutionTerminated, WorkflowExecutionContinuedAsNew, DecisionTaskScheduled, DecisionTaskStarted, DecisionTaskCompleted, DecisionTaskFailed, DecisionTaskTimedOut, ActivityTaskScheduled, ActivityTaskStarted, ActivityTaskCompleted, ActivityTaskFailed, ActivityTaskTimedOut, TimerStarted, TimerFired, TimerCanceled, StartChildWorkflowExecutionInitiated, ChildWorkflowExecutionStarted, ChildWorkflowExecutionCompleted, ChildWorkflowExecutionFailed, MarkerRecorded}

-- a number
abbrev pub num : ℕ → Data
num n = number (unsigned n)

-- a key of a batch, as a carrier and a parent are written
abbrev pub key_data : BatchKey → Data
key_data key = object (put (codes "task") (num key.task) (put (codes "version") (num key.version) no_members))

-- where a copied signal comes from
abbrev pub origin_data : Origin → Data
origin_data o = object (put (codes "event") (num o.event) (put (codes "run") (string (run_text o.run)) (put (codes "version") (num o.version) no_members)))

-- the members, with the origin of a copy
abbrev pub with_origin : Option Origin → Members → Members
with_origin None ms = ms
with_origin (Some o) ms = put (codes "origin") (origin_data o) ms

-- the members, with the attributes of a kind
unfoldable pub with_attributes : EventKind → Members → Members
with_attributes (WorkflowExecutionStarted type) ms = put (codes "workflowType") (string type) ms
with_attributes (WorkflowExecutionSignaled name input origin) ms = put (codes "signalName") (string name) (put (codes "input") (string input) (with_origin origin ms))
with_attributes WorkflowExecutionCancelRequested ms = ms
with_attributes (WorkflowExecutionCompleted result) ms = put (codes "result") (string result) ms
with_attributes (WorkflowExecutionFailed reason) ms = put (codes "reason") (string reason) ms
with_attributes WorkflowExecutionCanceled ms = ms
with_attributes (WorkflowExecutionTerminated reason) ms = put (codes "reason") (string reason) ms
with_attributes (WorkflowExecutionContinuedAsNew run type) ms = put (codes "newExecutionRunId") (string (run_text run)) (put (codes "workflowType") (string type) ms)
with_attributes DecisionTaskScheduled ms = ms
with_attributes DecisionTaskStarted ms = ms
with_attributes DecisionTaskCompleted ms = ms
with_attributes (DecisionTaskFailed cause) ms = put (codes "cause") (string cause) ms
with_attributes DecisionTaskTimedOut ms = ms
with_attributes (ActivityTaskScheduled id type) ms = put (codes "activityId") (string id) (put (codes "activityType") (string type) ms)
with_attributes (ActivityTaskStarted id) ms = put (codes "activityId") (string id) ms
with_attributes (ActivityTaskCompleted id result) ms = put (codes "activityId") (string id) (put (codes "result") (string result) ms)
with_attributes (ActivityTaskFailed id reason) ms = put (codes "activityId") (string id) (put (codes "reason") (string reason) ms)
with_attributes (ActivityTaskTimedOut id) ms = put (codes "activityId") (string id) ms
with_attributes (TimerStarted id) ms = put (codes "timerId") (string id) ms
with_attributes (TimerFired id) ms = put (codes "timerId") (string id) ms
with_attributes (TimerCanceled id) ms = put (codes "timerId") (string id) ms
with_attributes (StartChildWorkflowExecutionInitiated id type) ms = put (codes "workflowId") (string id) (put (codes "workflowType") (string type) ms)
with_attributes (ChildWorkflowExecutionStarted id) ms = put (codes "workflowId") (string id) ms
with_attributes (ChildWorkflowExecutionCompleted id result) ms = put (codes "workflowId") (string id) (put (codes "result") (string result) ms)
with_attributes (ChildWorkflowExecutionFailed id reason) ms = put (codes "workflowId") (string id) (put (codes "reason") (string reason) ms)
with_attributes (MarkerRecorded name) ms = put (codes "markerName") (string name) ms

-- the members of an event that has this kind
abbrev pub event_members : Event → EventKind → Members
event_members e kind =
    with_attributes kind (put (codes "eventId") (num e.id) (put (codes "eventType") (string (kind_name kind)) (put (codes "version") (num e.version) no_members)))

-- an event
abbrev pub event_data : Event → Data
event_data e = object (event_members e e.kind)

-- the parent's key, or null in a run's first batch
abbrev pub parent_data : Option BatchKey → Data
parent_data None = null
parent_data (Some key) = key_data key

-- the members, with the key of the batch that carries this one
abbrev pub with_carrier : Option BatchKey → Members → Members
with_carrier None ms = ms
with_carrier (Some key) ms = put (codes "carrier") (key_data key) ms

-- a batch
abbrev pub batch_data : Batch → Data
batch_data b =
    object (with_carrier b.carrier
    (put (codes "domain") (string b.domain)
    (put (codes "events") (array (items_of (map event_data b.events)))
    (put (codes "parent") (parent_data b.parent)
    (put (codes "run") (string (run_text b.run))
    (put (codes "task") (num b.key.task)
    (put (codes "version") (num b.key.version)
    (put (codes "workflow") (string b.workflow) no_members))))))))

-- the text of a batch
unfoldable pub batch_text : Batch → List ℕ
batch_text b = compact_text (batch_data b)
