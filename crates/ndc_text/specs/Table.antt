-- The kinds of events by name, and the attributes that each has.
use Rattle.std.specs.Prelude.{ℕ, List, [], ◌∷◌, Option, Some, None, codes, if◌then◌else◌}
use Rattle.std.specs.Option.{option_or}
use Rattle.std.specs.Str.{bytes_eq}
use Rattle.ndc_text.specs.declared.tag.KindTag.{KindTag}
use Rattle.ndc_text.specs.declared.tag.KindTag.TheVariants.{WorkflowExecutionStarted, WorkflowExecutionSignaled, WorkflowExecutionCancelRequested, WorkflowExecutionCompleted, WorkflowExecutionFailed, WorkflowExecutionCanceled, WorkflowExecutionTerminated, WorkflowExecutionContinuedAsNew, DecisionTaskScheduled, DecisionTaskStarted, DecisionTaskCompleted, DecisionTaskFailed, DecisionTaskTimedOut, ActivityTaskScheduled, ActivityTaskStarted, ActivityTaskCompleted, ActivityTaskFailed, ActivityTaskTimedOut, TimerStarted, TimerFired, TimerCanceled, StartChildWorkflowExecutionInitiated, ChildWorkflowExecutionStarted, ChildWorkflowExecutionCompleted, ChildWorkflowExecutionFailed, MarkerRecorded}

-- a kind of this group of names
unfoldable pub workflow_tag : List ℕ → Option KindTag
workflow_tag text =
    if bytes_eq text (codes "WorkflowExecutionStarted") then Some WorkflowExecutionStarted
    else if bytes_eq text (codes "WorkflowExecutionSignaled") then Some WorkflowExecutionSignaled
    else if bytes_eq text (codes "WorkflowExecutionCancelRequested") then Some WorkflowExecutionCancelRequested
    else if bytes_eq text (codes "WorkflowExecutionCompleted") then Some WorkflowExecutionCompleted
    else if bytes_eq text (codes "WorkflowExecutionFailed") then Some WorkflowExecutionFailed
    else if bytes_eq text (codes "WorkflowExecutionCanceled") then Some WorkflowExecutionCanceled
    else if bytes_eq text (codes "WorkflowExecutionTerminated") then Some WorkflowExecutionTerminated
    else if bytes_eq text (codes "WorkflowExecutionContinuedAsNew") then Some WorkflowExecutionContinuedAsNew
    else None

-- a kind of this group of names
unfoldable pub decision_tag : List ℕ → Option KindTag
decision_tag text =
    if bytes_eq text (codes "DecisionTaskScheduled") then Some DecisionTaskScheduled
    else if bytes_eq text (codes "DecisionTaskStarted") then Some DecisionTaskStarted
    else if bytes_eq text (codes "DecisionTaskCompleted") then Some DecisionTaskCompleted
    else if bytes_eq text (codes "DecisionTaskFailed") then Some DecisionTaskFailed
    else if bytes_eq text (codes "DecisionTaskTimedOut") then Some DecisionTaskTimedOut
    else None

-- a kind of this group of names
unfoldable pub activity_tag : List ℕ → Option KindTag
activity_tag text =
    if bytes_eq text (codes "ActivityTaskScheduled") then Some ActivityTaskScheduled
    else if bytes_eq text (codes "ActivityTaskStarted") then Some ActivityTaskStarted
    else if bytes_eq text (codes "ActivityTaskCompleted") then Some ActivityTaskCompleted
    else if bytes_eq text (codes "ActivityTaskFailed") then Some ActivityTaskFailed
    else if bytes_eq text (codes "ActivityTaskTimedOut") then Some ActivityTaskTimedOut
    else None

-- a kind of this group of names
unfoldable pub timer_tag : List ℕ → Option KindTag
timer_tag text =
    if bytes_eq text (codes "TimerStarted") then Some TimerStarted
    else if bytes_eq text (codes "TimerFired") then Some TimerFired
    else if bytes_eq text (codes "TimerCanceled") then Some TimerCanceled
    else None

-- a kind of this group of names
unfoldable pub child_tag : List ℕ → Option KindTag
child_tag text =
    if bytes_eq text (codes "StartChildWorkflowExecutionInitiated") then Some StartChildWorkflowExecutionInitiated
    else if bytes_eq text (codes "ChildWorkflowExecutionStarted") then Some ChildWorkflowExecutionStarted
    else if bytes_eq text (codes "ChildWorkflowExecutionCompleted") then Some ChildWorkflowExecutionCompleted
    else if bytes_eq text (codes "ChildWorkflowExecutionFailed") then Some ChildWorkflowExecutionFailed
    else if bytes_eq text (codes "MarkerRecorded") then Some MarkerRecorded
    else None

-- the kind of this name
abbrev pub tag_of : List ℕ → Option KindTag
tag_of text = option_or (option_or (option_or (option_or (workflow_tag text) (decision_tag text)) (activity_tag text)) (timer_tag text)) (child_tag text)

-- the keys of a kind's attributes that are always there, each with a text
unfoldable pub attribute_keys : KindTag → List (List ℕ)
attribute_keys WorkflowExecutionStarted = codes "workflowType" ∷ []
attribute_keys WorkflowExecutionSignaled = codes "signalName" ∷ codes "input" ∷ []
attribute_keys WorkflowExecutionCancelRequested = []
attribute_keys WorkflowExecutionCompleted = codes "result" ∷ []
attribute_keys WorkflowExecutionFailed = codes "reason" ∷ []
attribute_keys WorkflowExecutionCanceled = []
attribute_keys WorkflowExecutionTerminated = codes "reason" ∷ []
attribute_keys WorkflowExecutionContinuedAsNew = codes "newExecutionRunId" ∷ codes "workflowType" ∷ []
attribute_keys DecisionTaskScheduled = []
attribute_keys DecisionTaskStarted = []
attribute_keys DecisionTaskCompleted = []
attribute_keys DecisionTaskFailed = codes "cause" ∷ []
attribute_keys DecisionTaskTimedOut = []
attribute_keys ActivityTaskScheduled = codes "activityId" ∷ codes "activityType" ∷ []
attribute_keys ActivityTaskStarted = codes "activityId" ∷ []
attribute_keys ActivityTaskCompleted = codes "activityId" ∷ codes "result" ∷ []
attribute_keys ActivityTaskFailed = codes "activityId" ∷ codes "reason" ∷ []
attribute_keys ActivityTaskTimedOut = codes "activityId" ∷ []
attribute_keys TimerStarted = codes "timerId" ∷ []
attribute_keys TimerFired = codes "timerId" ∷ []
attribute_keys TimerCanceled = codes "timerId" ∷ []
attribute_keys StartChildWorkflowExecutionInitiated = codes "workflowId" ∷ codes "workflowType" ∷ []
attribute_keys ChildWorkflowExecutionStarted = codes "workflowId" ∷ []
attribute_keys ChildWorkflowExecutionCompleted = codes "workflowId" ∷ codes "result" ∷ []
attribute_keys ChildWorkflowExecutionFailed = codes "workflowId" ∷ codes "reason" ∷ []
attribute_keys MarkerRecorded = codes "markerName" ∷ []

-- the keys of a kind's attributes that may be missing
abbrev pub optional_keys : KindTag → List (List ℕ)
optional_keys WorkflowExecutionSignaled = codes "origin" ∷ []
optional_keys _ = []
