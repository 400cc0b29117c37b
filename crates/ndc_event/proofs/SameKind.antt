-- Kinds whose names and attributes are the same are one.
use Rattle.std.proofs.Common.{◌≡◌, ℕ, ◌==◌, List, [], Option, Some, None, if◌then◌else◌, codes, option_map, refl, ap, sym, ◌∙◌}
use Rattle.std.specs.Str.{bytes_eq}
use Rattle.ndc_event.specs.declared.kind.EventKind.{EventKind}
use Rattle.ndc_event.specs.declared.kind.EventKind.TheVariants.{WorkflowExecutionStarted, WorkflowExecutionSignaled, WorkflowExecutionCancelRequested, WorkflowExecutionCompleted, WorkflowExecutionFailed, WorkflowExecutionCanceled, WorkflowExecutionTerminated, WorkflowExecutionContinuedAsNew, DecisionTaskScheduled, DecisionTaskStarted, DecisionTaskCompleted, DecisionTaskFailed, DecisionTaskTimedOut, ActivityTaskScheduled, ActivityTaskStarted, ActivityTaskCompleted, ActivityTaskFailed, ActivityTaskTimedOut, TimerStarted, TimerFired, TimerCanceled, StartChildWorkflowExecutionInitiated, ChildWorkflowExecutionStarted, ChildWorkflowExecutionCompleted, ChildWorkflowExecutionFailed, MarkerRecorded}
use Rattle.ndc_event.specs.declared.key.Origin.{Origin}
use Rattle.ndc_event.specs.declared.key.RunId.{RunId}
use Rattle.ndc_event.specs.Kind.{kind_name, kind_number}
use Rattle.ndc_event.specs.Attributes.{first_name, second_name, next_run, copied_origin}

-- what a kind of two attributes makes of them
abbrev both_of : {A B : Type 0} → (A → B → EventKind) → Option A → Option B → Option EventKind
both_of make (Some a) (Some b) = Some (make a b)
both_of make _ _ = None

-- the kind of a name and attributes
abbrev kind_from : List ℕ → Option (List ℕ) → Option (List ℕ) → Option RunId → Option Origin → Option EventKind
kind_from name first second run origin =
    if bytes_eq name (codes "WorkflowExecutionStarted") then option_map WorkflowExecutionStarted first
    else if bytes_eq name (codes "WorkflowExecutionSignaled") then both_of (λ name input. WorkflowExecutionSignaled name input origin) first second
    else if bytes_eq name (codes "WorkflowExecutionCancelRequested") then Some WorkflowExecutionCancelRequested
    else if bytes_eq name (codes "WorkflowExecutionCompleted") then option_map WorkflowExecutionCompleted first
    else if bytes_eq name (codes "WorkflowExecutionFailed") then option_map WorkflowExecutionFailed first
    else if bytes_eq name (codes "WorkflowExecutionCanceled") then Some WorkflowExecutionCanceled
    else if bytes_eq name (codes "WorkflowExecutionTerminated") then option_map WorkflowExecutionTerminated first
    else if bytes_eq name (codes "WorkflowExecutionContinuedAsNew") then both_of WorkflowExecutionContinuedAsNew run first
    else if bytes_eq name (codes "DecisionTaskScheduled") then Some DecisionTaskScheduled
    else if bytes_eq name (codes "DecisionTaskStarted") then Some DecisionTaskStarted
    else if bytes_eq name (codes "DecisionTaskCompleted") then Some DecisionTaskCompleted
    else if bytes_eq name (codes "DecisionTaskFailed") then option_map DecisionTaskFailed first
    else if bytes_eq name (codes "DecisionTaskTimedOut") then Some DecisionTaskTimedOut
    else if bytes_eq name (codes "ActivityTaskScheduled") then both_of ActivityTaskScheduled first second
    else if bytes_eq name (codes "ActivityTaskStarted") then option_map ActivityTaskStarted first
    else if bytes_eq name (codes "ActivityTaskCompleted") then both_of ActivityTaskCompleted first second
    else if bytes_eq name (codes "ActivityTaskFailed") then both_of ActivityTaskFailed first second
    else if bytes_eq name (codes "ActivityTaskTimedOut") then option_map ActivityTaskTimedOut first
    else if bytes_eq name (codes "TimerStarted") then option_map TimerStarted first
    else if bytes_eq name (codes "TimerFired") then option_map TimerFired first
    else if bytes_eq name (codes "TimerCanceled") then option_map TimerCanceled first
    else if bytes_eq name (codes "StartChildWorkflowExecutionInitiated") then both_of StartChildWorkflowExecutionInitiated first second
    else if bytes_eq name (codes "ChildWorkflowExecutionStarted") then option_map ChildWorkflowExecutionStarted first
    else if bytes_eq name (codes "ChildWorkflowExecutionCompleted") then both_of ChildWorkflowExecutionCompleted first second
    else if bytes_eq name (codes "ChildWorkflowExecutionFailed") then both_of ChildWorkflowExecutionFailed first second
    else if bytes_eq name (codes "MarkerRecorded") then option_map MarkerRecorded first
    else None

-- the kind is found again
again : (k : EventKind) → kind_from (kind_name k) (first_name k) (second_name k) (next_run k) (copied_origin k) ≡ Some k
unfolding kind_name first_name second_name next_run copied_origin
again (WorkflowExecutionStarted x0) = refl
again (WorkflowExecutionSignaled x0 x1 x2) = refl
again WorkflowExecutionCancelRequested = refl
again (WorkflowExecutionCompleted x0) = refl
again (WorkflowExecutionFailed x0) = refl
again WorkflowExecutionCanceled = refl
again (WorkflowExecutionTerminated x0) = refl
again (WorkflowExecutionContinuedAsNew x0 x1) = refl
again DecisionTaskScheduled = refl
again DecisionTaskStarted = refl
again DecisionTaskCompleted = refl
again (DecisionTaskFailed x0) = refl
again DecisionTaskTimedOut = refl
again (ActivityTaskScheduled x0 x1) = refl
again (ActivityTaskStarted x0) = refl
again (ActivityTaskCompleted x0 x1) = refl
again (ActivityTaskFailed x0 x1) = refl
again (ActivityTaskTimedOut x0) = refl
again (TimerStarted x0) = refl
again (TimerFired x0) = refl
again (TimerCanceled x0) = refl
again (StartChildWorkflowExecutionInitiated x0 x1) = refl
again (ChildWorkflowExecutionStarted x0) = refl
again (ChildWorkflowExecutionCompleted x0 x1) = refl
again (ChildWorkflowExecutionFailed x0 x1) = refl
again (MarkerRecorded x0) = refl

some_is : (a b : EventKind) → Some a ≡ Some b → a ≡ b
some_is a b e = cc

pub same_kind : (a b : EventKind) → kind_name a ≡ kind_name b → first_name a ≡ first_name b → second_name a ≡ second_name b → next_run a ≡ next_run b → copied_origin a ≡ copied_origin b → a ≡ b
same_kind a b n f s r o = some_is a b (sym (again a) ∙ rw (n, f, s, r, o) (again b))

-- the name of the kind at a place
abbrev name_at : ℕ → List ℕ
name_at number =
    if number == 0 then codes "WorkflowExecutionStarted"
    else if number == 1 then codes "WorkflowExecutionSignaled"
    else if number == 2 then codes "WorkflowExecutionCancelRequested"
    else if number == 3 then codes "WorkflowExecutionCompleted"
    else if number == 4 then codes "WorkflowExecutionFailed"
    else if number == 5 then codes "WorkflowExecutionCanceled"
    else if number == 6 then codes "WorkflowExecutionTerminated"
    else if number == 7 then codes "WorkflowExecutionContinuedAsNew"
    else if number == 8 then codes "DecisionTaskScheduled"
    else if number == 9 then codes "DecisionTaskStarted"
    else if number == 10 then codes "DecisionTaskCompleted"
    else if number == 11 then codes "DecisionTaskFailed"
    else if number == 12 then codes "DecisionTaskTimedOut"
    else if number == 13 then codes "ActivityTaskScheduled"
    else if number == 14 then codes "ActivityTaskStarted"
    else if number == 15 then codes "ActivityTaskCompleted"
    else if number == 16 then codes "ActivityTaskFailed"
    else if number == 17 then codes "ActivityTaskTimedOut"
    else if number == 18 then codes "TimerStarted"
    else if number == 19 then codes "TimerFired"
    else if number == 20 then codes "TimerCanceled"
    else if number == 21 then codes "StartChildWorkflowExecutionInitiated"
    else if number == 22 then codes "ChildWorkflowExecutionStarted"
    else if number == 23 then codes "ChildWorkflowExecutionCompleted"
    else if number == 24 then codes "ChildWorkflowExecutionFailed"
    else if number == 25 then codes "MarkerRecorded"
    else []

name-found : (k : EventKind) → name_at (kind_number k) ≡ kind_name k
unfolding kind_name kind_number
name-found (WorkflowExecutionStarted x) = refl
name-found (WorkflowExecutionSignaled x y z) = refl
name-found WorkflowExecutionCancelRequested = refl
name-found (WorkflowExecutionCompleted x) = refl
name-found (WorkflowExecutionFailed x) = refl
name-found WorkflowExecutionCanceled = refl
name-found (WorkflowExecutionTerminated x) = refl
name-found (WorkflowExecutionContinuedAsNew x y) = refl
name-found DecisionTaskScheduled = refl
name-found DecisionTaskStarted = refl
name-found DecisionTaskCompleted = refl
name-found (DecisionTaskFailed x) = refl
name-found DecisionTaskTimedOut = refl
name-found (ActivityTaskScheduled x y) = refl
name-found (ActivityTaskStarted x) = refl
name-found (ActivityTaskCompleted x y) = refl
name-found (ActivityTaskFailed x y) = refl
name-found (ActivityTaskTimedOut x) = refl
name-found (TimerStarted x) = refl
name-found (TimerFired x) = refl
name-found (TimerCanceled x) = refl
name-found (StartChildWorkflowExecutionInitiated x y) = refl
name-found (ChildWorkflowExecutionStarted x) = refl
name-found (ChildWorkflowExecutionCompleted x y) = refl
name-found (ChildWorkflowExecutionFailed x y) = refl
name-found (MarkerRecorded x) = refl

-- kinds of one place have one name
pub same_name : (a b : EventKind) → kind_number a ≡ kind_number b → kind_name a ≡ kind_name b
same_name a b same = sym (name-found a) ∙ ap name_at same ∙ name-found b
