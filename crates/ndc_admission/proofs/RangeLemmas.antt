-- The tests of ranges pass exactly where a batch's numbers are in range.
use Rattle.std.proofs.Common.{◌≡◌, true, ◌&&◌, List, [], ◌∷◌, Option, Some, None, refl}
use Rattle.std.specs.List.{list_all}
use Rattle.std.proofs.lemmas.Bool.{and_parts, and_from}
use Rattle.ndc_event.specs.Name.{is_name}
use Rattle.ndc_event.specs.declared.batch.Batch.{Batch}
use Rattle.ndc_event.specs.declared.batch.Event.{Event}
use Rattle.ndc_event.specs.declared.key.BatchKey.{BatchKey}
use Rattle.ndc_event.specs.declared.key.Origin.{Origin}
use Rattle.ndc_event.specs.declared.kind.EventKind.{EventKind}
use Rattle.ndc_event.specs.declared.kind.EventKind.TheVariants.{WorkflowExecutionStarted, WorkflowExecutionSignaled, WorkflowExecutionCancelRequested, WorkflowExecutionCompleted, WorkflowExecutionFailed, WorkflowExecutionCanceled, WorkflowExecutionTerminated, WorkflowExecutionContinuedAsNew, DecisionTaskScheduled, DecisionTaskStarted, DecisionTaskCompleted, DecisionTaskFailed, DecisionTaskTimedOut, ActivityTaskScheduled, ActivityTaskStarted, ActivityTaskCompleted, ActivityTaskFailed, ActivityTaskTimedOut, TimerStarted, TimerFired, TimerCanceled, StartChildWorkflowExecutionInitiated, ChildWorkflowExecutionStarted, ChildWorkflowExecutionCompleted, ChildWorkflowExecutionFailed, MarkerRecorded}
use Rattle.ndc_text.specs.Ranges.{is_id, is_run, is_version, KeyFits, OptionKeyFits, OriginFits, KindFits, EventFits, EventsFit, InRange}
use Rattle.ndc_admission.specs.Numbers.{key_fits, option_key_fits, origin_fits, kind_fits, event_fits, is_in_range}

key_range : (key : BatchKey) → key_fits key ≡ true → KeyFits key
key_range key e = and_parts (is_id key.task) (is_version key.version) e

range_key : (key : BatchKey) → KeyFits key → key_fits key ≡ true
range_key key h = and_from (is_id key.task) (is_version key.version) h.0 h.1

option_range : (key : Option BatchKey) → option_key_fits key ≡ true → OptionKeyFits key
option_range None e = tt
option_range (Some key) e = key_range key e

range_option : (key : Option BatchKey) → OptionKeyFits key → option_key_fits key ≡ true
range_option None h = refl
range_option (Some key) h = range_key key h

origin_range : (origin : Option Origin) → origin_fits origin ≡ true → OriginFits origin
origin_range None e = tt
origin_range (Some o) e =
    let all = and_parts (is_id o.event && is_run o.run.value) (is_version o.version) e in
    let front = and_parts (is_id o.event) (is_run o.run.value) all.0 in
    (front.0, front.1, all.1)

range_origin : (origin : Option Origin) → OriginFits origin → origin_fits origin ≡ true
range_origin None h = refl
range_origin (Some o) h =
    and_from (is_id o.event && is_run o.run.value) (is_version o.version) (and_from (is_id o.event) (is_run o.run.value) h.0 h.1) h.2

kind_range : (kind : EventKind) → kind_fits kind ≡ true → KindFits kind
unfolding kind_fits
kind_range (WorkflowExecutionStarted type) e = e
kind_range (WorkflowExecutionSignaled name input origin) e =
    let both = and_parts (is_name name && is_name input) (origin_fits origin) e in
    let names = and_parts (is_name name) (is_name input) both.0 in
    (names.0, names.1, origin_range origin both.1)
kind_range WorkflowExecutionCancelRequested e = tt
kind_range (WorkflowExecutionCompleted result) e = e
kind_range (WorkflowExecutionFailed reason) e = e
kind_range WorkflowExecutionCanceled e = tt
kind_range (WorkflowExecutionTerminated reason) e = e
kind_range (WorkflowExecutionContinuedAsNew run type) e = and_parts (is_run run.value) (is_name type) e
kind_range DecisionTaskScheduled e = tt
kind_range DecisionTaskStarted e = tt
kind_range DecisionTaskCompleted e = tt
kind_range (DecisionTaskFailed cause) e = e
kind_range DecisionTaskTimedOut e = tt
kind_range (ActivityTaskScheduled id type) e = and_parts (is_name id) (is_name type) e
kind_range (ActivityTaskStarted id) e = e
kind_range (ActivityTaskCompleted id result) e = and_parts (is_name id) (is_name result) e
kind_range (ActivityTaskFailed id reason) e = and_parts (is_name id) (is_name reason) e
kind_range (ActivityTaskTimedOut id) e = e
kind_range (TimerStarted id) e = e
kind_range (TimerFired id) e = e
kind_range (TimerCanceled id) e = e
kind_range (StartChildWorkflowExecutionInitiated id type) e = and_parts (is_name id) (is_name type) e
kind_range (ChildWorkflowExecutionStarted id) e = e
kind_range (ChildWorkflowExecutionCompleted id result) e = and_parts (is_name id) (is_name result) e
kind_range (ChildWorkflowExecutionFailed id reason) e = and_parts (is_name id) (is_name reason) e
kind_range (MarkerRecorded name) e = e

range_kind : (kind : EventKind) → KindFits kind → kind_fits kind ≡ true
unfolding kind_fits
range_kind (WorkflowExecutionStarted type) h = h
range_kind (WorkflowExecutionSignaled name input origin) h =
    and_from (is_name name && is_name input) (origin_fits origin) (and_from (is_name name) (is_name input) h.0 h.1) (range_origin origin h.2)
range_kind WorkflowExecutionCancelRequested h = refl
range_kind (WorkflowExecutionCompleted result) h = h
range_kind (WorkflowExecutionFailed reason) h = h
range_kind WorkflowExecutionCanceled h = refl
range_kind (WorkflowExecutionTerminated reason) h = h
range_kind (WorkflowExecutionContinuedAsNew run type) h = and_from (is_run run.value) (is_name type) h.0 h.1
range_kind DecisionTaskScheduled h = refl
range_kind DecisionTaskStarted h = refl
range_kind DecisionTaskCompleted h = refl
range_kind (DecisionTaskFailed cause) h = h
range_kind DecisionTaskTimedOut h = refl
range_kind (ActivityTaskScheduled id type) h = and_from (is_name id) (is_name type) h.0 h.1
range_kind (ActivityTaskStarted id) h = h
range_kind (ActivityTaskCompleted id result) h = and_from (is_name id) (is_name result) h.0 h.1
range_kind (ActivityTaskFailed id reason) h = and_from (is_name id) (is_name reason) h.0 h.1
range_kind (ActivityTaskTimedOut id) h = h
range_kind (TimerStarted id) h = h
range_kind (TimerFired id) h = h
range_kind (TimerCanceled id) h = h
range_kind (StartChildWorkflowExecutionInitiated id type) h = and_from (is_name id) (is_name type) h.0 h.1
range_kind (ChildWorkflowExecutionStarted id) h = h
range_kind (ChildWorkflowExecutionCompleted id result) h = and_from (is_name id) (is_name result) h.0 h.1
range_kind (ChildWorkflowExecutionFailed id reason) h = and_from (is_name id) (is_name reason) h.0 h.1
range_kind (MarkerRecorded name) h = h

event_range : (e : Event) → event_fits e ≡ true → EventFits e
event_range e t =
    let all = and_parts (is_id e.id && is_version e.version) (kind_fits e.kind) t in
    let front = and_parts (is_id e.id) (is_version e.version) all.0 in
    (front.0, front.1, kind_range e.kind all.1)

range_event : (e : Event) → EventFits e → event_fits e ≡ true
range_event e h =
    and_from (is_id e.id && is_version e.version) (kind_fits e.kind) (and_from (is_id e.id) (is_version e.version) h.0 h.1) (range_kind e.kind h.2)

events_range : (events : List Event) → list_all event_fits events ≡ true → EventsFit events
events_range [] t = tt
events_range (e ∷ es) t = let all = and_parts (event_fits e) (list_all event_fits es) t in (event_range e all.0, events_range es all.1)

range_events : (events : List Event) → EventsFit events → list_all event_fits events ≡ true
range_events [] h = refl
range_events (e ∷ es) h = and_from (event_fits e) (list_all event_fits es) (range_event e h.0) (range_events es h.1)

pub passes_in_range : (b : Batch) → is_in_range b ≡ true → InRange b
unfolding is_in_range
passes_in_range b t =
    let six = and_parts (is_name b.domain && is_name b.workflow && is_run b.run.value && key_fits b.key && option_key_fits b.parent && option_key_fits b.carrier) (list_all event_fits b.events) t in
    let five = and_parts (is_name b.domain && is_name b.workflow && is_run b.run.value && key_fits b.key && option_key_fits b.parent) (option_key_fits b.carrier) six.0 in
    let four = and_parts (is_name b.domain && is_name b.workflow && is_run b.run.value && key_fits b.key) (option_key_fits b.parent) five.0 in
    let three = and_parts (is_name b.domain && is_name b.workflow && is_run b.run.value) (key_fits b.key) four.0 in
    let two = and_parts (is_name b.domain && is_name b.workflow) (is_run b.run.value) three.0 in
    let one = and_parts (is_name b.domain) (is_name b.workflow) two.0 in
    record {
      domain = one.0;
      run = two.1;
      key = key_range b.key three.1;
      workflow = one.1;
      carrier = option_range b.carrier five.1;
      parent = option_range b.parent four.1;
      events = events_range b.events six.1;
    }

pub in_range_passes : (b : Batch) → InRange b → is_in_range b ≡ true
unfolding is_in_range
in_range_passes b h =
    let one = and_from (is_name b.domain) (is_name b.workflow) h.domain h.workflow in
    let two = and_from (is_name b.domain && is_name b.workflow) (is_run b.run.value) one h.run in
    let three = and_from (is_name b.domain && is_name b.workflow && is_run b.run.value) (key_fits b.key) two (range_key b.key h.key) in
    let four = and_from (is_name b.domain && is_name b.workflow && is_run b.run.value && key_fits b.key) (option_key_fits b.parent) three (range_option b.parent h.parent) in
    let five = and_from (is_name b.domain && is_name b.workflow && is_run b.run.value && key_fits b.key && option_key_fits b.parent) (option_key_fits b.carrier) four (range_option b.carrier h.carrier) in
    and_from (is_name b.domain && is_name b.workflow && is_run b.run.value && key_fits b.key && option_key_fits b.parent && option_key_fits b.carrier) (list_all event_fits b.events) five (range_events b.events h.events)
