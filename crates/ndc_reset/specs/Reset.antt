-- Reset: what a new run begins with that repeats a history up to a point.
use Rattle.std.specs.Prelude.{ℕ, Bool, true, false, not, ◌||◌, ◌&&◌, ◌==◌, nat_lt, List, ◌∷◌, ◌++◌, map, filter, codes, length, Some, Result, Ok, Err, if◌then◌else◌}
use Rattle.std.specs.List.{list_any}
use Rattle.ndc_event.specs.declared.batch.Event.{Event}
use Rattle.ndc_event.specs.declared.key.RunId.{RunId}
use Rattle.ndc_event.specs.declared.kind.EventKind.{EventKind}
use Rattle.ndc_event.specs.declared.kind.EventKind.TheVariants.{WorkflowExecutionSignaled, DecisionTaskScheduled, DecisionTaskCompleted, DecisionTaskFailed}
use Rattle.ndc_reset.specs.declared.plan.ResetError.{ResetError}
use Rattle.ndc_reset.specs.declared.plan.ResetError.TheVariants.{NoSuchPoint, HistoryFull}
use Rattle.ndc_state.specs.Origins.{origin_of}

-- whether the kind is a completed decision
abbrev pub is_completed : EventKind → Bool
is_completed DecisionTaskCompleted = true
is_completed _ = false

-- whether the kind is a signal
abbrev pub is_signal : EventKind → Bool
is_signal (WorkflowExecutionSignaled _ _ _) = true
is_signal _ = false

-- whether a completed decision of the history has this id
abbrev pub is_point : ℕ → List Event → Bool
is_point point history = list_any (λ event. (event.id == point) && is_completed event.kind) history

-- a kind as another run repeats it: a signal names its origin, and any other kind stays
abbrev pub repeated : RunId → ℕ → ℕ → EventKind → EventKind
repeated run id version (WorkflowExecutionSignaled name input from) = WorkflowExecutionSignaled name input (Some (origin_of run id version from))
repeated run id version kind = kind

-- the kinds of these events as another run repeats them
abbrev pub repeated_kinds : RunId → List Event → List EventKind
repeated_kinds run events = map (λ event. repeated run event.id event.version event.kind) events

-- the events before the point
abbrev pub events_before : ℕ → List Event → List Event
events_before point history = filter (λ event. nat_lt event.id point) history

-- the signals from the point on
abbrev pub signals_onward : ℕ → List Event → List Event
signals_onward point history = filter (λ event. not (nat_lt event.id point) && is_signal event.kind) history

-- what stands before the point, repeated; its decision, failed and scheduled again; and a copy of each later signal
unfoldable pub reset_kinds : RunId → ℕ → List Event → List EventKind
reset_kinds run point history =
    repeated_kinds run (events_before point history)
    ++ DecisionTaskFailed (codes "reset") ∷ DecisionTaskScheduled ∷ repeated_kinds run (signals_onward point history)

-- whether the new run has a kind of this event
abbrev pub is_kept : ℕ → Event → Bool
is_kept point event = nat_lt event.id point || is_signal event.kind

-- the kinds of a reset, or why there is none: no such point comes before too many kinds
unfoldable pub reset_of : List Event → RunId → ℕ → ℕ → Result (List EventKind) ResetError
reset_of history run point limit =
    if not (is_point point history) then Err NoSuchPoint
    else if nat_lt limit (length (reset_kinds run point history)) then Err HistoryFull
    else Ok (reset_kinds run point history)
