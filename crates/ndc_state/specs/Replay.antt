-- Replay: the events of a run, applied in order.
use Rattle.std.specs.Prelude.{ℕ, ◌+◌, ◌≡◌, ◌≤◌, List, [], ◌∷◌, ◌++◌, Result, Ok, Err}
use Rattle.ndc_event.specs.declared.batch.Batch.{Batch}
use Rattle.ndc_event.specs.declared.batch.Event.{Event}
use Rattle.ndc_event.specs.declared.key.Origin.{Origin}
use Rattle.ndc_event.specs.declared.key.RunId.{RunId}
use Rattle.ndc_event.specs.declared.kind.EventKind.{EventKind}
use Rattle.ndc_event.specs.declared.kind.EventKind.TheVariants.{WorkflowExecutionSignaled}
use Rattle.ndc_event.specs.Outcome.{◌>>=◌}
use Rattle.ndc_state.specs.declared.rule.StateError.{StateError}
use Rattle.ndc_state.specs.Counted.{counted}
use Rattle.ndc_state.specs.Origins.{origin_of, with_origin}
use Rattle.ndc_state.specs.Table.{applied}
use Rattle.ndc_state.specs.Value.{StateValue, new_state}

-- the state after these events, or what forbids the first that is forbidden
abbrev pub replay : StateValue → List Event → Result StateValue StateError
replay s [] = Ok s
replay s (event ∷ events) = applied s event >>= (λ next. replay next events)

-- these events, after those that gave a state or were forbidden
abbrev pub replay_on : Result StateValue StateError → List Event → Result StateValue StateError
replay_on before events = before >>= (λ s. replay s events)

-- the state of a run with these events
abbrev pub replay_of : RunId → List Event → Result StateValue StateError
replay_of run events = replay (new_state run) events

-- the events of these batches, in order
abbrev pub history_of : List Batch → List Event
history_of [] = []
history_of (batch ∷ batches) = batch.events ++ history_of batches

-- one event more than the rest has from the state after it, or none where it is forbidden
abbrev pub one_more : (StateValue → ℕ) → Result StateValue StateError → ℕ
one_more rest (Ok next) = 1 + rest next
one_more rest (Err error) = 0

-- how many of these events are applied before the first that is forbidden
abbrev pub allowed_count : StateValue → List Event → ℕ
allowed_count s [] = 0
allowed_count s (event ∷ events) = one_more (λ next. allowed_count next events) (applied s event)

-- a counter went up by some of so many steps
abbrev pub CountsWithin : ℕ → ℕ → ℕ → Type 0
CountsWithin before most now = (taken : ℕ) × (taken ≤ most) × (now ≡ counted before taken)

-- the origin of an event of this kind goes last, where it is a signal whose origin is not listed
abbrev pub collected_by : RunId → ℕ → ℕ → EventKind → List Origin → List Origin
collected_by run id version (WorkflowExecutionSignaled _ _ from) origins = with_origin (origin_of run id version from) origins
collected_by run id version _ origins = origins

-- the origins listed, and then those of the signals among these events
abbrev pub collected : RunId → List Origin → List Event → List Origin
collected run origins [] = origins
collected run origins (event ∷ events) = collected run (collected_by run event.id event.version event.kind origins) events
