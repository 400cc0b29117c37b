-- What is written below a tip: the kinds of a batch, and the events that they become.
use Rattle.std.specs.Prelude.{ℕ, ◌+◌, Bool, ◌&&◌, nat_lt, is_some, List, [], ◌∷◌, codes, Result, if◌then◌else◌}
use Rattle.ndc_event.specs.declared.batch.Event.{Event}
use Rattle.ndc_event.specs.declared.kind.EventKind.{EventKind}
use Rattle.ndc_event.specs.declared.kind.EventKind.TheVariants.{DecisionTaskScheduled, DecisionTaskFailed}
use Rattle.ndc_state.specs.declared.rule.StateError.{StateError}
use Rattle.ndc_state.specs.Pendings.{is_started}
use Rattle.ndc_state.specs.Replay.{replay}
use Rattle.ndc_state.specs.Value.{StateValue}

-- whether the started decision of a tip has to be closed before a batch of this version: it is of an older one
abbrev pub is_failover_close_due : StateValue → ℕ → Bool
is_failover_close_due s version = nat_lt s.version version && is_started s.decision

-- what a batch of this version begins with: a started decision of an older version fails, and is scheduled again
abbrev pub failover_close : StateValue → ℕ → List EventKind
failover_close s version =
    if is_failover_close_due s version then DecisionTaskFailed (codes "failoverClose") ∷ DecisionTaskScheduled ∷ [] else []

-- a decision is scheduled, where none is pending
abbrev pub wake : StateValue → List EventKind
wake s = if is_some s.decision then [] else DecisionTaskScheduled ∷ []

-- the kinds as events of this version, with ids from this one on
abbrev pub events_from : ℕ → ℕ → List EventKind → List Event
events_from id version [] = []
events_from id version (kind ∷ kinds) = record { id = id; version = version; kind = kind } ∷ events_from (id + 1) version kinds

-- the state after these kinds, written with this version, or what forbids the first that is forbidden
abbrev pub replay_kinds : StateValue → ℕ → List EventKind → Result StateValue StateError
replay_kinds s version kinds = replay s (events_from s.next version kinds)
