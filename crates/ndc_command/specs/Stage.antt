-- What a command needs of the thing that it speaks of, and the refusals where it is not so.
use Rattle.std.specs.Prelude.{ℕ, Bool, true, false, Option, None, Some, Result, Ok, Err}
use Rattle.ndc_command.specs.declared.refusal.CommandError.{CommandError}
use Rattle.ndc_command.specs.declared.refusal.CommandError.TheVariants.{Refused}
use Rattle.ndc_command.specs.declared.refusal.Refusal.{Refusal}
use Rattle.ndc_command.specs.declared.stage.Stage.{Stage}
use Rattle.ndc_command.specs.declared.stage.Stage.TheVariants.{Missing, Waiting, Started}
use Rattle.ndc_state.specs.declared.pendings.Pending.{Pending}

-- how far something pending is: started, or not yet
abbrev pub stage_by : Option ℕ → Stage
stage_by None = Waiting
stage_by (Some id) = Started

-- how far something is
abbrev pub stage_of : Option Pending → Stage
stage_of None = Missing
stage_of (Some pending) = stage_by pending.started

-- nothing is refused
abbrev pub allowed : Result (Unit {0}) CommandError
allowed = Ok tt

-- the refusal, where its test holds
unfoldable pub refuse : Bool → Refusal → Result (Unit {0}) CommandError
refuse true refusal = Err (Refused refusal)
refuse false refusal = allowed

-- the refusal, where it is missing
unfoldable pub needs_pending : Stage → Refusal → Result (Unit {0}) CommandError
needs_pending Missing missing = Err (Refused missing)
needs_pending Waiting missing = allowed
needs_pending Started missing = allowed

-- the one refusal where it is missing, the other where it has started
unfoldable pub needs_waiting : Stage → Refusal → Refusal → Result (Unit {0}) CommandError
needs_waiting Missing missing started = Err (Refused missing)
needs_waiting Waiting missing started = allowed
needs_waiting Started missing started = Err (Refused started)

-- the one refusal where it is missing, the other where it has not started
unfoldable pub needs_started : Stage → Refusal → Refusal → Result (Unit {0}) CommandError
needs_started Missing missing waiting = Err (Refused missing)
needs_started Waiting missing waiting = Err (Refused waiting)
needs_started Started missing waiting = allowed

infixl 10 ◌>>◌
-- the first refusal, or what comes after it
abbrev pub ◌>>◌ : {A : Type 0} → Result (Unit {0}) CommandError → Result A CommandError → Result A CommandError
(Ok _) >> rest = rest
(Err error) >> rest = Err error
