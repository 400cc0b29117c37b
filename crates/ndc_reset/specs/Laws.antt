-- What a reset begins with.
use Rattle.std.specs.Prelude.{◌≡◌, IsSome}
use Rattle.ndc_event.specs.declared.key.RunId.{RunId}
use Rattle.ndc_reapply.specs.Laws.{IsOpen}
use Rattle.ndc_state.specs.Value.{StateValue}

-- the state of a new run that goes on from an old one: open, with a decision pending, and with the old run's origins
pub record GoesOn (old : StateValue) (run : RunId) (new : StateValue) : Type 0 where
  pub run_is : new.run ≡ run
  pub is_open : IsOpen new
  pub pending : IsSome new.decision
  pub origins : new.origins ≡ old.origins
