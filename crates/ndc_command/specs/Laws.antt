-- What the laws of planning speak of.
use Rattle.std.specs.Prelude.{◌≡◌, ◌≤◌, ◌-◌, ℕ, Bool, true, false, Option, None, Some, All}
use Rattle.ndc_command.specs.declared.command.Command.{Command}
use Rattle.ndc_command.specs.declared.command.Command.TheVariants.{Start}
use Rattle.ndc_state.specs.Value.{StateValue}

-- no origin of the state is one of its run, of this version and of an event that is still to come
abbrev pub IsFresh : StateValue → ℕ → Type 0
IsFresh s version = All (λ origin. ¬ ((origin.run ≡ s.run) × (origin.version ≡ version) × (s.next ≤ origin.event))) s.origins

-- whether the command begins a run
abbrev pub begins_run : Command → Bool
begins_run (Start workflow_type) = true
begins_run command = false

-- the id of the last event of the history after which a command writes: 0 for a start, which begins one
abbrev pub last_id : Option StateValue → Command → ℕ
last_id state (Start workflow_type) = 0
last_id None command = 0
last_id (Some s) command = s.next - 1
