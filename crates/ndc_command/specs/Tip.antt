-- The tip below which a command writes, as the code holds it.
use Rattle.std.specs.Prelude.{List, Result}
use Rattle.ndc_event.specs.declared.kind.EventKind.{EventKind}
use Rattle.ndc_event.specs.Outcome.{Gives}
use Rattle.ndc_state.specs.Value.{StateValue}
use Rattle.ndc_command.specs.declared.command.Command.{Command}
use Rattle.ndc_command.specs.declared.refusal.CommandError.{CommandError}
use Rattle.ndc_command.specs.declared.refusal.CommandError.TheVariants.{Memory}
use Rattle.ndc_command.specs.declared.tip.Tip.{Tip}
use Rattle.ndc_command.specs.Actions.{behind}
use Rattle.ndc_command.specs.Plan.{judged_at, written}

-- the state at which a command is judged there
abbrev pub state_at : Tip → StateValue
state_at tip = judged_at tip.state.now tip.version

-- what was put after the kinds before is what the command writes there, or its refusal was answered
abbrev pub Adds : Tip → Command → List EventKind → List EventKind → Result (Unit {0}) CommandError → Type 0
Adds tip command before now result = Gives Memory (λ _. now) result (behind before (written tip.version tip.next_run (state_at tip) command))
