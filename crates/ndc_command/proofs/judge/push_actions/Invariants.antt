use Rattle.std.proofs.Common.{◌≡◌, drop}
use Rattle.ndc_command.specs.Actions.{names_of, behind}
use Rattle.ndc_command.specs.Judge.{names_seen, actions_by}
use Rattle.ndc_command.proofs.judge.push_actions.Given as goal

-- the events so far, and those of the actions that are left, are those of all
abbrev pub invariant-loop-action : goal.invariant-loop-action
invariant-loop-action l =
    behind l.kinds.items (actions_by l.next_run (names_seen l.judge) (drop l.action-index l.actions))
    ≡ behind l.fn.kinds.items (actions_by l.next_run (names_of l.state) l.actions)
