use Rattle.std.proofs.Common.{◌≡◌, map, drop}
use Rattle.ndc_script_read.specs.Commands.{actions_behind, actions_of}
use Rattle.ndc_script_read.proofs.LineLists.{behind}
use Rattle.ndc_script_read.proofs.command.actions_of.Given as goal

-- the actions so far, before those of the words that are left, are those of the words
abbrev pub invariant-loop-place : goal.invariant-loop-place
invariant-loop-place l =
    behind l.actions.items (actions_behind l.line l.operands (map (λ word. word.now) (drop l.place l.words)))
    ≡ actions_of l.line (map (λ word. word.now) l.words)
