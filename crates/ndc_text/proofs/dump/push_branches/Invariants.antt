use Rattle.std.proofs.Common.{◌≡◌, ◌++◌, drop}
use Rattle.std.specs.List.{flat_map}
use Rattle.ndc_text.specs.Views.{branch_state_lines}
use Rattle.ndc_text.proofs.dump.push_branches.Given as goal

abbrev pub invariant-loop-branch : goal.invariant-loop-branch
invariant-loop-branch l = l.text.items ++ flat_map branch_state_lines (drop l.branch-index l.branches) ≡ l.initial.text.items ++ flat_map branch_state_lines l.branches
