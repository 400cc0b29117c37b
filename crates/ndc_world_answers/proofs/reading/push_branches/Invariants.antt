use Rattle.std.proofs.Common.{◌≡◌, ◌++◌, drop}
use Rattle.std.specs.List.{flat_map}
use Rattle.ndc_text.specs.Views.{branch_line}
use Rattle.ndc_world_answers.proofs.reading.push_branches.Given as goal

-- the text so far, with what is left, is the whole
abbrev pub invariant-loop-branch : goal.invariant-loop-branch
invariant-loop-branch l = l.text.items ++ flat_map branch_line (drop l.branch-index l.branches) ≡ l.initial.text.items ++ flat_map branch_line l.branches
