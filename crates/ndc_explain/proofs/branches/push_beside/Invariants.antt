use Rattle.std.proofs.Common.{◌≡◌, ◌++◌, drop}
use Rattle.std.specs.List.{flat_map}
use Rattle.ndc_explain.specs.Branches.{branch_told}
use Rattle.ndc_explain.proofs.branches.push_beside.Given as goal

-- the text so far, with what is left, is the whole
abbrev pub invariant-loop-branch : goal.invariant-loop-branch
invariant-loop-branch l = l.text.items ++ flat_map (branch_told l.clusters l.lead) (drop l.branch-index l.branches) ≡ l.initial.text.items ++ flat_map (branch_told l.clusters l.lead) l.branches
