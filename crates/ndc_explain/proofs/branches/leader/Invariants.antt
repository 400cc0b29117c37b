use Rattle.std.proofs.Common.{◌≡◌, drop}
use Rattle.ndc_explain.specs.Branches.{leader}
use Rattle.ndc_explain.proofs.branches.leader.Given as goal

abbrev pub invariant-loop-branch : goal.invariant-loop-branch
invariant-loop-branch l = leader (drop l.branch-index l.branches) ≡ leader l.branches
