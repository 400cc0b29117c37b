use Rattle.std.proofs.Common.{◌≡◌, drop}
use Rattle.ndc_dump.specs.Marks.{current_key}
use Rattle.ndc_dump.proofs.tree.current_key.Given as goal

abbrev pub invariant-loop-branch : goal.invariant-loop-branch
invariant-loop-branch l = current_key (drop l.branch-index l.branches) ≡ current_key l.branches
