use Rattle.std.proofs.Common.{◌≡◌, ◌≤◌, length, drop}
use Rattle.ndc_current.specs.Pick.{pick_from}
use Rattle.ndc_current.proofs.current.pick.Given as goal

-- the best is that of the places from this one on
abbrev pub invariant-loop-place : goal.invariant-loop-place
invariant-loop-place l = record {
  within : l.place ≤ length l.tips;
  best : l.best ≡ pick_from l.place (drop l.place l.tips);
}

abbrev pub decreases-loop-place : goal.decreases-loop-place
decreases-loop-place l = l.place
