use Rattle.std.proofs.Common.{◌≡◌, ◌≤◌, length, drop}
use Rattle.ndc_history.specs.Common.{best_from}
use Rattle.ndc_history.proofs.history.best_common.Given as goal

-- the best is that of the places from this one on
abbrev pub invariant-loop-place : goal.invariant-loop-place
invariant-loop-place l = record {
  within : l.place ≤ length l.local;
  best : l.best ≡ best_from l.place (drop l.place l.local) l.remote;
}

abbrev pub decreases-loop-place : goal.decreases-loop-place
decreases-loop-place l = l.place
