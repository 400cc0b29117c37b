use Rattle.std.proofs.Common.{◌≡◌, ◌≤◌, length, drop}
use Rattle.ndc_explain.specs.Standing.{with_parents}
use Rattle.ndc_explain.proofs.standing.insert_parents.Given as goal

-- the batches from this place on were gone over
abbrev pub invariant-loop-place : goal.invariant-loop-place
invariant-loop-place l = record {
  within : l.place ≤ length l.batches;
  so_far : l.keys ≡ with_parents (drop l.place l.batches) l.fn.keys;
}

abbrev pub decreases-loop-place : goal.decreases-loop-place
decreases-loop-place l = l.place
