use Rattle.std.proofs.Common.{◌≤◌, [], length, drop, map}
use Rattle.ndc_model_sets.specs.Paths.{walk_down}
use Rattle.ndc_dump.proofs.PathKeys.{IsSoFar}
use Rattle.ndc_dump.proofs.path.path_keys.Given as goal

-- the batches from this place on were gone over
abbrev pub invariant-loop-place : goal.invariant-loop-place
invariant-loop-place l = record {
  within : l.place ≤ length l.batches;
  so_far : IsSoFar l.keys l.wanted (walk_down (map (λ b. b.now) (drop l.place l.batches)) (record { wanted = l.fn.tip; path = [] }));
}

abbrev pub decreases-loop-place : goal.decreases-loop-place
decreases-loop-place l = l.place
