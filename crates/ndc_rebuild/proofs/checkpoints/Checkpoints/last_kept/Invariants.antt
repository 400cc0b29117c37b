use Rattle.std.proofs.Common.{◌≡◌, ◌≤◌, length, map, drop, None}
use Rattle.ndc_rebuild.specs.Kept.{last_kept}
use Rattle.ndc_rebuild.proofs.checkpoints.Checkpoints.last_kept.Given as goal

-- no batch from the place on is kept
abbrev pub invariant-loop-count : goal.invariant-loop-count
invariant-loop-count l = record {
  within : l.count ≤ length l.path;
  none : last_kept l.self.states (drop l.count (map (λ b. b.now) l.path)) ≡ None;
}

abbrev pub decreases-loop-count : goal.decreases-loop-count
decreases-loop-count l = l.count
