use Rattle.std.proofs.Common.{◌≡◌, ◌++◌, drop, map}
use Rattle.ndc_world_steps.proofs.handovers.levels_of.Given as goal

abbrev pub invariant-loop-lane : goal.invariant-loop-lane
invariant-loop-lane l = l.levels.items ++ map (λ lane. lane.levels) (drop l.lane-index l.lane-items) ≡ map (λ lane. lane.levels) l.lane-items
