use Rattle.std.proofs.Common.{◌≡◌, ◌++◌, map, take, drop}
use Rattle.ndc_model.specs.Moves.{without_flight}
use Rattle.ndc_cluster_links.proofs.link.empty_lanes.Given as goal

abbrev pub invariant-loop-lane : goal.invariant-loop-lane
invariant-loop-lane l = l.lane-items ≡ map without_flight (take l.lane-index l.initial.lane-items) ++ drop l.lane-index l.initial.lane-items
