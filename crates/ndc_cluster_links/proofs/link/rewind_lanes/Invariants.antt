use Rattle.std.proofs.Common.{◌≡◌, ◌++◌, map, take, drop}
use Rattle.ndc_model.specs.Queues.{after_rewind}
use Rattle.ndc_cluster_links.proofs.link.rewind_lanes.Given as goal

abbrev pub invariant-loop-lane : goal.invariant-loop-lane
invariant-loop-lane l = l.lane-items ≡ map after_rewind (take l.lane-index l.initial.lane-items) ++ drop l.lane-index l.initial.lane-items
