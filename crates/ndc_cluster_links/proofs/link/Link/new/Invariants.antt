use Rattle.std.proofs.Common.{◌≡◌, ◌≤◌, ◌-◌, length}
use Rattle.std.specs.Prelude.{replicate}
use Rattle.ndc_model.specs.Queues.{new_lane}
use Rattle.ndc_cluster_links.proofs.link.Link.new.Given as goal

abbrev pub invariant-loop-lanes : goal.invariant-loop-lanes
invariant-loop-lanes l = (l.lanes.items ≡ replicate (length l.lanes.items) new_lane) × (length l.lanes.items ≤ l.shards)

abbrev pub decreases-loop-lanes : goal.decreases-loop-lanes
decreases-loop-lanes l = l.shards - length l.lanes.items
