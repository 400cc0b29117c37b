use Rattle.std.proofs.Common.{◌≡◌, ◌≤◌, drop, length, map}
use Rattle.ndc_world_replication.specs.Flights.{emptied}
use Rattle.ndc_world_replication.proofs.taking.busy_front.Given as goal

abbrev pub invariant-loop-count : goal.invariant-loop-count
invariant-loop-count l = record {
  within : l.count ≤ length l.links;
  quiet : map (emptied l.reader) (drop l.count l.links) ≡ drop l.count l.links;
}

abbrev pub decreases-loop-count : goal.decreases-loop-count
decreases-loop-count l = l.count
