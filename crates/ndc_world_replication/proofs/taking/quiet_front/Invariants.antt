use Rattle.std.proofs.Common.{◌≡◌, map, take}
use Rattle.ndc_world_replication.specs.Flights.{emptied}
use Rattle.ndc_world_replication.proofs.taking.quiet_front.Given as goal

abbrev pub invariant-loop-place : goal.invariant-loop-place
invariant-loop-place l = map (emptied l.reader) (take l.place l.links) ≡ take l.place l.links
