use Rattle.std.proofs.Common.{◌≡◌, ◌++◌, drop, map, take}
use Rattle.ndc_model.specs.Moves.{arrives, by_link, in_flight}
use Rattle.ndc_world_replication.specs.Flights.{emptied_at}
use Rattle.ndc_world_replication.proofs.taking.take_shard.Given as goal

abbrev pub invariant-loop-place : goal.invariant-loop-place
invariant-loop-place l = record {
  links : l.links ≡ map (emptied_at l.reader l.shard) (take l.place l.initial.links) ++ drop l.place l.initial.links;
  jobs : l.jobs.items ++ map (arrives l.shard) (by_link l.reader in_flight (drop l.place l.initial.links) l.shard)
      ≡ l.initial.jobs.items ++ map (arrives l.shard) (by_link l.reader in_flight l.initial.links l.shard);
}
