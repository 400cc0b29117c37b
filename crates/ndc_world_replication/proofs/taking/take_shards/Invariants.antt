use Rattle.std.proofs.Common.{◌≡◌, map}
use Rattle.std.specs.List.{range_with_len}
use Rattle.ndc_model.specs.Moves.{all_arrive, by_link, in_flight}
use Rattle.ndc_world_replication.specs.Flights.{emptied_below}
use Rattle.ndc_world_replication.proofs.taking.take_shards.Given as goal

abbrev pub invariant-loop-shard : goal.invariant-loop-shard
invariant-loop-shard l = record {
  links : l.links ≡ map (emptied_below l.reader l.shard) l.initial.links;
  jobs : l.jobs.items ≡ all_arrive (by_link l.reader in_flight l.initial.links) (range_with_len 0 l.shard);
}
