use Rattle.std.proofs.Common.{◌≡◌, ◌≤◌, ◌*◌, ◌^◌, sum, take}
use Rattle.ndc_cluster_links.proofs.PlaceLemmas.{changed_front}
use Rattle.ndc_model.specs.Moves.{map_from}
use Rattle.ndc_world_replication.specs.Trims.{dropped_now, raised_level, with_trimmed}
use Rattle.ndc_world_replication.proofs.trimming.trim_publisher.Given as goal

abbrev pub invariant-loop-shard : goal.invariant-loop-shard
invariant-loop-shard g l = record {
  publisher : l.publisher ≡ with_trimmed (changed_front (raised_level l.source l.links l.initial.publisher.cluster.cells) 0 l.shard l.initial.publisher.trimmed) l.initial.publisher;
  count : l.count ≡ sum (map_from (dropped_now l.source l.links l.initial.publisher.cluster.cells) 0 (take l.shard l.initial.publisher.trimmed));
  most : l.count ≤ l.shard * 10 ^ 12;
}
