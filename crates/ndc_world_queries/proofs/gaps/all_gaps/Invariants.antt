use Rattle.std.proofs.Common.{◌≡◌}
use Rattle.std.specs.List.{flat_map, range_with_len}
use Rattle.ndc_world_queries.specs.Gaps.{gaps_at}
use Rattle.ndc_world_queries.proofs.gaps.all_gaps.Given as goal

abbrev pub invariant-loop-shard : goal.invariant-loop-shard
invariant-loop-shard g l = l.gaps.items ≡ flat_map (gaps_at l.cluster l.replication) (range_with_len 0 l.shard)
