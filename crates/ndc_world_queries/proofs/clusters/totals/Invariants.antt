use Rattle.std.proofs.Common.{◌≡◌, map}
use Rattle.std.specs.List.{fold, range_with_len}
use Rattle.ndc_world_queries.specs.Summaries.{added, cells_of, totals_in, tables_alone}
use Rattle.ndc_world_queries.proofs.clusters.totals.Given as goal

abbrev pub invariant-loop-shard : goal.invariant-loop-shard
invariant-loop-shard g l = l.whole ≡ fold added (tables_alone l.replication) (map (λ shard. totals_in (cells_of l.replication shard)) (range_with_len 0 l.shard))
