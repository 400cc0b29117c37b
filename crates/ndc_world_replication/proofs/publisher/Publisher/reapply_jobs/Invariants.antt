use Rattle.std.proofs.Common.{◌-◌, List, ◌++◌}
use Rattle.ndc_cluster.specs.Homes.{desk_of}
use Rattle.ndc_model_cells.specs.declared.job.ShardJob.{ShardJob}
use Rattle.ndc_world_replication.specs.Chosen.{AreChosen}
use Rattle.ndc_world_replication.proofs.publisher.Publisher.reapply_jobs.Given as goal

-- with jobs for some of the shards that are left, there are jobs for some of all
abbrev pub invariant-loop-shard : goal.invariant-loop-shard
invariant-loop-shard g l =
    (rest : List ShardJob) → AreChosen (desk_of l.home l.self.cluster.table) l.self.cluster.cells (l.shards - l.shard) l.shard rest
    → AreChosen (desk_of l.home l.self.cluster.table) l.self.cluster.cells l.shards 0 (l.jobs.items ++ rest)
