-- The shards of jobs are those of a cluster's cells.
use Rattle.std.proofs.Common.{◌≡◌, ◌<◌, ◌≤◌, ◌+◌, ℕ, zero, suc, List, [], ◌∷◌, ◌++◌, length, map, arith}
use Rattle.std.specs.List.{AllByRecursion, range_with_len}
use Rattle.ndc_script_types.specs.WellFormed.{IsCluster}
use Rattle.ndc_script_types.specs.declared.script.Header.{Header}
use Rattle.ndc_model_cells.specs.declared.job.ShardJob.{ShardJob}
use Rattle.ndc_model_cells.specs.declared.message.Message.{Message}
use Rattle.ndc_domain.specs.declared.clusters.ClusterNo.{ClusterNo}
use Rattle.ndc_model.specs.Fair.{IsShaped}
use Rattle.ndc_model.specs.Moves.{all_arrive, arrives}
use Rattle.ndc_model.specs.World.{Cluster, World, cluster_at, new_cluster, shards_of}
use Rattle.ndc_cluster.proofs.EachLemmas.{all_there}

-- jobs whose shards are below a number
abbrev AreBelow : ℕ → List ShardJob → Type 0
AreBelow count jobs = AllByRecursion (λ (asked : ShardJob). asked.shard < count) jobs

arriving-before : (count shard : ℕ) (messages : List Message) (jobs : List ShardJob) → shard < count → AreBelow count jobs → AreBelow count (map (arrives shard) messages ++ jobs)
arriving-before count shard [] jobs below rest = rest
arriving-before count shard (sent ∷ messages) jobs below rest = (below, arriving-before count shard messages jobs below rest)

arriving-below : (messages : ℕ → List Message) (count from n : ℕ) → from + n ≤ count → AreBelow count (all_arrive messages (range_with_len from n))
arriving-below messages count from zero most = tt {0}
arriving-below messages count from (suc n) most =
    arriving-before count from (messages from) (all_arrive messages (range_with_len (from + 1) n)) (omega (arith, most)) (arriving-below messages count (from + 1) n (omega (arith, most)))

module _ (header : Header) (w : World) (cluster : ClusterNo) (known : IsCluster header cluster) (shaped : IsShaped header w) where
  -- a cluster stands there, and has a cell for each shard
  pub cluster_there : cluster.number < length w.clusters
  cluster_there = omega (arith, known, shaped.clusters)

  pub cells_there : length (cluster_at cluster w).cells ≡ header.shards
  cells_there = all_there (λ (c : Cluster). length c.cells ≡ header.shards) w.clusters cluster.number (new_cluster 0) cluster_there shaped.cells

  -- messages arrive in cells of its own
  pub arriving_there : (messages : ℕ → List Message) → AreBelow (length (cluster_at cluster w).cells) (all_arrive messages (shards_of header))
  arriving_there messages = arriving-below messages (length (cluster_at cluster w).cells) 0 header.shards (omega (arith, cells_there))
