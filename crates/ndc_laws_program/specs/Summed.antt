-- What the numbers mean that sum up a world.
use Rattle.std.specs.Prelude.{◌≡◌, ◌≢◌, ◌↔◌, true, AllPairs, List, [], length, sum_by}
use Rattle.std.specs.List.{IsAmong, flat_map}
use Rattle.ndc_script_types.specs.WellFormed.{IsCluster}
use Rattle.ndc_script_types.specs.declared.script.Header.{Header}
use Rattle.ndc_domain.specs.declared.clusters.ClusterNo.{ClusterNo}
use Rattle.ndc_event.specs.declared.batch.Batch.{Batch}
use Rattle.ndc_event.specs.declared.name.Name.{Name}
use Rattle.ndc_laws.specs.Promised.{LearnedTheSame}
use Rattle.ndc_model.specs.Fair.{primary}
use Rattle.ndc_model.specs.Moves.{all_written}
use Rattle.ndc_model.specs.Reading.{learned_at}
use Rattle.ndc_model.specs.World.{World, cluster_at, shards_of}
use Rattle.ndc_world_queries.specs.Summaries.{branch_count}
use Rattle.ndc_world_queries.specs.declared.parts.Totals.{Totals}

-- all batches that any cluster has written
abbrev pub batches_written : Header → World → List Batch
batches_written header w = flat_map (λ shard. all_written header shard w) (shards_of header)

-- these are the workflows, by domain and name, of which a cluster has learned a batch, each once
pub record AreWorkflowsOf (header : Header) (cluster : ClusterNo) (w : World) (names : List (Name × Name)) : Type 0 where
  pub once : AllPairs (λ one two. one ≢ two) names
  pub learned : (domain workflow : Name) → IsAmong names (domain, workflow) ↔ (learned_at header cluster domain workflow w ≢ [])

-- all clusters hold one table, and have learned the same of each workflow
pub record AreTheSame (header : Header) (w : World) : Type 0 where
  pub tables : (one two : ClusterNo) → IsCluster header one → IsCluster header two → (cluster_at one w).table ≡ (cluster_at two w).table
  pub learned : (one two : ClusterNo) (domain workflow : Name) → IsCluster header one → IsCluster header two → LearnedTheSame header one two domain workflow w

-- these numbers sum up a world: the batches are all that any cluster has written, each once; the workflows are those of which the first cluster
-- has learned a batch, each once, and the branches are those of all their runs there; and all is said to be the same exactly where it is
pub record SumsUp (header : Header) (w : World) (totals : Totals) : Type 0 where
  pub batches : totals.batches ≡ length (batches_written header w)
  pub once : AllPairs (λ one two. one ≢ two) (batches_written header w)
  pub names : List (Name × Name)
  pub are : AreWorkflowsOf header primary w names
  pub workflows : totals.workflows ≡ length names
  pub branches : totals.branches ≡ sum_by (λ workflow. branch_count (learned_at header primary workflow.0 workflow.1 w)) names
  pub same : (totals.same ≡ true) ↔ AreTheSame header w
