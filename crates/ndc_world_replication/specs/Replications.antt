-- Clusters with the links between them.
use Rattle.std.specs.Prelude.{◌≡◌, ℕ, [], List, map, not, replicate, slice_index_or}
use Rattle.std.specs.List.{filter}
use Rattle.ndc_script_types.specs.declared.script.Header.{Header}
use Rattle.ndc_model_cells.specs.Writing.{same_cluster}
use Rattle.ndc_domain.specs.declared.clusters.ClusterNo.{ClusterNo}
use Rattle.ndc_graceful.specs.declared.handover.Handover.{Handover}
use Rattle.ndc_model.specs.World.{Link, World, cluster_at, new_cluster, new_link}
use Rattle.ndc_world_replication.specs.Publishers.{PublisherValue}

-- the world of these clusters, links and handovers
abbrev pub world_of : List PublisherValue → List Link → List Handover → World
world_of publishers links handovers = record {
  clusters = map (λ (publisher : PublisherValue). publisher.cluster) publishers;
  links = links;
  trimmed = map (λ (publisher : PublisherValue). publisher.trimmed) publishers;
  handovers = handovers;
}

-- a cluster in the beginning, with its queues
abbrev pub opening_publisher : ℕ → PublisherValue
opening_publisher shards = record { cluster = new_cluster shards; trimmed = replicate shards 0 }

-- what a reader has of each other of these clusters in the beginning
abbrev pub links_of : Header → List ClusterNo → ClusterNo → List Link
links_of header clusters reader = map (new_link header reader) (filter (λ other. not (same_cluster reader other)) clusters)

-- a cluster of a world, with how far its queues are trimmed
pub record StandsAt (w : World) (cluster : ClusterNo) (publisher : PublisherValue) : Type 0 where
  pub cluster_is : cluster_at cluster w ≡ publisher.cluster
  pub trimmed_is : slice_index_or w.trimmed cluster.number [] ≡ publisher.trimmed
