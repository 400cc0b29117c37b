-- Clusters in the world, with the queues of what their cells have written.
use Rattle.std.specs.Prelude.{◌≡◌, ◌<◌, ℕ, List, [], length}
use Rattle.ndc_domain.specs.declared.record.DomainRecord.{DomainRecord}
use Rattle.ndc_model_cells.specs.Cells.{Cell}
use Rattle.ndc_model_cells.specs.Jobs.{cell_for}
use Rattle.ndc_model_cells.specs.declared.job.ShardJob.{ShardJob}
use Rattle.ndc_model_cells.specs.declared.message.Message.{Message}
use Rattle.ndc_cluster.specs.Clusters.{ClusterValue}
use Rattle.ndc_cluster_links.specs.Rest.{AreRests, IsRestOf, queue_at}
use Rattle.ndc_cluster.specs.Rounds.{jobs_of}
use Rattle.ndc_model.specs.World.{Cluster}
use Rattle.ndc_queue.specs.Queues.{QueueValue}

-- a cluster, and how far each of its queues is trimmed, by shard
pub record PublisherValue : Type 0 where
  pub cluster : Cluster
  pub trimmed : List ℕ

-- a cluster of a world alone, without what it set aside and its progress reports: its domain records and its cells
abbrev pub cluster_alone : Cluster → ClusterValue
cluster_alone cluster = record { table = cluster.table; cells = cluster.cells }

-- there is a queue for each cell, and what is kept of it is the rest of what the cell has written
pub record AreTied (cells : List Cell) (queues : List QueueValue) : Type 0 where
  pub alike : length queues ≡ length cells
  pub rests : AreRests queues (λ shard. (cell_for shard cells).written)

-- what is kept of the queue of each shard without a job is the rest of a whole one
abbrev pub AreRestsBut : List ShardJob → List QueueValue → (ℕ → List Message) → Type 0
AreRestsBut jobs queues whole = (shard : ℕ) → shard < length queues → jobs_of shard jobs ≡ [] → IsRestOf (queue_at queues shard) (whole shard)

-- a publisher whose cells are others
abbrev pub with_publisher_cells : List Cell → PublisherValue → PublisherValue
with_publisher_cells cells publisher = record publisher { cluster = record publisher.cluster { cells = cells } }

-- a publisher whose domain records are others
abbrev pub with_publisher_table : List DomainRecord → PublisherValue → PublisherValue
with_publisher_table table publisher = record publisher { cluster = record publisher.cluster { table = table } }
