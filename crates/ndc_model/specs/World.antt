-- The world: all clusters, and what each has of the queues of each other.
use Rattle.std.specs.Str.{bytes_eq}
use Rattle.std.specs.Prelude.{ℕ, Bool, ◌&&◌, not, List, [], ◌∷◌, ◌++◌, map, find, slice_index_or, slice_set, Option, Some, None, if◌then◌else◌, replicate}
use Rattle.std.specs.List.{filter, flat_map, range_with_len, list_any}
use Rattle.ndc_domain.specs.Clusters.{count_of}
use Rattle.ndc_domain.specs.declared.clusters.ClusterNo.{ClusterNo}
use Rattle.ndc_domain.specs.declared.record.DomainRecord.{DomainRecord}
use Rattle.ndc_domain.specs.Records.{record_of}
use Rattle.ndc_event.specs.declared.name.Name.{Name}
use Rattle.ndc_script_types.specs.declared.script.Header.{Header}
use Rattle.ndc_script_types.specs.Below.{clusters_below}
use Rattle.ndc_model_cells.specs.declared.message.Message.{Message}
use Rattle.ndc_model_cells.specs.Cells.{Cell, empty_cell}
use Rattle.ndc_model_cells.specs.Jobs.{cell_for}
use Rattle.ndc_model_cells.specs.Shards.{shard_of}
use Rattle.ndc_model_cells.specs.Writing.{Desk, same_cluster}
use Rattle.ndc_graceful.specs.declared.handover.Handover.{Handover}
use Rattle.ndc_letters.specs.declared.letter.Letter.{Letter}
use Rattle.ndc_progress.specs.declared.report.Report.{Report}
use Rattle.ndc_model.specs.Queues.{Lane, names_cluster, new_lane}

-- a cluster: its domain records, its cells by shard, what it set aside, and all progress reports that it told or took over
pub record Cluster : Type 0 where
  pub table : List DomainRecord
  pub cells : List Cell
  pub letters : List Letter
  pub reports : List Report

-- what a reader has of a source: a lane for each shard, and the domains of which it came to be a member late
pub record Link : Type 0 where
  pub reader : ClusterNo
  pub source : ClusterNo
  pub lanes : List Lane
  pub late : List Name

-- a world: the clusters in header order, what each reader has of each other cluster, how far each queue is trimmed by source and then shard,
-- and the open handovers
pub record World : Type 0 where
  pub clusters : List Cluster
  pub links : List Link
  pub trimmed : List (List ℕ)
  pub handovers : List Handover

-- the clusters of a header
abbrev pub all_clusters : Header → List ClusterNo
all_clusters header = clusters_below (count_of header.clusters)

-- the shards of a header
abbrev pub shards_of : Header → List ℕ
shards_of header = range_with_len 0 header.shards

-- the clusters other than this one
abbrev pub others_of : Header → ClusterNo → List ClusterNo
others_of header cluster = filter (λ other. not (same_cluster cluster other)) (all_clusters header)

-- what a reader has of a source in the beginning
abbrev pub new_link : Header → ClusterNo → ClusterNo → Link
new_link header reader source = record { reader = reader; source = source; lanes = replicate header.shards new_lane; late = [] }

-- a cluster in the beginning
abbrev pub new_cluster : ℕ → Cluster
new_cluster shards = record { table = []; cells = replicate shards empty_cell; letters = []; reports = [] }

-- the opening world: nothing is registered, written or sent
abbrev pub opening_world : Header → World
opening_world header = record {
  clusters = map (λ _. new_cluster header.shards) (all_clusters header);
  links = flat_map (λ reader. map (new_link header reader) (others_of header reader)) (all_clusters header);
  trimmed = map (λ _. replicate header.shards 0) (all_clusters header);
  handovers = [];
}

-- the cluster of a number
abbrev pub cluster_at : ClusterNo → World → Cluster
cluster_at cluster w = slice_index_or w.clusters cluster.number (new_cluster 0)

-- the cell of a cluster for a shard
abbrev pub cell_at : ClusterNo → ℕ → World → Cell
cell_at cluster shard w = cell_for shard (cluster_at cluster w).cells

-- the cell of a cluster in which a workflow lives
abbrev pub cell_of : Header → ClusterNo → Name → Name → World → Cell
cell_of header cluster domain workflow w = cell_at cluster (shard_of domain workflow header.shards) w

-- the queue of a source for a shard: what its cell has written
abbrev pub queue_at : ClusterNo → ℕ → World → List Message
queue_at source shard w = (cell_at source shard w).written

-- whether it is what this reader has of this source
abbrev pub is_link : ClusterNo → ClusterNo → Link → Bool
is_link reader source link = same_cluster link.reader reader && same_cluster link.source source

-- the link that was found; where there is none, one without lanes
abbrev pub link_found : ClusterNo → ClusterNo → Option Link → Link
link_found reader source None = record { reader = reader; source = source; lanes = []; late = [] }
link_found reader source (Some link) = link

-- what a reader has of a source in a world
abbrev pub link_at : ClusterNo → ClusterNo → World → Link
link_at reader source w = link_found reader source (find (is_link reader source) w.links)

-- the lane of a link for a shard
abbrev pub lane_in : Link → ℕ → Lane
lane_in link shard = slice_index_or link.lanes shard new_lane

-- the lane of a reader, a source and a shard
abbrev pub lane_at : ClusterNo → ClusterNo → ℕ → World → Lane
lane_at reader source shard w = lane_in (link_at reader source w) shard

-- what is in flight from a source to a reader for a shard
abbrev pub flight_at : ClusterNo → ClusterNo → ℕ → World → List Message
flight_at reader source shard w = (lane_at reader source shard w).flight

-- a cluster takes the place of another
abbrev pub with_cluster : ClusterNo → Cluster → World → World
with_cluster cluster new w = record w { clusters = slice_set w.clusters cluster.number new }

-- the cells of a cluster become others
abbrev pub with_cells : ClusterNo → List Cell → World → World
with_cells cluster cells w = with_cluster cluster (record (cluster_at cluster w) { cells = cells }) w

-- the first item that passes, changed where there is one
abbrev pub changed_first : {X : Type 0} → (X → Bool) → (X → X) → List X → List X
changed_first test change [] = []
changed_first test change (x ∷ xs) = if test x then change x ∷ xs else x ∷ changed_first test change xs

-- what a reader has of a source, changed where it is found
abbrev pub with_link : ClusterNo → ClusterNo → (Link → Link) → World → World
with_link reader source change w = record w { links = changed_first (is_link reader source) change w.links }

-- a lane takes the place of another
abbrev pub with_lane : ClusterNo → ClusterNo → ℕ → Lane → World → World
with_lane reader source shard lane w = with_link reader source (λ link. record link { lanes = slice_set link.lanes shard lane }) w

-- what is in flight becomes another list
abbrev pub with_flight : ClusterNo → ClusterNo → ℕ → List Message → World → World
with_flight reader source shard flight w = with_lane reader source shard (record (lane_at reader source shard w) { flight = flight }) w

-- the domains whose record did not name a cluster and comes to name it, in order of name
abbrev pub newly_naming : ClusterNo → List DomainRecord → List DomainRecord → List Name
newly_naming reader [] after = []
newly_naming reader (one ∷ before) after =
    if not (names_cluster reader (Some one)) && names_cluster reader (record_of after one.name)
    then one.name ∷ newly_naming reader before after else newly_naming reader before after

-- domains that come to name a reader go last among those of which it is a member late
abbrev pub with_late : ClusterNo → List DomainRecord → List DomainRecord → Link → Link
with_late source before after link =
    if same_cluster link.source source then record link { late = link.late ++ newly_naming link.reader before after } else link

-- a table takes the place of another, and readers may come to be members late
unfoldable pub with_table : ClusterNo → List DomainRecord → World → World
with_table cluster table w = record w {
  clusters = slice_set w.clusters cluster.number (record (cluster_at cluster w) { table = table });
  links = map (with_late cluster (cluster_at cluster w).table table) w.links;
}

-- whether a domain is one of those that the reader of a link still lacks
abbrev pub is_late_in : Name → Link → Bool
is_late_in domain link = list_any (λ late. bytes_eq late domain) link.late

-- how far the queue of a source is trimmed for a shard
abbrev pub trimmed_at : ClusterNo → World → ℕ → ℕ
trimmed_at source w shard = slice_index_or (slice_index_or w.trimmed source.number []) shard 0

-- where a cell of a cluster stands
abbrev pub home_at : Header → ClusterNo → World → Desk
home_at header cluster w = record { clusters = header.clusters; me = cluster; limit = header.limit; table = (cluster_at cluster w).table }
