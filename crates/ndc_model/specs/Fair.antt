-- Fair worlds: what is to hold of every world that a script comes to, in nine parts.
use Rattle.std.specs.Prelude.{◌≡◌, ◌≢◌, ℕ, ◌*◌, ◌<◌, ◌≤◌, Bool, true, false, ◌||◌, is_some, AllPairs, List, map, length, take, Some, if◌then◌else◌}
use Rattle.std.specs.List.{AllByRecursion, IsAmong, filter, flat_map, list_any}
use Rattle.ndc_domain.specs.Clusters.{cluster_no, count_of, writer_of}
use Rattle.ndc_domain.specs.Laws.{DaysAgree, NamesActive}
use Rattle.ndc_domain.specs.Records.{IsTable, record_of}
use Rattle.ndc_domain.specs.declared.clusters.ClusterNo.{ClusterNo}
use Rattle.ndc_domain.specs.declared.record.DomainRecord.{DomainRecord}
use Rattle.ndc_event.specs.declared.batch.Batch.{Batch}
use Rattle.ndc_event.specs.declared.name.Name.{Name}
use Rattle.ndc_script_types.specs.WellFormed.{AreTwoClusters, IsCluster}
use Rattle.ndc_script_types.specs.declared.script.Header.{Header}
use Rattle.ndc_model_sets.specs.Sets.{Has}
use Rattle.ndc_model_sets.specs.Sound.{CopiesNamed, IsSound}
use Rattle.ndc_model_cells.specs.declared.message.Message.{Message}
use Rattle.ndc_model_cells.specs.declared.place.Place.{Place}
use Rattle.ndc_model_cells.specs.Arrival.{has_arrived}
use Rattle.ndc_model_cells.specs.Cells.{Cell, both, carries, learned_of, own_message, put_off_in}
use Rattle.ndc_model_cells.specs.Places.{AreInOrder, batch_there, is_of, place_of}
use Rattle.ndc_model_cells.specs.Shards.{shard_of}
use Rattle.ndc_model.specs.Moves.{all_written, messages_among}
use Rattle.ndc_model.specs.Queues.{Lane, names_cluster, needs_nothing}
use Rattle.ndc_laws_cells.specs.Entries.{originals_in}
use Rattle.ndc_queue.specs.Levels.{AreLevels}
use Rattle.ndc_model.specs.World.{Link, World, all_clusters, cell_at, cluster_at, is_late_in, lane_in, opening_world, queue_at, trimmed_at}
use Rattle.ndc_model_cells.specs.Writing.{goes_on}

-- the places of all that the clusters have written in a shard
abbrev pub places_written : Header → ℕ → World → List Place
places_written header shard w = flat_map (λ cluster. map place_of (flat_map both (cell_at cluster shard w).written)) (all_clusters header)

-- all batches of a workflow that any cluster has written
abbrev pub written_of : Header → Name → Name → World → List Batch
written_of header domain workflow w = filter (is_of domain workflow) (all_written header (shard_of domain workflow header.shards) w)

-- something holds of the cell of each cluster for each shard
abbrev pub EachCell : Header → World → (ClusterNo → ℕ → Cell → Type 0) → Type 0
EachCell header w holds = (cluster : ClusterNo) (shard : ℕ) → IsCluster header cluster → shard < header.shards → holds cluster shard (cell_at cluster shard w)

-- something holds of each record of each cluster's table
abbrev pub EachRecord : Header → World → (DomainRecord → Type 0) → Type 0
EachRecord header w holds = (cluster : ClusterNo) → IsCluster header cluster → AllByRecursion holds (cluster_at cluster w).table

-- no two writings are of one place; what the clusters wrote of a workflow is sound, a batch carries one other exactly where it goes on as another run,
-- and a carried one does not go on itself
pub record WritingIsSound (header : Header) (w : World) : Type 0 where
  pub differ : (shard : ℕ) → shard < header.shards → AllPairs (λ one two. one ≢ two) (places_written header shard w)
  pub sound : (domain workflow : Name) → IsSound (written_of header domain workflow w)
  pub carried : (domain workflow : Name) (b : Batch) → Has (written_of header domain workflow w) b
      → length (filter (carries b) (written_of header domain workflow w)) ≡ (if goes_on b then 1 else 0)
  pub lone : (domain workflow : Name) (b : Batch) → Has (written_of header domain workflow w) b → is_some b.carrier ≡ true → goes_on b ≡ false

-- each copied signal names an original one
abbrev pub CopiesNameOriginals : Header → World → Type 0
CopiesNameOriginals header w = (domain workflow : Name) → CopiesNamed (written_of header domain workflow w)

-- a table has a record of the domain, whose version is not below this one
pub record HasRecordFrom (version : ℕ) (domain : Name) (table : List DomainRecord) : Type 0 where
  pub found : DomainRecord
  pub has : record_of table domain ≡ Some found
  pub least : version ≤ found.version

-- a batch that a cluster wrote in a shard: it is the workflow's shard, the version is the cluster's own, the batch is learned there, and the
-- cluster's record of the domain has come to the version
pub record IsOwn (header : Header) (cluster : ClusterNo) (shard : ℕ) (table : List DomainRecord) (cell : Cell) (b : Batch) : Type 0 where
  pub lives : shard_of b.domain b.workflow header.shards ≡ shard
  pub version : writer_of header.clusters b.key.version ≡ Some cluster
  pub learned : Has (learned_of b.domain b.workflow cell) b
  pub recorded : HasRecordFrom b.key.version b.domain table

-- each cluster has written with versions of its own
abbrev pub WritersUseOwnVersions : Header → World → Type 0
WritersUseOwnVersions header w =
    EachCell header w (λ cluster shard cell. AllByRecursion (IsOwn header cluster shard (cluster_at cluster w).table cell) (flat_map both cell.written))

-- a message is that of a batch of all that was written, with the version history of its path and the one that it carries
abbrev pub IsMessageTrue : Header → ℕ → World → Message → Type 0
IsMessageTrue header shard w sent =
    (batch_there (all_written header shard w) (place_of sent.batch) ≡ Some sent.batch)
    × (own_message (filter (is_of sent.batch.domain sent.batch.workflow) (all_written header shard w)) (all_written header shard w) sent.batch ≡ Some sent)

-- the messages that cells have written are those of their batches, and what waits in a cell is the messages of what is put off there
pub record AreMessagesTrue (header : Header) (w : World) (shard : ℕ) (cell : Cell) : Type 0 where
  pub written : AllByRecursion (IsMessageTrue header shard w) cell.written
  pub waiting : cell.waiting ≡ messages_among (all_written header shard w) (put_off_in cell)

-- the same of the cell of each cluster for each shard
abbrev pub MessagesAreTrue : Header → World → Type 0
MessagesAreTrue header w = EachCell header w (λ cluster shard cell. AreMessagesTrue header w shard cell)

-- what has arrived was written, each batch once, and a batch has arrived exactly where the one that it carries has
pub record IsArrivedFit (header : Header) (w : World) (shard : ℕ) (cell : Cell) : Type 0 where
  pub once : AreInOrder cell.arrived
  pub written : AllByRecursion (λ b. batch_there (all_written header shard w) (place_of b) ≡ Some b) cell.arrived
  pub carried : (b second : Batch) → IsAmong (all_written header shard w) b → IsAmong (all_written header shard w) second → carries b second ≡ true
      → has_arrived b cell ≡ has_arrived second cell

-- the same of the cell of each cluster for each shard
abbrev pub ArrivalsWereWritten : Header → World → Type 0
ArrivalsWereWritten header w = EachCell header w (λ cluster shard cell. IsArrivedFit header w shard cell)

-- something holds of each lane of each link
abbrev pub EachLane : Header → World → (Link → ℕ → Lane → Type 0) → Type 0
EachLane header w holds = AllByRecursion (λ link. (shard : ℕ) → shard < header.shards → holds link shard (lane_in link shard)) w.links

-- the levels of a lane: nothing is trimmed that is not done, nothing is done that was not read, and nothing was read beyond the queue's end;
-- what is done is learned by the reader, not addressed to it, or late; what is in flight is in the queue
pub record IsLaneTrue (w : World) (link : Link) (shard : ℕ) (lane : Lane) : Type 0 where
  pub trimmed_most : trimmed_at link.source w shard ≤ lane.levels.done
  pub levels : AreLevels (queue_at link.source shard w) lane.levels
  pub done : AllByRecursion
      (λ sent. (needs_nothing link.reader (cluster_at link.source w).table (cell_at link.reader shard w) sent || is_late_in sent.batch.domain link) ≡ true)
      (take lane.levels.done (queue_at link.source shard w))
  pub flight : AllByRecursion (IsAmong (queue_at link.source shard w)) lane.flight

-- the same of each lane
abbrev pub LanesAreTrue : Header → World → Type 0
LanesAreTrue header w = EachLane header w (IsLaneTrue w)

-- the primary cluster: the first of the header
abbrev pub primary : ClusterNo
primary = cluster_no 0

-- a table has a record of this one's domain whose config version is not below this one's
pub record IsConfigKnown (table : List DomainRecord) (one : DomainRecord) : Type 0 where
  pub found : DomainRecord
  pub has : record_of table one.name ≡ Some found
  pub most : one.config ≤ found.config

-- a record's version has a writer, and its config version is at most the number of lines run
pub record IsRecordInRange (header : Header) (lines : ℕ) (one : DomainRecord) : Type 0 where
  pub writer : is_some (writer_of header.clusters one.version) ≡ true
  pub config_most : one.config ≤ lines

-- tables are in order and their records in range, versions at most 10^13; the primary knows each domain and its greatest config version; equal config versions have equal days
pub record RecordsAgree (header : Header) (lines : ℕ) (w : World) : Type 0 where
  pub tables : (cluster : ClusterNo) → IsCluster header cluster → IsTable (cluster_at cluster w).table
  pub ranges : EachRecord header w (IsRecordInRange header lines)
  pub known : EachRecord header w (IsConfigKnown (cluster_at primary w).table)
  pub days : (one two : ClusterNo) → IsCluster header one → IsCluster header two → DaysAgree (cluster_at one w).table (cluster_at two w).table

-- what was written of a workflow is bounded by the lines run: tasks by batches, batches and original signals by lines; no batch is longer than a history may be with what goes before and after a command
pub record AreNumbersSmall (lines : ℕ) (batches : List Batch) : Type 0 where
  pub tasks : AllByRecursion (λ b. b.key.task ≤ length batches) batches
  pub batches_most : length batches ≤ 2 * lines
  pub originals_most : originals_in batches ≤ lines
  pub events_most : AllByRecursion (λ b. length b.events ≤ 204803) batches

-- the same of each workflow, and no more lines were run than a script has
pub record NumbersAreSmall (header : Header) (lines : ℕ) (w : World) : Type 0 where
  pub written : (domain workflow : Name) → AreNumbersSmall lines (written_of header domain workflow w)
  pub lines_most : lines ≤ 100000

-- a record names its active cluster, and its members are clusters of the header
pub record AreMembersKnown (header : Header) (one : DomainRecord) : Type 0 where
  pub active : NamesActive header.clusters one
  pub known : AllByRecursion (λ number. number < count_of header.clusters) one.members

-- whether some cluster's record of a domain names a cluster
abbrev pub is_named : Header → ClusterNo → World → Name → Bool
is_named header cluster w domain = list_any (λ other. names_cluster cluster (record_of (cluster_at other w).table domain)) (all_clusters header)

-- batches come to members alone: what has arrived, what is in flight and what is late is of domains that name the cluster
pub record MembersAlone (header : Header) (w : World) : Type 0 where
  pub members : EachRecord header w (AreMembersKnown header)
  pub arrived : EachCell header w (λ cluster shard cell. AllByRecursion (λ b. is_named header cluster w b.domain ≡ true) cell.arrived)
  pub flight : EachLane header w (λ link shard lane. AllByRecursion (λ sent. is_named header link.reader w sent.batch.domain ≡ true) lane.flight)
  pub late : AllByRecursion (λ link. AllByRecursion (λ domain. names_cluster link.reader (record_of (cluster_at link.source w).table domain) ≡ true) link.late) w.links

-- the reader and the source of a link
abbrev pub ends_of : Link → ClusterNo × ClusterNo
ends_of link = (link.reader, link.source)

-- a world has a part for each cluster, reader, source and shard of the header, and links between clusters of the header
pub record IsShaped (header : Header) (w : World) : Type 0 where
  pub clusters : length w.clusters ≡ count_of header.clusters
  pub cells : AllByRecursion (λ cluster. length cluster.cells ≡ header.shards) w.clusters
  pub links : map ends_of w.links ≡ map ends_of (opening_world header).links
  pub ends : AllByRecursion (λ link. AreTwoClusters header link.reader link.source) w.links
  pub lanes : AllByRecursion (λ link. length link.lanes ≡ header.shards) w.links
  pub sources : length w.trimmed ≡ count_of header.clusters
  pub trimmed : AllByRecursion (λ levels. length levels ≡ header.shards) w.trimmed

-- a fair world, after so many lines
pub record IsFair (header : Header) (lines : ℕ) (w : World) : Type 0 where
  pub writing : WritingIsSound header w
  pub copies : CopiesNameOriginals header w
  pub writers : WritersUseOwnVersions header w
  pub arrivals : ArrivalsWereWritten header w
  pub messages : MessagesAreTrue header w
  pub lanes : LanesAreTrue header w
  pub records : RecordsAgree header lines w
  pub numbers : NumbersAreSmall header lines w
  pub members : MembersAlone header w
