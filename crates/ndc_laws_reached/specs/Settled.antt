-- What a settlement leaves, and what reapplication by a writer that has learned all is to settle.
use Rattle.std.specs.Prelude.{◌≡◌, ℕ, ◌+◌, ◌*◌, ◌<◌, ◌≤◌, true, false, [], length, Ok}
use Rattle.ndc_script_types.specs.WellFormed.{AreTwoClusters, IsCluster}
use Rattle.ndc_script_types.specs.declared.script.Header.{Header}
use Rattle.ndc_model_cells.specs.Cells.{arrived_of, learned_of, put_off_in}
use Rattle.ndc_model_cells.specs.Shards.{shard_of}
use Rattle.ndc_model_cells.specs.Writing.{may_write}
use Rattle.ndc_domain.specs.Records.{record_of}
use Rattle.ndc_domain.specs.declared.clusters.ClusterNo.{ClusterNo}
use Rattle.ndc_event.specs.declared.batch.Batch.{Batch}
use Rattle.ndc_event.specs.declared.name.Name.{Name}
use Rattle.ndc_laws_reached.specs.Writing.{applied_in, count_in}
use Rattle.ndc_model.specs.Facts.{IsReached}
use Rattle.ndc_model.specs.Fair.{written_of}
use Rattle.ndc_model.specs.Queues.{names_cluster}
use Rattle.ndc_model.specs.World.{World, cell_at, cell_of, cluster_at, flight_at, home_at, lane_at, link_at, queue_at}
use Rattle.ndc_model_sets.specs.Current.{HasNoStray}

-- a settled world: the tables of all clusters are one; a member of a domain has learned all that was written of its workflows, and leaves
-- nothing to be applied again; nothing of it has arrived anywhere else; nothing is put off, in flight or late, and all queues are done
pub record IsSettled (header : Header) (w : World) : Type 0 where
  pub tables : (one two : ClusterNo) → IsCluster header one → IsCluster header two → (cluster_at one w).table ≡ (cluster_at two w).table
  pub members : (cluster : ClusterNo) → IsCluster header cluster → (domain workflow : Name) → names_cluster cluster (record_of (cluster_at cluster w).table domain) ≡ true
      → learned_of domain workflow (cell_of header cluster domain workflow w) ≡ written_of header domain workflow w
  pub strangers : (cluster : ClusterNo) → IsCluster header cluster → (domain workflow : Name) → names_cluster cluster (record_of (cluster_at cluster w).table domain) ≡ false
      → arrived_of domain workflow (cell_of header cluster domain workflow w) ≡ []
  pub strays : (cluster : ClusterNo) → IsCluster header cluster → (domain workflow : Name) → names_cluster cluster (record_of (cluster_at cluster w).table domain) ≡ true
      → HasNoStray (learned_of domain workflow (cell_of header cluster domain workflow w))
  pub put_off : (cluster : ClusterNo) (shard : ℕ) → IsCluster header cluster → shard < header.shards → put_off_in (cell_at cluster shard w) ≡ []
  pub flight : (reader source : ClusterNo) (shard : ℕ) → flight_at reader source shard w ≡ []
  pub late : (reader source : ClusterNo) → AreTwoClusters header reader source → (link_at reader source w).late ≡ []
  pub done : (reader source : ClusterNo) (shard : ℕ) → AreTwoClusters header reader source → shard < header.shards
      → (lane_at reader source shard w).levels.done ≡ length (queue_at source shard w)

-- what reapplication by a writer leaves of the workflow of a batch: it has learned all that was written, and nothing is to be applied again
pub record IsOwnSettled (header : Header) (cluster : ClusterNo) (b : Batch) (v : World) : Type 0 where
  pub learned : learned_of b.domain b.workflow (cell_of header cluster b.domain b.workflow v) ≡ written_of header b.domain b.workflow v
  pub strays : HasNoStray (written_of header b.domain b.workflow v)

-- a writer that has learned all that was written of a workflow settles it by reapplication, where there is room for one batch more
abbrev pub ApplyingSettles : Header → ℕ → Type 0
ApplyingSettles header lines =
    (cluster : ClusterNo) (shard : ℕ) (b : Batch) (w : World) (version : ℕ) → IsCluster header cluster → shard < header.shards → shard_of b.domain b.workflow header.shards ≡ shard → IsReached header lines w
    → learned_of b.domain b.workflow (cell_at cluster shard w) ≡ written_of header b.domain b.workflow w → may_write (home_at header cluster w) b.domain b.workflow (cell_at cluster shard w) ≡ Ok version
    → count_in header b.domain b.workflow w + 1 ≤ 2 * lines → IsOwnSettled header cluster b (applied_in header cluster shard b w)
