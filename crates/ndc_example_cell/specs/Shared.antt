-- Two cells of two clusters that hold batches of one workflow.
use Rattle.std.specs.Prelude.{◌≡◌, ◌≢◌, ◌≤◌, ◌^◌, ℕ, false, length, List, []}
use Rattle.std.specs.List.{flat_map}
use Rattle.ndc_domain.specs.Clusters.{ClusterList}
use Rattle.ndc_domain.specs.declared.clusters.ClusterNo.{ClusterNo}
use Rattle.ndc_domain.specs.declared.record.DomainRecord.{DomainRecord}
use Rattle.ndc_event.specs.declared.batch.Batch.{Batch}
use Rattle.ndc_event.specs.declared.name.Name.{Name}
use Rattle.ndc_model_cells.specs.Keeping.{IsAuthored, IsKept, IsWhole, HaveTasksUpTo}
use Rattle.ndc_model_cells.specs.Cells.{Cell, arrived_of}
use Rattle.ndc_model_cells.specs.Places.{is_of}
use Rattle.ndc_model_cells.specs.Writing.{Desk}

-- where a cell of a cluster stands, with histories of at most 100 events
abbrev pub standing : ClusterList → ClusterNo → List DomainRecord → Desk
standing clusters me table = record { clusters = clusters; me = me; limit = 100; table = table }

-- nothing of any other workflow has arrived
abbrev pub HoldsOnly : Name → Name → Cell → Type 0
HoldsOnly domain workflow cell = (d w : Name) → ((b : Batch) → b.domain ≡ domain → b.workflow ≡ workflow → is_of d w b ≡ false) → arrived_of d w cell ≡ []

-- a set is small: so many events, and so many tasks
pub record IsSmallSet (most : ℕ) (all : List Batch) : Type 0 where
  pub events_most : length (flat_map (λ b. b.events) all) ≤ most
  pub tasks_most : HaveTasksUpTo most all

-- the cells of two clusters keep one set of a workflow as its authors, and it is small
pub record AreShared (clusters : ClusterList) (me them : ClusterNo) (most : ℕ) (domain workflow : Name) (mine theirs : Cell) : Type 0 where
  pub all : List Batch
  pub differ : me ≢ them
  pub few : most ≤ 10 ^ 10
  pub small : IsSmallSet most all
  pub mine_is : IsAuthored (standing clusters me []) all domain workflow mine
  pub theirs_is : IsAuthored (standing clusters them []) all domain workflow theirs
  pub mine_only : HoldsOnly domain workflow mine
  pub theirs_only : HoldsOnly domain workflow theirs

-- one cell can tell another what it has learned of a workflow: both keep one set, which is small
pub record CanTell (most : ℕ) (domain workflow : Name) (teller hearer : Cell) : Type 0 where
  pub all : List Batch
  pub few : most ≤ 10 ^ 10
  pub small : IsSmallSet most all
  pub kept : IsKept all domain workflow teller
  pub whole : IsWhole domain workflow teller
  pub heard : IsKept all domain workflow hearer
  pub only : HoldsOnly domain workflow teller
