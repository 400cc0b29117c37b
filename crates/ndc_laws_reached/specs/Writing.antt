-- What lines that write, and reapplication in one workflow, are to keep.
use Rattle.std.specs.Prelude.{◌≡◌, ℕ, ◌+◌, ◌*◌, ◌<◌, ◌≤◌, false, length, slice_set}
use Rattle.ndc_script_types.specs.WellFormed.{IsCluster, IsWellFormedAct}
use Rattle.ndc_script_types.specs.declared.script.Act.TheVariants as act
use Rattle.ndc_script_types.specs.declared.script.Header.{Header}
use Rattle.ndc_model_cells.specs.Cells.{Cell}
use Rattle.ndc_model_cells.specs.Places.{is_of}
use Rattle.ndc_model_cells.specs.Shards.{shard_of}
use Rattle.ndc_model_cells.specs.Writing.{reapplication_of, with_all_written}
use Rattle.ndc_command.specs.declared.command.Command.{Command}
use Rattle.ndc_domain.specs.declared.clusters.ClusterNo.{ClusterNo}
use Rattle.ndc_event.specs.declared.batch.Batch.{Batch}
use Rattle.ndc_event.specs.declared.name.Name.{Name}
use Rattle.ndc_model.specs.Facts.{IsReached}
use Rattle.ndc_model.specs.Fair.{written_of}
use Rattle.ndc_model.specs.Steps.{command_step, reset_step}
use Rattle.ndc_model.specs.World.{World, cell_at, cluster_at, home_at, with_cells}

-- how many batches of a workflow any cluster has written
abbrev pub count_in : Header → Name → Name → World → ℕ
count_in header domain workflow w = length (written_of header domain workflow w)

-- a cell takes the place of another
abbrev pub with_cell : ClusterNo → ℕ → Cell → World → World
with_cell cluster shard cell w = with_cells cluster (slice_set (cluster_at cluster w).cells shard cell) w

-- the cell after reapplication in the workflow of a batch
abbrev pub cell_applied : Header → ClusterNo → ℕ → Batch → World → Cell
cell_applied header cluster shard b w =
    with_all_written (reapplication_of (home_at header cluster w) b.domain b.workflow (cell_at cluster shard w)) (cell_at cluster shard w)

-- a world in which a cluster has applied again the strays of the workflow of a batch
abbrev pub applied_in : Header → ClusterNo → ℕ → Batch → World → World
applied_in header cluster shard b w = with_cell cluster shard (cell_applied header cluster shard b w) w

-- what reapplication in the workflow of a batch leaves: a world that is as it should be, in which nothing more is written of
-- any other workflow, and one batch more of this one at most
pub record IsApplied (header : Header) (lines : ℕ) (b : Batch) (w v : World) : Type 0 where
  pub reached : IsReached header lines v
  pub others : (domain workflow : Name) → is_of domain workflow b ≡ false → written_of header domain workflow v ≡ written_of header domain workflow w
  pub own : count_in header b.domain b.workflow v ≤ count_in header b.domain b.workflow w + 1

-- reapplication in one workflow keeps worlds reached, where there is room for one batch more
abbrev pub ApplyingKeeps : Header → ℕ → Type 0
ApplyingKeeps header lines =
    (cluster : ClusterNo) (shard : ℕ) (b : Batch) (w : World) → IsCluster header cluster → shard < header.shards → shard_of b.domain b.workflow header.shards ≡ shard
    → IsReached header lines w → count_in header b.domain b.workflow w + 1 ≤ 2 * lines → IsApplied header lines b w (applied_in header cluster shard b w)

-- commands, resets and reapplication keep worlds reached after so many lines, the first two with a line more
pub record WritingKeeps (header : Header) (lines : ℕ) : Type 0 where
  pub command : (cluster : ClusterNo) (domain workflow : Name) (command : Command) (w : World) → IsWellFormedAct header (act.Command cluster domain workflow command)
      → IsReached header lines w → IsReached header (lines + 1) (command_step header cluster domain workflow command w).world
  pub reset : (cluster : ClusterNo) (domain workflow : Name) (event : ℕ) (w : World) → IsWellFormedAct header (act.Reset cluster domain workflow event)
      → IsReached header lines w → IsReached header (lines + 1) (reset_step header cluster domain workflow event w).world
  pub applied : ApplyingKeeps header (lines + 1)
