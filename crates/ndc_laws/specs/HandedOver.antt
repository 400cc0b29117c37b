-- Where a cluster goes on to which a domain was handed over.
use Rattle.std.specs.Prelude.{◌≡◌, ◌≢◌, ◌⊎◌, ℕ, List, None, Some, Ok}
use Rattle.std.specs.List.{AllByRecursion}
use Rattle.ndc_script_types.specs.declared.script.Header.{Header}
use Rattle.ndc_model_cells.specs.Writing.{Entry, batches_in, command_of, reapplication_of, reset_at}
use Rattle.ndc_command.specs.declared.command.Command.{Command}
use Rattle.ndc_domain.specs.declared.clusters.ClusterNo.{ClusterNo}
use Rattle.ndc_event.specs.declared.batch.Batch.{Batch}
use Rattle.ndc_event.specs.declared.name.Name.{Name}
use Rattle.ndc_model.specs.Fair.{written_of}
use Rattle.ndc_model.specs.Reading.{learned_at}
use Rattle.ndc_model.specs.World.{World, cell_of, home_at}
use Rattle.ndc_model_sets.specs.Branches.{workflow_tip}
use Rattle.ndc_model_sets.specs.Sets.{Has}

-- a batch begins a run, or goes below this one
abbrev pub BeginsOrGoesBelow : Batch → Batch → Type 0
BeginsOrGoesBelow tip b = (b.parent ≡ None) ⊎ (b.parent ≡ Some tip.key)

-- so does each batch of what is written
abbrev pub EachBeginsOrGoesBelow : Batch → List Entry → Type 0
EachBeginsOrGoesBelow tip entries = AllByRecursion (λ entry. AllByRecursion (BeginsOrGoesBelow tip) (batches_in entry)) entries

-- whatever a cluster writes next to a workflow, by a command, a reset or reapplication, begins a run or goes below this batch
pub record WritesNextBelow (header : Header) (cluster : ClusterNo) (domain workflow : Name) (w : World) (tip : Batch) : Type 0 where
  pub commanded : (command : Command) (entries : List Entry) → command_of (home_at header cluster w) domain workflow command (cell_of header cluster domain workflow w) ≡ Ok entries
      → EachBeginsOrGoesBelow tip entries
  pub reset : (event : ℕ) (entries : List Entry) → reset_at (home_at header cluster w) domain workflow event (cell_of header cluster domain workflow w) ≡ Ok entries
      → EachBeginsOrGoesBelow tip entries
  pub applied : EachBeginsOrGoesBelow tip (reapplication_of (home_at header cluster w) domain workflow (cell_of header cluster domain workflow w))

-- none of the batches names this one as its parent
abbrev pub HasNoChild : List Batch → Batch → Type 0
HasNoChild batches tip = (other : Batch) → Has batches other → other.parent ≢ Some tip.key

-- the tip of a cluster's current run of a workflow has no child in all that was written, and the cluster writes next below it
pub record GoesOnAtTheEnd (header : Header) (cluster : ClusterNo) (domain workflow : Name) (w : World) : Type 0 where
  pub tip : Batch
  pub current : workflow_tip (learned_at header cluster domain workflow w) ≡ Some tip
  pub written : Has (written_of header domain workflow w) tip
  pub childless : HasNoChild (written_of header domain workflow w) tip
  pub next : WritesNextBelow header cluster domain workflow w tip
