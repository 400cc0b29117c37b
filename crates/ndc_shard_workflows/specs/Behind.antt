-- Workflows of which something is put off.
use Rattle.std.specs.Prelude.{◌≡◌, false, List, [], ◌∷◌, Option, Some, None}
use Rattle.std.specs.Option.{option_map}
use Rattle.ndc_model_cells.specs.declared.place.Place.{Place}
use Rattle.ndc_model_cells.specs.Cells.{Cell}
use Rattle.ndc_model_cells.specs.Places.{place_of}
use Rattle.ndc_event.specs.declared.batch.Batch.{Batch}
use Rattle.ndc_event.specs.declared.name.Name.{Name}
use Rattle.ndc_shard_workflows.specs.Workflow.{off_in}
use Rattle.ndc_model_cells.specs.Workflow.{workflow_of}
use Rattle.ndc_shard_workflows.specs.Due.{is_listed}

-- nothing is put off of any workflow of the cell but these
abbrev pub HoldBehind : List (Name × Name) → Cell → Type 0
HoldBehind list cell = (domain workflow : Name) → is_listed domain workflow list ≡ false → (workflow_of domain workflow cell).waiting ≡ []

-- the first of these batches, where there is one
abbrev pub first_batch : List Batch → Option Batch
first_batch [] = None
first_batch (b ∷ batches) = Some b

-- the place of the first batch that is put off of a workflow, where there is one
abbrev pub first_behind : Cell → Name × Name → Option Place
first_behind cell names = option_map place_of (first_batch (off_in (workflow_of names.0 names.1 cell)))
