-- Words for the laws on cells.
use Rattle.std.specs.Prelude.{List, Option, Some, None}
use Rattle.ndc_model_cells.specs.Cells.{Cell, arrived_of}
use Rattle.ndc_event.specs.declared.batch.Batch.{Batch}
use Rattle.ndc_event.specs.declared.name.Name.{Name}
use Rattle.ndc_model_sets.specs.Learned.{IsPart}
use Rattle.ndc_model_sets.specs.Sets.{arrived}

-- arrival of the batch that is carried, where there is one
abbrev pub arrived_second : Option Batch → List Batch → List Batch
arrived_second None batches = batches
arrived_second (Some second) batches = arrived second batches

-- what has arrived of a workflow in a cell are all batches of this set
abbrev pub IsFoundAmong : Name → Name → Cell → List Batch → Type 0
IsFoundAmong domain workflow cell batches = IsPart (arrived_of domain workflow cell) batches
