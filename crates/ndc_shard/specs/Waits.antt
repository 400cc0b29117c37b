-- How much waits in a cell.
use Rattle.std.specs.Prelude.{length, map, List}
use Rattle.ndc_model_cells.specs.Cells.{Cell, put_off_in}
use Rattle.ndc_model_cells.specs.Jobs.{workflows_of}
use Rattle.ndc_model_cells.specs.Places.{place_of}
use Rattle.ndc_model_cells.specs.Workflow.{workflow_of}
use Rattle.ndc_model_cells.specs.declared.place.Place.{Place}
use Rattle.ndc_shard.specs.declared.showing.Waits.{Waits}

-- how many messages wait in the workflow of a place
abbrev pub waits_since : Cell → Place → Waits
waits_since cell place = record { since = place; count = length (workflow_of place.domain place.workflow cell).waiting }

-- the same of each workflow of which something is put off, by the place of the first batch that is
abbrev pub all_waits : Cell → List Waits
all_waits cell = map (waits_since cell) (map place_of (workflows_of (put_off_in cell)))
