-- What is read of a cell, as its workflows have it.
use Rattle.std.proofs.Common.{◌≡◌, sym, ap}
use Rattle.std.specs.Prelude.{is_some}
use Rattle.ndc_model_cells.specs.Cells.{Cell}
use Rattle.ndc_model_cells.specs.Places.{batch_there, is_of}
use Rattle.ndc_model_cells.specs.Workflow.{workflow_of}
use Rattle.ndc_event.specs.Key.{key_eq}
use Rattle.ndc_event.specs.declared.key.BatchKey.{BatchKey}
use Rattle.ndc_event.specs.declared.name.Name.{Name}
use Rattle.ndc_shard_workflows.proofs.CellLemmas.{find-filter}
use Rattle.ndc_shard_workflows.specs.Workflow.{has_arrived}

-- whether a batch has arrived at a place is whether it has in the place's workflow
pub arrived-there : (d w : Name) (key : BatchKey) (cell : Cell) → has_arrived key (workflow_of d w cell) ≡ is_some (batch_there cell.arrived (record { domain = d; workflow = w; key = key }))
arrived-there d w key cell = ap is_some (sym (find-filter (is_of d w) (λ b. key_eq b.key key) cell.arrived))
