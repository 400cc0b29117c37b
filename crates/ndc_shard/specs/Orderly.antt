-- A cell as a shard always is.
use Rattle.std.specs.List.{AllByRecursion}
use Rattle.ndc_event.specs.declared.name.Name.{Name}
use Rattle.ndc_model_cells.specs.Cells.{Cell, IsCell}
use Rattle.ndc_model_cells.specs.Workflow.{workflow_of}
use Rattle.ndc_shard.specs.Sent.{HasCarrier}
use Rattle.ndc_shard_workflows.specs.Workflow.{IsWorkflow}

-- what has arrived stands in order, each workflow is what is learned of it and what waits beside it, and no batch has arrived without its carrier, which
-- none carries
pub record IsOrderly (cell : Cell) : Type 0 where
  pub cell_is : IsCell cell
  pub workflows : (domain workflow : Name) → IsWorkflow (workflow_of domain workflow cell)
  pub carried : AllByRecursion (HasCarrier cell) cell.arrived
