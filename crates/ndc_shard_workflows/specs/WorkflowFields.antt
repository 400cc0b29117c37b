-- The fields of a workflow in a cell.
use Rattle.std.specs.List.{AllByRecursion}
use Rattle.ndc_shard_waiting.specs.Learning.{ArePutOff}
use Rattle.ndc_model_cells.specs.Messages.{batches_of, HasSmallIds}
use Rattle.ndc_shard_workflows.specs.declared.workflow.Workflow.TheInside.{Inside}
use Rattle.ndc_model_cells.specs.Workflow.{WorkflowValue}
use Rattle.ndc_shard_workflows.specs.Workflow.{beside}

-- the messages wait beside what is learned
abbrev pub workflow_in : Inside → WorkflowValue
workflow_in w = beside w.runs w.waiting

-- beside what is learned the messages are put off, and their event ids are small
pub record IsWorkflowInside (w : Inside) : Type 0 where
  pub apart : ArePutOff w.runs w.waiting
  pub small : AllByRecursion HasSmallIds (batches_of w.waiting)
