-- One workflow in a cell.
use Rattle.std.specs.Prelude.{List, not, Some}
use Rattle.std.specs.List.{filter}
use Rattle.ndc_model_cells.specs.declared.message.Message.{Message}
use Rattle.ndc_model_cells.specs.Cells.{Cell, arrived_of}
use Rattle.ndc_model_cells.specs.Places.{is_of}
use Rattle.ndc_event.specs.declared.batch.Batch.{Batch}
use Rattle.ndc_event.specs.declared.name.Name.{Name}
use Rattle.ndc_model_sets.specs.Learned.{has_key, learned}

-- a workflow in a cell: the batches that have arrived, in key order, and the messages of what is put off, in key order
pub record WorkflowValue : Type 0 where
  pub arrived : List Batch
  pub waiting : List Message

-- a workflow as a cell has it
abbrev pub workflow_of : Name → Name → Cell → WorkflowValue
workflow_of domain workflow cell = record { arrived = arrived_of domain workflow cell; waiting = filter (λ sent. is_of domain workflow sent.batch) cell.waiting }

-- the batches of a workflow that are put off
abbrev pub off_in : WorkflowValue → List Batch
off_in w = filter (λ b. not (has_key (Some b.key) (learned w.arrived))) w.arrived
