-- What is put off, each batch with the gap before it.
use Rattle.std.specs.Prelude.{List, [], map, is_some, Option, Some, None, unwrap_or, if◌then◌else◌}
use Rattle.ndc_event.specs.declared.batch.Batch.{Batch}
use Rattle.ndc_event.specs.declared.key.BatchKey.{BatchKey}
use Rattle.ndc_history.specs.declared.item.Item.{Item}
use Rattle.ndc_model_cells.specs.declared.message.Message.{Message}
use Rattle.ndc_model_cells.specs.declared.place.Place.{Place}
use Rattle.ndc_model_cells.specs.Cells.{Cell, missing_of, put_off_in}
pub use Rattle.ndc_model_cells.specs.Messages.{message_with}
use Rattle.ndc_model_cells.specs.Workflow.{WorkflowValue, workflow_of}
pub use Rattle.ndc_model_cells.specs.Workflow.{off_in}
use Rattle.ndc_model_sets.specs.Branches.{histories}
use Rattle.ndc_model_sets.specs.Learned.{learned}
use Rattle.ndc_resend.specs.declared.asking.GapOf.{GapOf}
use Rattle.ndc_resend.specs.Gaps.{first_item, gap_of}

-- the version history that a message came with, where there is one
abbrev pub history_in : Option Message → List Item
history_in None = []
history_in (Some sent) = sent.history

-- the version history that the message of a batch came with; none where the batch begins its run
abbrev pub remote_of : Batch → List Message → List Item
remote_of b waiting = if is_some b.parent then history_in (message_with b.key waiting) else []

-- a batch that misses this key: the gap before it is that between these histories and the one that its message came with
abbrev pub gap_with : List (List Item) → List Message → BatchKey → Batch → GapOf
gap_with local waiting missing b = record {
  domain = b.domain;
  workflow = b.workflow;
  run = b.run;
  key = b.key;
  gap = gap_of local (remote_of b waiting) (first_item b);
  missing = missing;
}

-- a batch that is put off of a workflow: the gap before it is that after the learned branches of its run; it misses its nearest ancestor that has not arrived
abbrev pub gap_in : WorkflowValue → Batch → GapOf
gap_in w b = gap_with (histories b.run (learned w.arrived)) w.waiting (unwrap_or (missing_of b w.arrived) b.key) b

-- all that is put off of a workflow, in key order
abbrev pub gaps_in : WorkflowValue → List GapOf
gaps_in w = map (gap_in w) (off_in w)

-- all that is put off of the workflow of a place
abbrev pub gaps_at : Cell → Place → List GapOf
gaps_at cell place = gaps_in (workflow_of place.domain place.workflow cell)

-- all that is put off in a cell, in order of place
abbrev pub gaps_of : Cell → List GapOf
gaps_of cell = map (λ b. gap_in (workflow_of b.domain b.workflow cell) b) (put_off_in cell)
