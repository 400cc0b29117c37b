-- One workflow in one cell: what has arrived of it, and the messages of what is put off.
use Rattle.std.specs.Prelude.{ℕ, ◌≡◌, Bool, not, length, map, List, [], Option, Some, None, if◌then◌else◌}
use Rattle.std.specs.List.{filter}
use Rattle.ndc_model_cells.specs.declared.job.Arrived.{Arrived}
use Rattle.ndc_model_cells.specs.declared.job.Arrived.TheVariants.{Known}
use Rattle.ndc_model_cells.specs.declared.message.Message.{Message}
use Rattle.ndc_model_cells.specs.Arrival.{arrival_in, newly_learned}
use Rattle.ndc_model_cells.specs.Cells.{missing_of}
use Rattle.ndc_event.specs.declared.batch.Batch.{Batch}
use Rattle.ndc_event.specs.declared.key.BatchKey.{BatchKey}
use Rattle.ndc_model_sets.specs.Learned.{has_key, learned}
use Rattle.ndc_state.specs.Counted.{counted}
use Rattle.ndc_shard_waiting.specs.Learning.{with_message, with_messages, ArePutOff}
use Rattle.ndc_shard_waiting.specs.Waiting.{put_off}
use Rattle.ndc_model_cells.specs.Workflow.{WorkflowValue}
pub use Rattle.ndc_model_cells.specs.Workflow.{off_in}

-- the workflow of which nothing has arrived
abbrev pub empty_workflow : WorkflowValue
empty_workflow = record { arrived = []; waiting = [] }

-- messages wait beside what is learned
abbrev pub beside : List Batch → List Message → WorkflowValue
beside known waiting = record { arrived = with_messages waiting known; waiting = waiting }

-- what has arrived is what is learned, and the messages that are put off beside it
pub record IsWorkflow (w : WorkflowValue) : Type 0 where
  pub apart : ArePutOff (learned w.arrived) w.waiting
  pub parts : w ≡ beside (learned w.arrived) w.waiting

-- whether a batch of this key has arrived
abbrev pub has_arrived : BatchKey → WorkflowValue → Bool
has_arrived key w = has_key (Some key) w.arrived

-- whether a batch is learned
abbrev pub is_learned : WorkflowValue → Batch → Bool
is_learned w b = has_key (Some b.key) (learned w.arrived)

-- of each batch that is put off its key, and the nearest ancestor that has not arrived
abbrev pub all_missing : WorkflowValue → List (BatchKey × Option BatchKey)
all_missing w = map (λ b. (b.key, missing_of b w.arrived)) (off_in w)

-- the messages whose batches are put off wait, the others do not
abbrev pub still_waiting : WorkflowValue → WorkflowValue
still_waiting w = record w { waiting = filter (λ sent. not (is_learned w sent.batch)) w.waiting }

-- the workflow with a message that was not known
abbrev pub workflow_with : Message → WorkflowValue → WorkflowValue
workflow_with sent w = still_waiting (record { arrived = with_message sent w.arrived; waiting = put_off sent w.waiting })

-- the batches that such a message makes learned, in key order
abbrev pub learned_with : Message → WorkflowValue → List Batch
learned_with sent w = newly_learned (learned w.arrived) (learned (workflow_with sent w).arrived)

-- what comes of the arrival of a message
unfoldable pub answer_to : Message → WorkflowValue → Arrived
answer_to sent w = if has_arrived sent.batch.key w then Known else arrival_in sent (learned_with sent w) (workflow_with sent w).arrived

-- the batches that the arrival of a message makes learned, in key order
unfoldable pub made_learned : Message → WorkflowValue → List Batch
made_learned sent w = if has_arrived sent.batch.key w then [] else learned_with sent w

-- the workflow after the arrival of a message: a known one changes nothing
unfoldable pub after_arrival : Message → WorkflowValue → WorkflowValue
after_arrival sent w = if has_arrived sent.batch.key w then w else workflow_with sent w

-- the workflow with a message that is written in its cell
abbrev pub with_written : Message → WorkflowValue → WorkflowValue
with_written sent w = record w { arrived = with_message sent w.arrived }

-- the count of steps with those for the events of a batch, where there is one
abbrev pub counted_for : Option Batch → ℕ → ℕ
counted_for None steps = steps
counted_for (Some b) steps = counted steps (length b.events)
