-- A message that is put off is dropped.
use Rattle.std.specs.Prelude.{◌≡◌, Bool, false, not, ◌&&◌, List, Option, Some, None, IfSome, if◌then◌else◌, ◌++◌, option_to_list}
use Rattle.std.specs.List.{filter}
use Rattle.ndc_event.specs.Key.{key_eq}
use Rattle.ndc_event.specs.declared.batch.Batch.{Batch}
use Rattle.ndc_event.specs.declared.key.BatchKey.{BatchKey}
use Rattle.ndc_event.specs.declared.name.Name.{Name}
use Rattle.ndc_model_cells.specs.Cells.{Cell, both}
use Rattle.ndc_model_cells.specs.Messages.{batches_of, message_with}
use Rattle.ndc_model_cells.specs.Workflow.{WorkflowValue, workflow_of}
use Rattle.ndc_model_cells.specs.declared.message.Message.{Message}
use Rattle.ndc_model_sets.specs.Learned.{has_key, learned}
use Rattle.ndc_shard_waiting.specs.Waiting.{put_off}
use Rattle.ndc_shard_workflows.specs.Due.{is_named}
use Rattle.ndc_shard_workflows.specs.Workflow.{beside}

-- whether a batch of this key is put off, that of a message or the one that it carries
abbrev pub is_put_off : BatchKey → WorkflowValue → Bool
is_put_off key w = has_key (Some key) (batches_of w.waiting)

-- the messages but for the one that has a batch of this key
abbrev pub but_for : BatchKey → List Message → List Message
but_for key messages = filter (λ sent. not (has_key (Some key) (both sent))) messages

-- the workflow without that message, where it is put off
abbrev pub without : BatchKey → WorkflowValue → WorkflowValue
without key w = beside (learned w.arrived) (but_for key w.waiting)

-- the message of a workflow of a cell is dropped that has a batch of this key, where it is put off; each other workflow is as it was
pub record IsForgotten (domain workflow : Name) (key : BatchKey) (before after : Cell) : Type 0 where
  pub own : workflow_of domain workflow after ≡ without key (workflow_of domain workflow before)
  pub others : (d w : Name) → is_named d w (domain, workflow) ≡ false → workflow_of d w after ≡ workflow_of d w before

-- messages are kept in turn, but for the one that has a batch of this key: that of this batch is, where it is its first
abbrev pub kept_with : BatchKey → Option Message → Batch → List Message → List Message
kept_with key None b kept = kept
kept_with key (Some sent) b kept = if key_eq sent.batch.key b.key && not (has_key (Some key) (both sent)) then put_off sent kept else kept

-- of these messages a prefix is gone over, and these batches are left: that which its last message carries, where it is left, and those of the others;
-- what is kept are the messages of the prefix, but for the one that has a batch of this key
pub record AreKept (key : BatchKey) (all : List Message) (left : List Batch) (kept : List Message) : Type 0 where
  pub front : List Message
  pub carried : Option Batch
  pub back : List Message
  pub all_are : all ≡ front ++ back
  pub left_are : left ≡ option_to_list carried ++ batches_of back
  pub passed : IfSome carried (λ b. IfSome (message_with b.key all) (λ sent. key_eq sent.batch.key b.key ≡ false))
  pub kept_are : kept ≡ but_for key front
