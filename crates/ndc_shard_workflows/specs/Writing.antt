-- What may be written to a workflow of a cell.
use Rattle.std.specs.Prelude.{◌≡◌, true, false, IfSome}
use Rattle.std.specs.List.{AllByRecursion}
use Rattle.ndc_model_cells.specs.declared.message.Message.{Message}
use Rattle.ndc_model_cells.specs.Cells.{both}
use Rattle.ndc_model_cells.specs.Places.{is_of}
pub use Rattle.ndc_shard_runs.specs.Fitting.{GoesBehind}
use Rattle.ndc_model_sets.specs.Learned.{has_key, learned}
use Rattle.ndc_model_sets.specs.Sets.{earlier, PointsBack}
use Rattle.ndc_model_sets.specs.Sound.{IsSound}
use Rattle.ndc_shard_waiting.specs.Learning.{with_message}
use Rattle.ndc_model_cells.specs.Messages.{waits_for, IsMessage, IsNewTo, HasSmallIds}
use Rattle.ndc_model_cells.specs.Workflow.{WorkflowValue}

-- batches that are written together: the first points back, and the other one, where there is one, goes right after it
pub record GoTogether (new : Message) : Type 0 where
  pub back : PointsBack new.batch
  pub second : IfSome new.second (GoesBehind new.batch)

-- batches that are written together are well made: they go together, the other one is of the workflow of the first, and event ids are small
pub record IsMadeTogether (new : Message) : Type 0 where
  pub together : GoTogether new
  pub own : IfSome new.second (λ second. is_of new.batch.domain new.batch.workflow second ≡ true)
  pub small : AllByRecursion HasSmallIds (both new)

-- a batch, and the one of its workflow that goes right after it, may be written together: the first points back to a learned one or has no
-- earlier key, neither of the two has arrived, no message waits for either, what is learned with them is sound, and event ids are small
pub record MayBeWrittenTogether (new : Message) (w : WorkflowValue) : Type 0 where
  pub together : GoTogether new
  pub own : IfSome new.second (λ second. is_of new.batch.domain new.batch.workflow second ≡ true)
  pub fresh : IsNewTo w.arrived new
  pub reached : has_key (earlier new.batch) (learned w.arrived) ≡ true
  pub awaited : AllByRecursion (λ sent. waits_for (both new) sent ≡ false) w.waiting
  pub sound : IsSound (with_message new (learned w.arrived))
  pub small : AllByRecursion HasSmallIds (both new)

-- a message may be written: its batch, and the one that it carries, where it carries one, may be
pub record MayBeWritten (new : Message) (w : WorkflowValue) : Type 0 where
  pub message : IsMessage new
  pub may : MayBeWrittenTogether new w
