-- Why a batch that a cell would write is not written.
use Rattle.std.specs.Prelude.{◌≡◌, Some, Bool, true, false, not, List, Result, Err, if◌then◌else◌, ⊤}
use Rattle.std.specs.List.{AllByRecursion}
use Rattle.ndc_event.specs.declared.batch.Batch.{Batch}
use Rattle.ndc_event.specs.declared.key.BatchKey.{BatchKey}
use Rattle.ndc_model_cells.specs.Cells.{both}
use Rattle.ndc_model_cells.specs.Messages.{waits_for, IsNewTo}
use Rattle.ndc_model_cells.specs.Workflow.{WorkflowValue}
use Rattle.ndc_model_cells.specs.declared.message.Message.{Message}
use Rattle.ndc_model_sets.specs.Learned.{has_key, learned}
use Rattle.ndc_model_sets.specs.Sets.{earlier}
use Rattle.ndc_run.specs.declared.answer.Learned.{Learned}
use Rattle.ndc_shard_runs.specs.declared.misfit.Misfit.{Misfit}
use Rattle.ndc_shard_runs.specs.declared.misfit.Misfit.TheVariants.{ParentUnfit}
use Rattle.ndc_shard_waiting.specs.Linking.{is_woken}
use Rattle.ndc_shard_workflows.specs.Admitting.{fit_in}
use Rattle.ndc_shard_workflows.specs.declared.admission.NotWritten.{NotWritten}
use Rattle.ndc_shard_workflows.specs.declared.admission.NotWritten.TheVariants as refused

-- a key is taken: it is that of a batch that would be written, and a batch that has arrived has it; and whether that one is put off
pub record IsTakenKey (key : BatchKey) (waits : Bool) (new : Message) (w : WorkflowValue) : Type 0 where
  pub own : has_key (Some key) (both new) ≡ true
  pub there : has_key (Some key) w.arrived ≡ true
  pub waits_is : waits ≡ not (has_key (Some key) (learned w.arrived))

-- nothing waits for what would be written
abbrev pub IsUnawaited : Message → WorkflowValue → Type 0
IsUnawaited new w = AllByRecursion (λ sent. waits_for (both new) sent ≡ false) w.waiting

-- whether what would be written fits what is learned, where its earlier key is, or why not
abbrev pub fit_next : List Batch → Message → Result Learned Misfit
fit_next known new = if has_key (earlier new.batch) known then fit_in known new else Err ParentUnfit

-- why batches that would be written together are not, the first that holds
abbrev pub IsNotWritten : NotWritten → Message → WorkflowValue → Type 0
IsNotWritten (refused.Rival key waits) new w = IsTakenKey key waits new w
IsNotWritten (refused.Awaited key) new w = IsNewTo w.arrived new × (is_woken (both new) key w.waiting ≡ true)
IsNotWritten (refused.Misfit why) new w = IsNewTo w.arrived new × IsUnawaited new w × (fit_next (learned w.arrived) new ≡ Err why)
IsNotWritten refused.Memory new w = ⊤
