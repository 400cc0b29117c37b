-- Which batches are learned next.
use Rattle.std.specs.Prelude.{◌≡◌, Bool, true, false, not, ◌||◌, is_some, IfSome, List, [], Option, Some, None, Result, Err, IsOk, if◌then◌else◌}
use Rattle.ndc_event.specs.Batch.{fault_of}
use Rattle.ndc_event.specs.Outcome.{◌>>=◌}
use Rattle.ndc_event.specs.declared.batch.Batch.{Batch}
use Rattle.ndc_event.specs.declared.batch.Event.{Event}
use Rattle.ndc_event.specs.declared.key.BatchKey.{BatchKey}
use Rattle.ndc_event.specs.declared.key.RunId.{RunId}
use Rattle.ndc_event.specs.declared.kind.EventKind.{EventKind}
use Rattle.ndc_event.specs.declared.kind.EventKind.TheVariants.{WorkflowExecutionContinuedAsNew}
use Rattle.ndc_model_cells.specs.Writing.{key_behind}
use Rattle.ndc_model_sets.specs.Branches.{same_run}
use Rattle.ndc_model_sets.specs.Learned.{has_key}
use Rattle.ndc_model_sets.specs.Paths.{last_event}
use Rattle.ndc_model_sets.specs.Sets.{earlier, batch_at}
use Rattle.ndc_model_sets.specs.Sound.{ContinuesAs}
use Rattle.ndc_model_sets.specs.Writing.{CopiesFitWith}
use Rattle.ndc_run.specs.Learning.{learned, of_tree_error, or_error}
use Rattle.ndc_run.specs.declared.answer.Learned.{Learned}
use Rattle.ndc_run.specs.declared.answer.RunError.{RunError}
use Rattle.ndc_run.specs.declared.answer.RunError.TheVariants as run_error
use Rattle.ndc_tree.specs.Inserting.{inserted}
use Rattle.ndc_shard_runs.specs.Copies.{copies_fit_both_ways, second_copies_fit}
use Rattle.ndc_shard_runs.specs.declared.misfit.Misfit.{Misfit}
use Rattle.ndc_shard_runs.specs.declared.misfit.Misfit.TheVariants as misfit
use Rattle.ndc_shard_runs.specs.RunMap.{part_of}

-- a batch comes next: its key is new, it has no fault, and its earlier key, where it has one, is learned
pub record ComesNext (batches : List Batch) (b : Batch) : Type 0 where
  pub fresh : batch_at b.key batches ≡ None
  pub faultless : fault_of b ≡ None
  pub reached : has_key (earlier b) batches ≡ true

-- the carrier of a batch, where it has one, ends by continuing as the batch's run
abbrev pub IsCarrierFit : List Batch → Batch → Type 0
IsCarrierFit batches b = (carrier : Batch) (key : BatchKey) → b.carrier ≡ Some key → batch_at key batches ≡ Some carrier → ContinuesAs b.run carrier.events

-- a batch fits what is learned: its run takes it, copies of signals fit in both directions, and so does its carrier
pub record Fits (batches : List Batch) (b : Batch) : Type 0 where
  pub taken : IsOk (learned b.run (part_of b.run batches) b)
  pub copies : CopiesFitWith batches b
  pub carrier : IsCarrierFit batches b

-- what becomes of a second batch that begins a run, and then of the first
abbrev pub both_joined : List Batch → Batch → Batch → Result Learned RunError
both_joined part b second = learned second.run [] second >>= (λ begun. learned b.run part b)

-- what becomes of a batch that is handed to its run with a second one that begins a run: what the tree says of it comes first,
-- then the second's events, then its own
abbrev pub both_learned : List Batch → Batch → Batch → Result Learned RunError
both_learned part b second = or_error of_tree_error (inserted b.run part b) >>= (λ place. both_joined part b second)

-- whether an event of this kind continues its run as this one
abbrev pub continues : RunId → EventKind → Bool
continues run (WorkflowExecutionContinuedAsNew next workflow_type) = same_run next run
continues run _ = false

-- whether there is a last event and it continues its run as this one
abbrev pub is_continued_by : RunId → Option Event → Bool
is_continued_by run None = false
is_continued_by run (Some event) = continues run event.kind

-- whether a batch ends by continuing as the run of a second one, where that names a carrier
abbrev pub is_carrying_fit : Batch → Batch → Bool
is_carrying_fit b second = not (is_some second.carrier) || is_continued_by second.run (last_event b.events)

-- why a run does not take a batch, as why the batch does not fit
abbrev pub of_run_error : RunError → Misfit
of_run_error (run_error.MissingParent key) = misfit.ParentUnfit
of_run_error (run_error.NotWellFormed key) = misfit.IllFormed
of_run_error (run_error.Invalid id rule) = misfit.BadReplay id rule
of_run_error run_error.Memory = misfit.Memory

-- whether a batch that comes next fits, or why not: the copied signals first, then what its run says
abbrev pub fit_alone : List Batch → Batch → Result Learned Misfit
fit_alone batches b = if not (copies_fit_both_ways batches b) then Err misfit.OriginUnfit else or_error of_run_error (learned b.run (part_of b.run batches) b)

-- the same of a batch with a second one, which goes right after it: that is of another run, the copied signals of the batch, whether it continues
-- as the run of the second, where it carries that, the copied signals of the second, and then what their runs say
abbrev pub fit_both : List Batch → Batch → Batch → Result Learned Misfit
fit_both batches b second =
    if same_run second.run b.run then Err misfit.ParentUnfit
    else if not (copies_fit_both_ways batches b) then Err misfit.OriginUnfit
    else if not (is_carrying_fit b second) then Err misfit.CarrierUnfit
    else if not (second_copies_fit batches b second) then Err misfit.OriginUnfit
    else or_error of_run_error (both_learned (part_of b.run batches) b second)

-- the same of a batch, and of the one that goes right after it, where there is one
abbrev pub fit_of : List Batch → Batch → Option Batch → Result Learned Misfit
fit_of batches b None = fit_alone batches b
fit_of batches b (Some second) = fit_both batches b second

-- a batch that goes right after another: it begins a run, has the next key, and names no carrier but the other
pub record GoesBehind (b second : Batch) : Type 0 where
  pub key : second.key ≡ key_behind b.key
  pub parent : second.parent ≡ None
  pub carrier : IfSome second.carrier (λ key. key ≡ b.key)

-- right after a batch goes one that is new: it has no fault, and its key is not there
pub record GoesWithNew (batches : List Batch) (b second : Batch) : Type 0 where
  pub goes : GoesBehind b second
  pub faultless : fault_of second ≡ None
  pub fresh : batch_at second.key batches ≡ None
