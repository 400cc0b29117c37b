-- What may be wrong with a batch beside the others of a set.
use Rattle.std.specs.Prelude.{◌+◌, ◌==◌, nat_lt, Bool, false, not, ◌&&◌, ◌||◌, is_ok, List, [], ◌∷◌, find, Option, Some, None, Result, Ok, Err}
use Rattle.std.specs.List.{list_any}
use Rattle.std.specs.Str.{bytes_eq}
use Rattle.ndc_event.specs.Outcome.{◌>>=◌}
use Rattle.ndc_event.specs.declared.batch.Batch.{Batch}
use Rattle.ndc_event.specs.declared.batch.Event.{Event}
use Rattle.ndc_event.specs.declared.key.BatchKey.{BatchKey}
use Rattle.ndc_event.specs.declared.key.Origin.{Origin}
use Rattle.ndc_event.specs.declared.key.RunId.{RunId}
use Rattle.ndc_event.specs.declared.kind.EventKind.{EventKind}
use Rattle.ndc_event.specs.declared.kind.EventKind.TheVariants.{WorkflowExecutionSignaled, WorkflowExecutionContinuedAsNew}
use Rattle.ndc_event.specs.declared.name.Name.{Name}
use Rattle.ndc_state.specs.Origins.{is_among, with_origin}
use Rattle.ndc_state.specs.Replay.{replay_of, history_of}
use Rattle.ndc_model_sets.specs.Branches.{same_run}
use Rattle.ndc_model_sets.specs.Learned.{has_key}
use Rattle.ndc_model_sets.specs.Origins.{origins_in}
use Rattle.ndc_model_sets.specs.Paths.{events_to, first_id, last_event, last_id, path_from, path_to}
use Rattle.ndc_model_sets.specs.Sets.{batch_at}
use Rattle.ndc_model_sets.specs.Reading.{named}
use Rattle.ndc_dump_causes.specs.declared.error.DumpError.{DumpError}
use Rattle.ndc_dump_causes.specs.declared.error.DumpError.TheVariants.{Key}
use Rattle.ndc_dump_causes.specs.declared.error.KeyCause.{KeyCause}
use Rattle.ndc_dump_causes.specs.declared.error.KeyCause.TheVariants as cause

-- ---- the parent

-- whether the parent of a batch is not in the set
abbrev pub lacks_parent : List Batch → Batch → Bool
lacks_parent batches b = not (has_key b.parent batches)

-- whether a parent is of another run, or does not end just before the batch begins
abbrev pub is_unfit_parent : Batch → Option Batch → Bool
is_unfit_parent b None = false
is_unfit_parent b (Some parent) = not (same_run parent.run b.run && (last_id parent.events + 1 == first_id b.events))

-- whether a batch does not go on from its parent
abbrev pub is_ill_formed : List Batch → Batch → Bool
is_ill_formed batches b = is_unfit_parent b (named b.parent batches)

-- ---- the path

-- whether a batch is of the run and version of another one, and has a smaller task
abbrev pub comes_before : Batch → Batch → Bool
comes_before other b = same_run other.run b.run && ((other.key.version == b.key.version) && nat_lt other.key.task b.key.task)

-- whether an earlier batch of its run and version is not an ancestor of a batch
abbrev pub is_split : List Batch → Batch → Bool
is_split batches b = list_any (λ other. comes_before other b && not (has_key (Some other.key) (path_to b.key batches))) batches

-- whether one of these origins is one of those seen, or stands twice
abbrev pub comes_again : List Origin → List Origin → Bool
comes_again seen [] = false
comes_again seen (origin ∷ origins) = is_among origin seen || comes_again (with_origin origin seen) origins

-- whether an origin stands twice
abbrev pub has_twice : List Origin → Bool
has_twice origins = comes_again [] origins

-- whether two signals on the path to a batch have one origin
abbrev pub has_origin_twice : List Batch → Batch → Bool
has_origin_twice batches b = has_twice (origins_in b.run (events_to b.key batches))

-- whether the path to a batch does not replay, and the path to its parent does
abbrev pub is_forbidden : List Batch → Batch → Bool
is_forbidden batches b = not (is_ok (replay_of b.run (events_to b.key batches))) && is_ok (replay_of b.run (history_of (path_from b.parent batches)))

-- ---- copied signals

-- whether an origin names this event of a run
abbrev pub names : Origin → RunId → Event → Bool
names origin run event = same_run origin.run run && ((origin.event == event.id) && (origin.version == event.version))

-- whether an event of this kind is an original signal of this name and input
abbrev pub is_original : Name → Name → EventKind → Bool
is_original name input (WorkflowExecutionSignaled other more None) = bytes_eq other name && bytes_eq more input
is_original name input _ = false

-- whether an origin names an event of the set that is not an original signal of this name and input
abbrev pub misnames : List Batch → Origin → Name → Name → Bool
misnames batches origin name input = list_any (λ b. list_any (λ event. names origin b.run event && not (is_original name input event.kind)) b.events) batches

-- whether an event of this kind is a copied signal that names an event of the set which is not its original
abbrev pub is_unfit_copy : List Batch → EventKind → Bool
is_unfit_copy batches (WorkflowExecutionSignaled name input (Some origin)) = misnames batches origin name input
is_unfit_copy batches _ = false

-- whether a batch holds such a copy
abbrev pub has_unfit_copy : List Batch → Batch → Bool
has_unfit_copy batches b = list_any (λ event. is_unfit_copy batches event.kind) b.events

-- ---- the carrier

-- whether an event of this kind continues its run as this one
abbrev pub continues : RunId → EventKind → Bool
continues run (WorkflowExecutionContinuedAsNew next type) = same_run next run
continues run _ = false

-- whether there is a last event and it continues its run as this one
abbrev pub is_continued_by : RunId → Option Event → Bool
is_continued_by run None = false
is_continued_by run (Some event) = continues run event.kind

-- whether there is a batch and it ends by continuing its run as this one
abbrev pub closes_for : RunId → Option Batch → Bool
closes_for run None = false
closes_for run (Some b) = is_continued_by run (last_event b.events)

-- whether a batch has a carrier that is not in the set, or does not end by continuing as the batch's run
abbrev pub has_unfit_carrier : List Batch → Batch → Option BatchKey → Bool
has_unfit_carrier batches b None = false
has_unfit_carrier batches b (Some key) = not (closes_for b.run (batch_at key batches))

abbrev pub is_unfit_carried : List Batch → Batch → Bool
is_unfit_carried batches b = has_unfit_carrier batches b b.carrier

-- ---- the first cause

-- nothing where no batch was found, or else its key with the cause
abbrev pub refused_at : KeyCause → Option Batch → Result (Unit {0}) DumpError
refused_at cause None = Ok tt
refused_at cause (Some b) = Err (Key b.key cause)

-- a cause holds of no batch, or of the one with the least key
abbrev pub holds_of_none : KeyCause → (Batch → Bool) → List Batch → Result (Unit {0}) DumpError
holds_of_none cause test batches = refused_at cause (find test batches)

-- the first cause that holds of some batch of a set, in this order, with the least key that it holds of
unfoldable pub sound_or : List Batch → Result (Unit {0}) DumpError
sound_or batches = do
  parents ← holds_of_none cause.MissingParent (lacks_parent batches) batches
  formed ← holds_of_none cause.NotWellFormed (is_ill_formed batches) batches
  chains ← holds_of_none cause.SplitVersion (is_split batches) batches
  origins ← holds_of_none cause.OriginTwice (has_origin_twice batches) batches
  copies ← holds_of_none cause.OriginUnfit (has_unfit_copy batches) batches
  replays ← holds_of_none cause.BadReplay (is_forbidden batches) batches
  holds_of_none cause.CarrierUnfit (is_unfit_carried batches) batches
