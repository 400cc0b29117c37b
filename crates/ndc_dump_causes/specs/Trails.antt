-- Paths that are gone over for origins that come again.
use Rattle.std.specs.Prelude.{◌≡◌, ℕ, ◌≤◌, Bool, true, false, List, [], ◌∷◌, length, take, Option, Some, None}
use Rattle.ndc_event.specs.declared.batch.Batch.{Batch}
use Rattle.ndc_event.specs.declared.batch.Event.{Event}
use Rattle.ndc_event.specs.declared.key.BatchKey.{BatchKey}
use Rattle.ndc_event.specs.declared.key.Origin.{Origin}
use Rattle.ndc_event.specs.declared.key.RunId.{RunId}
use Rattle.ndc_event.specs.declared.kind.EventKind.{EventKind}
use Rattle.ndc_event.specs.declared.kind.EventKind.TheVariants.{WorkflowExecutionSignaled}
use Rattle.ndc_model_sets.specs.Origins.{origins_in}
use Rattle.ndc_model_sets.specs.Paths.{events_to}
use Rattle.ndc_model_sets.specs.Sets.{Has, batch_at}
use Rattle.ndc_state.specs.Origins.{is_among, origin_of}
use Rattle.ndc_state.specs.Replay.{collected_by}
use Rattle.ndc_dump_causes.specs.Causes.{has_twice}
use Rattle.ndc_dump_causes.specs.Keys.{is_listed}
use Rattle.ndc_dump_causes.specs.declared.trail.Opened.{Opened}

-- the batches that are open, and the origins that are listed
pub record TrailValue : Type 0 where
  pub opened : List Opened
  pub listed : List Origin

-- the origins of the signals on the path to a batch
abbrev pub path_origins : List Batch → Batch → List Origin
path_origins batches b = origins_in b.run (events_to b.key batches)

-- no origin stands twice on the path to a batch, and those of the path are listed
pub record IsListed (batches : List Batch) (listed : List Origin) (key : BatchKey) : Type 0 where
  pub batch : Batch
  pub at : batch_at key batches ≡ Some batch
  pub once : has_twice (path_origins batches batch) ≡ false
  pub among : (origin : Origin) → is_among origin (path_origins batches batch) ≡ true → is_among origin listed ≡ true

-- the path to each open batch is listed among as many origins as its count, and counts do not fall from this one on
abbrev pub AreOpen : List Batch → List Origin → ℕ → List Opened → Type 0
AreOpen batches listed low [] = Unit {0}
AreOpen batches listed low (o ∷ os) =
    (low ≤ o.count) × (o.count ≤ length listed) × IsListed batches (take o.count listed) o.key × AreOpen batches listed o.count os

abbrev pub IsTrail : List Batch → TrailValue → Type 0
IsTrail batches t = AreOpen batches t.listed 0 t.opened

-- the path to what is named is listed, where something is
abbrev pub IsAt : List Batch → List Origin → Option BatchKey → Type 0
IsAt batches listed None = Unit {0}
IsAt batches listed (Some key) = IsListed batches listed key

-- whether an event of a run is a signal whose origin is listed
abbrev pub kind_again : RunId → ℕ → ℕ → EventKind → List Origin → Bool
kind_again run id version (WorkflowExecutionSignaled _ _ from) listed = is_among (origin_of run id version from) listed
kind_again run id version _ listed = false

abbrev pub signal_again : RunId → Event → List Origin → Bool
signal_again run event listed = kind_again run event.id event.version event.kind listed

-- what is listed with the origin of an event, where it is a signal
abbrev pub signal_listed : RunId → Event → List Origin → List Origin
signal_listed run event listed = collected_by run event.id event.version event.kind listed

-- what is listed is known to hold of the batches of these keys
abbrev pub AreKnown : (Batch → Type 0) → List Batch → List BatchKey → Type 0
AreKnown P batches keys = (b : Batch) → Has batches b → is_listed b.key keys ≡ true → P b
