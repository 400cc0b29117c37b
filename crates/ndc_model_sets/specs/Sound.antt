-- Sound sets: what holds of the batches that clusters write.
use Rattle.std.specs.Prelude.{◌≡◌, ◌<◌, ◌+◌, List, Some, None, IsOk}
use Rattle.std.specs.List.{AllByRecursion, IsAmong}
use Rattle.ndc_event.specs.declared.batch.Batch.{Batch}
use Rattle.ndc_event.specs.declared.batch.Event.{Event}
use Rattle.ndc_event.specs.declared.key.BatchKey.{BatchKey}
use Rattle.ndc_event.specs.declared.key.Origin.{Origin}
use Rattle.ndc_event.specs.declared.key.RunId.{RunId}
use Rattle.ndc_event.specs.declared.kind.EventKind.{EventKind}
use Rattle.ndc_event.specs.declared.kind.EventKind.TheVariants.{WorkflowExecutionSignaled, WorkflowExecutionContinuedAsNew}
use Rattle.ndc_event.specs.declared.name.Name.{Name}
use Rattle.ndc_event.specs.Batch.{fault_of}
use Rattle.ndc_state.specs.Laws.{AreApart}
use Rattle.ndc_state.specs.Replay.{replay_of}
use Rattle.ndc_model_sets.specs.Sets.{IsSet, batch_at, Has}
use Rattle.ndc_model_sets.specs.Learned.{IsClosed}
use Rattle.ndc_model_sets.specs.Paths.{first_id, last_id, last_event, path_to, events_to}
use Rattle.ndc_model_sets.specs.Origins.{origins_in}

-- no batch has a fault
abbrev pub AreFaultless : List Batch → Type 0
AreFaultless batches = (b : Batch) → Has batches b → fault_of b ≡ None

-- a parent is of the same run, and its last event comes just before the first of its child
pub record IsParentFit (before b : Batch) : Type 0 where
  pub run : before.run ≡ b.run
  pub ids : last_id before.events + 1 ≡ first_id b.events

-- each parent fits its child
abbrev pub ParentsFit : List Batch → Type 0
ParentsFit batches = (b before : Batch) (key : BatchKey) → Has batches b → b.parent ≡ Some key → batch_at key batches ≡ Some before → IsParentFit before b

-- of two batches of one run and one version, the one with the smaller task is an ancestor of the other
abbrev pub VersionsAreChains : List Batch → Type 0
VersionsAreChains batches = (one two : Batch) → Has batches one → Has batches two
    → one.run ≡ two.run → one.key.version ≡ two.key.version → one.key.task < two.key.task → Has (path_to two.key batches) one

-- on each path all origins of signals differ
abbrev pub OriginsDiffer : List Batch → Type 0
OriginsDiffer batches = (b : Batch) → Has batches b → AreApart (origins_in b.run (events_to b.key batches))

-- the origin names this event of a run
pub record Names (origin : Origin) (run : RunId) (event : Event) : Type 0 where
  pub run_is : origin.run ≡ run
  pub event_is : origin.event ≡ event.id
  pub version_is : origin.version ≡ event.version

-- where a copied signal names this event of a run, the event is an original signal of the same name and input
abbrev pub IsCopyFit : Event → RunId → Event → Type 0
IsCopyFit copy run event = (name input : Name) (origin : Origin) → copy.kind ≡ WorkflowExecutionSignaled name input (Some origin)
    → Names origin run event → event.kind ≡ WorkflowExecutionSignaled name input None

-- where a copied signal names an event of the set, this is an original signal of the same name and input
abbrev pub CopiesFit : List Batch → Type 0
CopiesFit batches = (b other : Batch) → Has batches b → Has batches other → AllByRecursion (λ copy. AllByRecursion (IsCopyFit copy other.run) other.events) b.events

-- one of the batches has the event that an origin names, and it is an original signal of this name and input
pub record HasOriginal (batches : List Batch) (origin : Origin) (name input : Name) : Type 0 where
  pub batch : Batch
  pub has : Has batches batch
  pub event : Event
  pub among : IsAmong batch.events event
  pub named : Names origin batch.run event
  pub kind : event.kind ≡ WorkflowExecutionSignaled name input None

-- a copied signal of this kind names an original one among the batches
abbrev pub NamesOriginal : List Batch → EventKind → Type 0
NamesOriginal batches kind = (name input : Name) (origin : Origin) → kind ≡ WorkflowExecutionSignaled name input (Some origin) → HasOriginal batches origin name input

-- each copied signal of the set names an original one
abbrev pub CopiesNamed : List Batch → Type 0
CopiesNamed batches = (b : Batch) → Has batches b → AllByRecursion (λ copy. NamesOriginal batches copy.kind) b.events

-- every path replays
abbrev pub PathsReplay : List Batch → Type 0
PathsReplay batches = (b : Batch) → Has batches b → IsOk (replay_of b.run (events_to b.key batches))

-- the events end with the one by which a run goes on as this run
pub record ContinuesAs (run : RunId) (events : List Event) : Type 0 where
  pub event : Event
  pub last : last_event events ≡ Some event
  pub workflow_type : Name
  pub kind : event.kind ≡ WorkflowExecutionContinuedAsNew run workflow_type

-- the carrier of a batch ends by continuing as the batch's run
abbrev pub CarriersFit : List Batch → Type 0
CarriersFit batches = (b carrier : Batch) (key : BatchKey) → Has batches b → b.carrier ≡ Some key → batch_at key batches ≡ Some carrier → ContinuesAs b.run carrier.events

-- a sound set
pub record IsSound (batches : List Batch) : Type 0 where
  pub set : IsSet batches
  pub closed : IsClosed batches
  pub faultless : AreFaultless batches
  pub parents : ParentsFit batches
  pub chains : VersionsAreChains batches
  pub origins : OriginsDiffer batches
  pub copies : CopiesFit batches
  pub replays : PathsReplay batches
  pub carriers : CarriersFit batches
