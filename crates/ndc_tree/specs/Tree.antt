-- The batches of one run as a tree.
use Rattle.std.specs.Prelude.{◌≡◌, ◌+◌, ◌≤◌, ◌<◌, List, [], Some, None, true}
use Rattle.ndc_event.specs.declared.batch.Batch.{Batch}
use Rattle.ndc_event.specs.declared.key.BatchKey.{BatchKey}
use Rattle.ndc_event.specs.declared.key.RunId.{RunId}
use Rattle.ndc_event.specs.Batch.{fault_of}
use Rattle.ndc_model_sets.specs.Sets.{IsSet, batch_at, Has}
use Rattle.ndc_model_sets.specs.Learned.{has_key}
use Rattle.ndc_model_sets.specs.Paths.{first_id, last_id}
use Rattle.ndc_model_sets.specs.Sound.{AreFaultless, ParentsFit}

-- a run, and its batches in key order
pub record TreeValue : Type 0 where
  pub run : RunId
  pub batches : List Batch

-- the parent of each batch is one of the batches
abbrev pub HaveParents : List Batch → Type 0
HaveParents batches = (b : Batch) → Has batches b → has_key b.parent batches ≡ true

-- all batches are of the run
abbrev pub AreOfRun : RunId → List Batch → Type 0
AreOfRun run batches = (b : Batch) → Has batches b → b.run ≡ run

-- the parent of a batch has its version, and no batch of that version stands between the two
pub record IsNextOfVersion (one two : Batch) : Type 0 where
  pub parent : BatchKey
  pub named : two.parent ≡ Some parent
  pub version : parent.version ≡ two.key.version
  pub next : one.key.task ≤ parent.task

-- where a batch of one version comes after another one, it hangs below one of that version, and none stands between the two
abbrev pub VersionsFollow : List Batch → Type 0
VersionsFollow batches = (one two : Batch) → Has batches one → Has batches two → one.key.version ≡ two.key.version → one.key.task < two.key.task → IsNextOfVersion one two

-- a tree of one run
pub record IsTree (run : RunId) (batches : List Batch) : Type 0 where
  pub set : IsSet batches
  pub faultless : AreFaultless batches
  pub closed : HaveParents batches
  pub runs : AreOfRun run batches
  pub parents : ParentsFit batches
  pub follow : VersionsFollow batches

-- a batch joins a tree of a run: its key is new, it has no fault and is of the run; its parent is there, and ends just
-- before it, and without one it is the first; and each batch of its version comes before it with none between its parent and it
pub record Joins (run : RunId) (batches : List Batch) (new : Batch) : Type 0 where
  pub fresh : batch_at new.key batches ≡ None
  pub faultless : fault_of new ≡ None
  pub run_is : new.run ≡ run
  pub reached : has_key new.parent batches ≡ true
  pub first : new.parent ≡ None → batches ≡ []
  pub ids : (before : Batch) (key : BatchKey) → new.parent ≡ Some key → batch_at key batches ≡ Some before → last_id before.events + 1 ≡ first_id new.events
  pub next : (one : Batch) → Has batches one → one.key.version ≡ new.key.version → IsNextOfVersion one new
