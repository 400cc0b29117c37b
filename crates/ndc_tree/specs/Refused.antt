-- What keeps a batch out of a tree where its parent is.
use Rattle.std.specs.Prelude.{◌≡◌, ◌≢◌, ◌+◌, true, List, [], Some, None}
use Rattle.ndc_event.specs.declared.batch.Batch.{Batch}
use Rattle.ndc_event.specs.declared.key.BatchKey.{BatchKey}
use Rattle.ndc_event.specs.declared.key.RunId.{RunId}
use Rattle.ndc_model_sets.specs.Sets.{batch_at, Has}
use Rattle.ndc_model_sets.specs.Learned.{has_key}
use Rattle.ndc_model_sets.specs.Paths.{first_id, last_id, path_from}

-- a batch is an ancestor of a new one: it is on the path to its parent
abbrev pub IsAncestorOf : List Batch → Batch → Batch → Type 0
IsAncestorOf batches new one = Has (path_from new.parent batches) one

-- a batch of a new one's version is there, and is not an ancestor of it
pub record SplitsVersion (batches : List Batch) (new : Batch) : Type 0 where
  pub one : Batch
  pub has : Has batches one
  pub version : one.key.version ≡ new.key.version
  pub apart : IsAncestorOf batches new one → ⊥

-- a batch does not fit a tree of a run: it is of another run, its key is there, it is without a parent and there is a batch, its
-- first event does not come just after its parent's last one, or a batch of its version is not an ancestor
pub data DoesNotFit (run : RunId) (batches : List Batch) (new : Batch) : Type 0 where
  other_run : new.run ≢ run → DoesNotFit run batches new
  same_key : has_key (Some new.key) batches ≡ true → DoesNotFit run batches new
  second_root : new.parent ≡ None → batches ≢ [] → DoesNotFit run batches new
  other_id : (key : BatchKey) (before : Batch) → new.parent ≡ Some key → batch_at key batches ≡ Some before → last_id before.events + 1 ≢ first_id new.events
      → DoesNotFit run batches new
  split_version : SplitsVersion batches new → DoesNotFit run batches new
