-- Where the run of an id stands among runs, or where it would go.
use Rattle.std.specs.Prelude.{◌≡◌, ℕ, ◌<◌, ◌≤◌, List, length, slice_get, set, insert, remove, None, Some}
use Rattle.ndc_event.specs.declared.key.RunId.{RunId}
use Rattle.ndc_event.specs.declared.batch.Batch.{Batch}
use Rattle.ndc_tree.specs.Tree.{TreeValue}
use Rattle.ndc_shard_runs.specs.RunMap.{AreInOrder, run_at, with_batch, without_run, grown, begun}

-- the run of the id is at the place: a batch of it goes in there, and it is taken out there
pub record IsAt (runs : List TreeValue) (run : RunId) (place : ℕ) : Type 0 where
  pub in_range : place < length runs
  pub found : run_at run runs ≡ slice_get runs place
  pub learned : (b : Batch) (old new : TreeValue) → b.run ≡ run → slice_get runs place ≡ Some old → new ≡ grown b old → with_batch b runs ≡ set runs place new
  pub kept : (b : Batch) (old new : TreeValue) → slice_get runs place ≡ Some old → new ≡ grown b old → AreInOrder (set runs place new)
  pub taken : without_run run runs ≡ remove runs place
  pub left : AreInOrder (remove runs place)

-- there is no run of the id: a batch that begins it puts it to the place
pub record IsGap (runs : List TreeValue) (run : RunId) (place : ℕ) : Type 0 where
  pub in_range : place ≤ length runs
  pub absent : run_at run runs ≡ None
  pub learned : (b : Batch) → b.run ≡ run → with_batch b runs ≡ insert runs place (begun b)
  pub kept : (b : Batch) → b.run ≡ run → AreInOrder (insert runs place (begun b))
  pub taken : without_run run runs ≡ runs
