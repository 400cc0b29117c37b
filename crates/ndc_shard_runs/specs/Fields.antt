-- The fields of what is learned of a workflow, as the list of its batches.
use Rattle.std.specs.Prelude.{◌≡◌, true, false, List}
use Rattle.std.specs.List.{AllByRecursion}
use Rattle.ndc_event.specs.declared.batch.Batch.{Batch}
use Rattle.ndc_model_cells.specs.Writing.{greatest_task}
use Rattle.ndc_model_sets.specs.Sound.{CopiesNamed, IsSound}
use Rattle.ndc_model_sets.specs.Last.{is_nil}
use Rattle.ndc_shard_runs.specs.declared.runs.Runs.TheInside.{Inside}
use Rattle.ndc_shard_runs.specs.Kept.{AreKnown}
use Rattle.ndc_shard_runs.specs.RunMap.{AreParts, all_of}

abbrev pub batches_in : Inside → List Batch
batches_in r = all_of r.runs

-- the batches are sound, each run has its part of them and is not empty, and the greatest task is known; what is known
-- of the strays is so, and where it is known that each copied signal names its original, it does
pub record IsRunsInside (r : Inside) : Type 0 where
  pub sound : IsSound (all_of r.runs)
  pub parts : AreParts r.runs
  pub full : AllByRecursion (λ run. is_nil run.batches ≡ false) r.runs
  pub known : AreKnown (all_of r.runs) r.strays
  pub task : r.greatest_task ≡ greatest_task (all_of r.runs)
  pub named : r.named ≡ true → CopiesNamed (all_of r.runs)
