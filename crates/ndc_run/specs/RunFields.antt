-- The fields of a run, as the run and its batches.
use Rattle.std.specs.Prelude.{◌≡◌, true, Box, Option, Some, None, is_some}
use Rattle.ndc_event.specs.declared.batch.Batch.{Batch}
use Rattle.ndc_event.specs.declared.key.RunId.{RunId}
use Rattle.std.specs.Prelude.{List}
use Rattle.ndc_model_sets.specs.Current.{current_state, state_to}
use Rattle.ndc_model_sets.specs.Sets.{batch_at}
use Rattle.ndc_rebuild.specs.Kept.{Kept}
use Rattle.ndc_state.specs.Value.{StateValue}
use Rattle.ndc_tree.specs.Tree.{TreeValue}
use Rattle.ndc_run.specs.declared.run.Branch.{Branch}
use Rattle.ndc_run.specs.declared.run.Run.TheInside.{Inside}
use Rattle.ndc_run.specs.Run.{IsRun, IsKept}

abbrev pub run_of : Inside → TreeValue
run_of r = r.tree

-- a state beside the current one, where there is one, is that of a path
abbrev pub IsBeside : RunId → List Batch → Option Branch → Type 0
IsBeside run batches None = Unit {0}
IsBeside run batches (Some branch) = (is_some (batch_at branch.tip batches) ≡ true) × (branch.state ≡ state_to run branch.tip batches)

-- what is held beside, out of its box
abbrev pub unboxed : {Z : Type 0} → Option (Box Branch Z) → Option Branch
unboxed None = None
unboxed (Some held) = Some held.value

-- the batches are a run, the state is that of the current branch, the one held beside it that of its path, and the copies that are kept fit
pub record AreRunFields (tree : TreeValue) (state : StateValue) (held : Option Branch) (copies : Kept) : Type 0 where
  pub run : IsRun tree.run tree.batches
  pub current : state ≡ current_state tree.run tree.batches
  pub beside : IsBeside tree.run tree.batches held
  pub kept : IsKept tree.run tree.batches copies

abbrev pub IsRunInside : Inside → Type 0
IsRunInside r = AreRunFields r.tree r.state (unboxed r.beside) r.kept
