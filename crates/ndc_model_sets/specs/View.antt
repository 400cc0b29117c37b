-- The view of a set: what a cluster shows of a workflow.
use Rattle.std.specs.Prelude.{Bool, false, List, map, Option, None, Some}
use Rattle.ndc_event.specs.Key.{key_eq}
use Rattle.ndc_event.specs.declared.batch.Batch.{Batch}
use Rattle.ndc_event.specs.declared.key.BatchKey.{BatchKey}
use Rattle.ndc_event.specs.declared.key.RunId.{RunId}
use Rattle.ndc_model_sets.specs.declared.view.BranchView.{BranchView}
use Rattle.ndc_model_sets.specs.declared.view.RunView.{RunView}
use Rattle.ndc_model_sets.specs.declared.view.View.{View}
use Rattle.ndc_model_sets.specs.Branches.{current_tip, is_current_run, runs, tips}
use Rattle.ndc_model_sets.specs.Current.{current_state, run_status, state_to}
use Rattle.ndc_model_sets.specs.Paths.{events_to, versions_of}

-- whether the key is that of this tip, where there is one
abbrev pub is_tip_of : BatchKey → Option Batch → Bool
is_tip_of key None = false
is_tip_of key (Some tip) = key_eq key tip.key

-- a branch: its tip, its version history, whether it is the run's current one, and its state
abbrev pub branch_view : RunId → List Batch → Batch → BranchView
branch_view run batches tip = record {
  tip = tip.key;
  history = versions_of (events_to tip.key batches);
  is_current = is_tip_of tip.key (current_tip run batches);
  state = state_to run tip.key batches;
}

-- a run: its status, how its current branch closed, whether it is the current run, and its branches, tips ascending
abbrev pub run_view : List Batch → RunId → RunView
run_view batches run = record {
  run = run;
  status = run_status run batches;
  close = (current_state run batches).close;
  is_current = is_current_run run batches;
  branches = map (branch_view run batches) (tips run batches);
}

-- the view of a set: its batches, and its runs ascending
abbrev pub view_of : List Batch → View
view_of batches = record { batches = batches; runs = map (run_view batches) (runs batches) }
