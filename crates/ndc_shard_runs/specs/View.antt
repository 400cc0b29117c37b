-- What is shown of a workflow, run by run.
use Rattle.std.specs.Prelude.{Bool, List, map, Option, Some, None, if◌then◌else◌}
use Rattle.ndc_event.specs.declared.batch.Batch.{Batch}
use Rattle.ndc_event.specs.declared.key.BatchKey.{BatchKey}
use Rattle.ndc_model_sets.specs.declared.view.BranchView.{BranchView}
use Rattle.ndc_model_sets.specs.declared.view.RunView.{RunView}
use Rattle.ndc_model_sets.specs.declared.view.View.{View}
use Rattle.ndc_model_sets.specs.Branches.{current_tip}
use Rattle.ndc_model_sets.specs.Current.{current_state, state_to, status_of}
use Rattle.ndc_model_sets.specs.Paths.{events_to, versions_of}
use Rattle.ndc_model_sets.specs.View.{is_tip_of, view_of}
use Rattle.ndc_model_sets.specs.Last.{is_nil}
use Rattle.ndc_tree.specs.Tips.{tip_keys}
use Rattle.ndc_tree.specs.Tree.{TreeValue}

-- the view of what is learned, where anything is
abbrev pub view_at : List Batch → Option View
view_at batches = if is_nil batches then None else Some (view_of batches)

-- the branch of a run with this tip
abbrev pub branch_with : TreeValue → BatchKey → BranchView
branch_with r key = record {
  tip = key;
  history = versions_of (events_to key r.batches);
  is_current = is_tip_of key (current_tip r.run r.batches);
  state = state_to r.run key r.batches;
}

-- a run, which is the current one or not
abbrev pub run_with : TreeValue → Bool → RunView
run_with r is_current = record {
  run = r.run;
  status = status_of (current_state r.run r.batches).running is_current;
  close = (current_state r.run r.batches).close;
  is_current = is_current;
  branches = map (branch_with r) (tip_keys r.run r.batches);
}
