-- How what a cluster shows of a workflow is printed: its runs and branches, the dump and the tree.
use Rattle.std.specs.Prelude.{ℕ, Bool, true, false, List, [], ◌∷◌, ◌++◌, map, codes, decimal, Option, Some, None}
use Rattle.std.specs.List.{filter, flat_map}
use Rattle.ndc_event.specs.Key.{run_text}
use Rattle.ndc_event.specs.declared.batch.Batch.{Batch}
use Rattle.ndc_event.specs.declared.key.BatchKey.{BatchKey}
use Rattle.ndc_event.specs.declared.key.RunId.{RunId}
use Rattle.ndc_event.specs.declared.name.Name.{Name}
use Rattle.ndc_history.specs.declared.item.Item.{Item}
use Rattle.ndc_model_sets.specs.Branches.{current_tip, same_run}
use Rattle.ndc_model_sets.specs.Learned.{has_key}
use Rattle.ndc_model_sets.specs.Paths.{first_id, last_id, path_to}
use Rattle.ndc_model_sets.specs.declared.view.BranchView.{BranchView}
use Rattle.ndc_model_sets.specs.declared.view.RunStatus.{RunStatus}
use Rattle.ndc_model_sets.specs.declared.view.RunStatus.TheVariants as status
use Rattle.ndc_model_sets.specs.declared.view.RunView.{RunView}
use Rattle.ndc_model_sets.specs.declared.view.View.{View}
use Rattle.ndc_state.specs.Text.{state_text}
use Rattle.ndc_state.specs.declared.rule.CloseKind.{CloseKind}
use Rattle.ndc_state.specs.declared.rule.CloseKind.TheVariants as close
use Rattle.ndc_text.specs.Text.{batch_text}

-- words with commas between them
abbrev pub further : List (List ℕ) → List ℕ
further words = flat_map (λ word. codes "," ++ word) words

abbrev pub with_commas : List (List ℕ) → List ℕ
with_commas [] = []
with_commas (word ∷ words) = word ++ further words

-- `VERSION.TASK`
abbrev pub key_text : BatchKey → List ℕ
key_text key = decimal key.version ++ codes "." ++ decimal key.task

-- `ID@VERSION`
abbrev pub item_text : Item → List ℕ
item_text item = decimal item.id ++ codes "@" ++ decimal item.version

-- how a close is printed
abbrev pub close_text : CloseKind → List ℕ
close_text close.Completed = codes "completed"
close_text close.Failed = codes "failed"
close_text close.Canceled = codes "canceled"
close_text close.Terminated = codes "terminated"
close_text close.Continued = codes "continued"

abbrev pub closed_text : Option CloseKind → List ℕ
closed_text None = codes "closed"
closed_text (Some kind) = close_text kind

-- the status of a run: how it closed, or `open` or `zombie`
abbrev pub status_text : RunStatus → Option CloseKind → List ℕ
status_text status.Running kind = codes "open"
status_text status.Zombie kind = codes "zombie"
status_text status.Closed kind = closed_text kind

-- a mark where something is current
abbrev pub current_mark : Bool → List ℕ
current_mark true = codes " current"
current_mark false = []

-- `run RUN STATUS`, and ` current` where it is the current run
abbrev pub run_line : RunView → List ℕ
run_line run = codes "run " ++ run_text run.run ++ codes " " ++ status_text run.status run.close ++ current_mark run.is_current ++ codes "\n"

-- `branch KEY HISTORY`, and ` current` where it is the run's current branch
abbrev pub branch_line : BranchView → List ℕ
branch_line branch = codes "branch " ++ key_text branch.tip ++ codes " " ++ with_commas (map item_text branch.history) ++ current_mark branch.is_current ++ codes "\n"

-- a run with its branches
abbrev pub run_lines : RunView → List ℕ
run_lines run = run_line run ++ flat_map branch_line run.branches

-- a parent, or a dash
abbrev pub parent_text : Option BatchKey → List ℕ
parent_text None = codes "-"
parent_text (Some key) = key_text key

-- whether a batch is on the current branch of its run
abbrev pub is_on_tip : List Batch → Batch → Option Batch → Bool
is_on_tip batches b None = false
is_on_tip batches b (Some tip) = has_key (Some b.key) (path_to tip.key batches)

-- `batch KEY after PARENT events FIRST..LAST`, and ` current` where it is on the run's current branch
abbrev pub batch_line : List Batch → Batch → List ℕ
batch_line batches b =
    codes "batch " ++ key_text b.key ++ codes " after " ++ parent_text b.parent ++ codes " events " ++ decimal (first_id b.events) ++ codes ".." ++ decimal (last_id b.events)
    ++ current_mark (is_on_tip batches b (current_tip b.run batches)) ++ codes "\n"

-- the batches of a run, one a line
abbrev pub batch_lines : List Batch → RunId → List ℕ
batch_lines batches run = flat_map (batch_line batches) (filter (λ b. same_run b.run run) batches)

-- the tree of a view: its workflow, and each run with its batches and branches
abbrev pub tree_text : Name → Name → View → List ℕ
tree_text domain workflow view =
    codes "workflow " ++ domain ++ codes " " ++ workflow ++ codes "\n"
    ++ flat_map (λ run. run_line run ++ batch_lines view.batches run.run ++ flat_map branch_line run.branches) view.runs

-- a branch with its state
abbrev pub branch_state_lines : BranchView → List ℕ
branch_state_lines branch = branch_line branch ++ codes "state " ++ state_text branch.state ++ codes "\n"

-- a run with its branches and their states
abbrev pub run_state_lines : RunView → List ℕ
run_state_lines run = run_line run ++ flat_map branch_state_lines run.branches

-- the dump of a view: its workflow, the batches in key order, and the runs with their branches and states
abbrev pub dump_text : Name → Name → View → List ℕ
dump_text domain workflow view =
    codes "dump 2 " ++ domain ++ codes " " ++ workflow ++ codes "\n"
    ++ flat_map (λ b. batch_text b ++ codes "\n") view.batches ++ flat_map run_state_lines view.runs ++ codes "end\n"
