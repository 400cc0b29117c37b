-- The tree of a view with its batches marked by the keys of a path.
use Rattle.std.specs.Prelude.{Bool, ℕ, List, ◌++◌, codes, decimal, find, Option, Some}
use Rattle.std.specs.List.{flat_map}
use Rattle.std.specs.Option.{option_map}
use Rattle.ndc_event.specs.declared.batch.Batch.{Batch}
use Rattle.ndc_event.specs.declared.key.BatchKey.{BatchKey}
use Rattle.ndc_model_sets.specs.Learned.{has_key}
use Rattle.ndc_model_sets.specs.Paths.{first_id, last_id, path_from}
use Rattle.ndc_model_sets.specs.declared.view.BranchView.{BranchView}
use Rattle.ndc_model_sets.specs.declared.view.RunView.{RunView}
use Rattle.ndc_dump_causes.specs.Keys.{is_listed}
use Rattle.ndc_text.specs.Views.{branch_line, current_mark, key_text, parent_text, run_line}

-- `batch KEY after PARENT`
abbrev pub batch_head : Batch → List ℕ
batch_head b = codes "batch " ++ key_text b.key ++ codes " after " ++ parent_text b.parent

-- the line of a batch, with a mark or without
abbrev pub marked_line : Bool → Batch → List ℕ
marked_line mark b = batch_head b ++ codes " events " ++ decimal (first_id b.events) ++ codes ".." ++ decimal (last_id b.events) ++ current_mark mark ++ codes "\n"

-- the lines of batches, those with a listed key marked
abbrev pub marked_lines : List BatchKey → List Batch → List ℕ
marked_lines keys batches = flat_map (λ b. marked_line (is_listed b.key keys) b) batches

-- the lines of batches, those on a path marked
abbrev pub path_lines : List Batch → List Batch → List ℕ
path_lines path batches = flat_map (λ b. marked_line (has_key (Some b.key) path) b) batches

-- the tip of the branch that is the current one
abbrev pub current_key : List BranchView → Option BatchKey
current_key branches = option_map (λ branch. branch.tip) (find (λ branch. branch.is_current) branches)

-- the tree of a run with these batches: those of the current branch are marked, and its branches follow
abbrev pub run_tree : List Batch → RunView → List ℕ
run_tree batches run = run_line run ++ path_lines (path_from (current_key run.branches) batches) batches ++ flat_map branch_line run.branches
