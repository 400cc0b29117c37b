-- The branches of a run, its current branch, and the current run of a workflow.
use Rattle.std.specs.Prelude.{◌≢◌, ◌<◌, Bool, false, not, ◌&&◌, ◌||◌, ◌==◌, is_none, nat_lt, List, [], ◌∷◌, map, find, Option, Some, None, if◌then◌else◌}
use Rattle.std.specs.List.{filter, filter_map, list_all, list_any}
use Rattle.ndc_event.specs.Key.{key_eq, key_lt}
use Rattle.ndc_event.specs.declared.batch.Batch.{Batch}
use Rattle.ndc_event.specs.declared.key.RunId.{RunId}
use Rattle.ndc_model_sets.specs.Sets.{Has}
use Rattle.ndc_history.specs.declared.item.Item.{Item}
use Rattle.ndc_state.specs.Replay.{history_of}
use Rattle.ndc_model_sets.specs.Paths.{is_wanted, path_to, versions_of}

-- whether two run ids are one
abbrev pub same_run : RunId → RunId → Bool
same_run one two = one.value == two.value

-- whether one of the batches is a child of this one: names it as its parent
abbrev pub has_child : Batch → List Batch → Bool
has_child b batches = list_any (λ child. is_wanted child.parent b) batches

-- the tips of the branches of a run, ascending: its batches without a child
abbrev pub tips : RunId → List Batch → List Batch
tips run batches = filter (λ b. same_run b.run run && not (has_child b batches)) batches

-- the branches of a run: the paths to its tips
abbrev pub branches : RunId → List Batch → List (List Batch)
branches run batches = map (λ tip. path_to tip.key batches) (tips run batches)

-- whether the version of a tip is greater than that of every other tip
abbrev pub leads : List Batch → Batch → Bool
leads others tip = list_all (λ other. key_eq other.key tip.key || nat_lt other.key.version tip.key.version) others

-- the tip of the current branch of a run: the first whose last version is greater than that of every other branch
abbrev pub current_tip : RunId → List Batch → Option Batch
current_tip run batches = find (leads (tips run batches)) (tips run batches)

-- the runs of a workflow, ascending: those of its first batches
abbrev pub runs : List Batch → List RunId
runs batches = map (λ b. b.run) (filter (λ b. is_none b.parent) batches)

-- the tips of the current branches of all runs
abbrev pub current_tips : List Batch → List Batch
current_tips batches = filter_map (λ run. current_tip run batches) (runs batches)

-- the batch, or another one where its key is greater
abbrev pub later : Batch → Option Batch → Option Batch
later b None = Some b
later b (Some other) = if key_lt b.key other.key then Some other else Some b

-- the batch with the greatest key
abbrev pub greatest_key : List Batch → Option Batch
greatest_key [] = None
greatest_key (b ∷ batches) = later b (greatest_key batches)

-- the tip of the current branch of the current run: of all current branches, the tip with the greatest key
abbrev pub workflow_tip : List Batch → Option Batch
workflow_tip batches = greatest_key (current_tips batches)

-- whether the run is that of this batch, where there is one
abbrev pub is_run_of : RunId → Option Batch → Bool
is_run_of run None = false
is_run_of run (Some tip) = same_run tip.run run

-- whether a run is the current run of its workflow
abbrev pub is_current_run : RunId → List Batch → Bool
is_current_run run batches = is_run_of run (workflow_tip batches)

-- a tip of a run whose version is greater than that of every other tip
pub record IsLeading (run : RunId) (batches : List Batch) (tip : Batch) : Type 0 where
  pub is_tip : Has (tips run batches) tip
  pub above : (other : Batch) → Has (tips run batches) other → other ≢ tip → other.key.version < tip.key.version

-- the version histories of the branches of a run
abbrev pub histories : RunId → List Batch → List (List Item)
histories run batches = map (λ branch. versions_of (history_of branch)) (branches run batches)
