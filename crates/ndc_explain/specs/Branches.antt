-- What is told of runs: which branch leads, and why.
use Rattle.std.specs.Prelude.{ℕ, List, [], ◌∷◌, ◌++◌, codes, decimal, find, Option, Some, None, if◌then◌else◌}
use Rattle.std.specs.List.{concat, flat_map}
use Rattle.ndc_domain.specs.Clusters.{ClusterList}
use Rattle.ndc_history.specs.Common.{common_of}
use Rattle.ndc_model_sets.specs.declared.view.BranchView.{BranchView}
use Rattle.ndc_model_sets.specs.declared.view.RunView.{RunView}
use Rattle.ndc_text.specs.Views.{key_text, run_line}
use Rattle.ndc_explain.specs.Pieces.{by_text, shared_text}
use Rattle.ndc_explain.specs.Writers.{writer_name}

-- the branch that leads: the current one
abbrev pub leader : List BranchView → Option BranchView
leader branches = find (λ branch. branch.is_current) branches

-- the line of a branch that leads
abbrev pub leading_line : Option ClusterList → BranchView → List ℕ
leading_line clusters branch =
    concat (codes "branch " ∷ key_text branch.tip ∷ codes " leads: its last event has version " ∷ decimal branch.tip.version ∷ by_text (writer_name clusters branch.tip.version) ∷ codes "\n" ∷ [])

-- the line of a branch that lost to the one that leads
abbrev pub losing_line : Option ClusterList → BranchView → BranchView → List ℕ
losing_line clusters lead branch =
    concat (
    codes "branch " ∷ key_text branch.tip ∷ codes " lost: the last event of " ∷ key_text lead.tip ∷ codes " has version " ∷ decimal lead.tip.version ∷ by_text (writer_name clusters lead.tip.version)
    ∷ codes ", that of " ∷ key_text branch.tip ∷ codes " has version " ∷ decimal branch.tip.version ∷ by_text (writer_name clusters branch.tip.version) ∷ codes "; "
    ∷ shared_text (common_of lead.history branch.history) ∷ codes "\n" ∷ [])

-- the line of a branch beside the one that leads
abbrev pub branch_told : Option ClusterList → BranchView → BranchView → List ℕ
branch_told clusters lead branch = if branch.is_current then leading_line clusters branch else losing_line clusters lead branch

-- the lines of branches, where one leads
abbrev pub branches_told : Option ClusterList → Option BranchView → List BranchView → List ℕ
branches_told clusters None branches = []
branches_told clusters (Some lead) branches = flat_map (branch_told clusters lead) branches

-- the lines of a run and of its branches
abbrev pub run_told : Option ClusterList → RunView → List ℕ
run_told clusters run = run_line run ++ branches_told clusters (leader run.branches) run.branches
