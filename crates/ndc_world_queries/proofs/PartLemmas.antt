-- Branches counted by what is shown, and parts added up.
use Rattle.std.proofs.Common.{◌≡◌, ◌+◌, List, [], ◌∷◌, length, map, refl, ap, sym, ◌∙◌, arith}
use Rattle.std.specs.List.{sum_by}
use Rattle.std.proofs.lemmas.List.{length-map}
use Rattle.std.proofs.lemmas.List.Sums.{sum_by-cons}
use Rattle.ndc_event.specs.declared.batch.Batch.{Batch}
use Rattle.ndc_event.specs.declared.key.RunId.{RunId}
use Rattle.ndc_model_sets.specs.declared.view.RunView.{RunView}
use Rattle.ndc_model_sets.specs.Branches.{runs, tips}
use Rattle.ndc_model_sets.specs.View.{branch_view, run_view, view_of}
use Rattle.ndc_world_queries.specs.Summaries.{branch_count, first_learned}
use Rattle.ndc_model_cells.specs.Cells.{Cell}

-- the branches of some runs, by what is shown of them
shown : (batches : List Batch) (list : List RunId) → sum_by (λ (run : RunView). length run.branches) (map (run_view batches) list) ≡ sum_by (λ run. length (tips run batches)) list
shown batches [] = refl
shown batches (run ∷ list) =
    sum_by-cons (λ (run : RunView). length run.branches) (run_view batches run) (map (run_view batches) list)
    ∙ ap (λ n. n + sum_by (λ (run : RunView). length run.branches) (map (run_view batches) list)) (length-map (tips run batches) (branch_view run batches))
    ∙ ap (λ n. length (tips run batches) + n) (shown batches list)
    ∙ sym (sum_by-cons (λ run. length (tips run batches)) run list)

-- how many branches there are, by what is shown of a workflow
pub shown_branches : (batches : List Batch) → sum_by (λ (run : RunView). length run.branches) (view_of batches).runs ≡ branch_count batches
unfolding branch_count
shown_branches batches = shown batches (runs batches)

-- nothing has no branch
pub no_branch : 0 ≡ branch_count []
unfolding branch_count
no_branch = refl

-- where there is no cell, there is no branch
pub none_first : {X : Type 0} (cell : X → Cell) (cells : List X) (b : Batch) → length cells ≡ 0 → 0 ≡ branch_count (first_learned (map cell cells) b)
none_first cell [] b none = no_branch
none_first cell (x ∷ cells) b none = absurd (omega (arith, none))
