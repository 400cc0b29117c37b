use Rattle.std.proofs.Common.{◌≡◌, length, ap, subst, ◌∙◌}
use Rattle.std.specs.List.{sum_by}
use Rattle.std.specs.Prelude.{IfOk}
use Rattle.ndc_model_sets.specs.declared.view.RunView.{RunView}
use Rattle.ndc_world_queries.proofs.PartLemmas.{shown_branches}
use Rattle.ndc_world_queries.proofs.learned.branches_of.Goals as goal

pub returns : goal.returns
returns c =
    subst (λ n. IfOk c.branches_in.result (λ count. count ≡ n))
    (ap (sum_by (λ (run : RunView). length run.branches)) (c.as_slice.ensures.value ∙ c.in_ok-shown.ensures) ∙ shown_branches c.args.runs.now)
    c.branches_in.ensures
