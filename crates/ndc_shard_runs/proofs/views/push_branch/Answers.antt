use Rattle.std.proofs.Common.{◌∙◌, ap, sym}
use Rattle.ndc_model_sets.specs.Reading.{history_at}
use Rattle.ndc_tree.specs.Tree.{TreeValue}
use Rattle.ndc_shard_runs.proofs.ViewLemmas.{tip-history}
use Rattle.ndc_shard_runs.proofs.views.push_branch.Goals as goal

pub returns-in_default : goal.returns-in_default
returns-in_default g c =
    let v = c.args.run.now in
    absurd (tip-history v.run v.batches c.args.key c.tree.ensures.run.tree c.requires
    (sym c.in_default.is ∙ c.in_ok-history.ensures ∙ ap (λ (t : TreeValue). history_at c.args.key t.batches) c.tree.ensures.tree))
