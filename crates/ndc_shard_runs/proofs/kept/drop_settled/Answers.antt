use Rattle.std.proofs.Common.{rules, ◌∙◌, ap}
use Rattle.std.specs.List.{filter}
use Rattle.std.proofs.lemmas.Fn.{filter_same}
use Rattle.ndc_model_sets.specs.Origins.{origins_in}
use Rattle.ndc_shard_runs.specs.Kept.{is_unlisted}
use Rattle.ndc_shard_runs.proofs.kept.drop_settled.Goals as goal

pub returns-in-Some : goal.returns-in-Some
returns-in-Some c =
    c.drop_listed.ensures ∙ ap (λ origins. filter (is_unlisted origins) c.args.list.now.items)
    (c.as_slice-in-Some.ensures.value ∙ c.in-Some.ensures.origins ∙ ap (origins_in c.args.batch.now.run) c.as_slice.ensures)

pub returns-in-None : goal.returns-in-None
returns-in-None c = filter_same _ _ _ (λ x b f' k. search rules) _ _ c.retain.ensures.filtered
