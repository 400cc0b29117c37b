use Rattle.std.proofs.Common.{◌∙◌, ap}
use Rattle.ndc_model_sets.proofs.KeyOrder.{key_cmp-by}
use Rattle.ndc_shard_runs.specs.Places.{with_place}
use Rattle.ndc_shard_runs.proofs.PlaceLemmas.{insert-place}
use Rattle.ndc_shard_runs.proofs.places.Places.put.Goals as goal

pub returns-clause-ok : goal.returns-clause-ok
returns-clause-ok c = c.in_ok-insert.ensures.entries ∙ insert-place _ key_cmp-by c.args.key c.args.run c.self.inside.map.entries ∙ ap (with_place c.args.key c.args.run) c.self.view_is
