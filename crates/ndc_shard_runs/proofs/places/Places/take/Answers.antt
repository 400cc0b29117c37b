use Rattle.std.proofs.Common.{◌∙◌, ap}
use Rattle.ndc_model_sets.proofs.KeyOrder.{key_cmp-by}
use Rattle.ndc_shard_runs.specs.Places.{without_place}
use Rattle.ndc_shard_runs.proofs.PlaceLemmas.{remove-place}
use Rattle.ndc_shard_runs.proofs.places.Places.take.Goals as goal

pub returns : goal.returns
returns c = c.remove.ensures.entries ∙ remove-place _ key_cmp-by c.args.key c.self.inside.map.entries ∙ ap (without_place c.args.key) c.self.view_is
