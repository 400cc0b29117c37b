use Rattle.std.proofs.Common.{◌∙◌, ap}
use Rattle.ndc_model_sets.proofs.KeyOrder.{key_cmp-by}
use Rattle.ndc_shard_runs.specs.Places.{place_at}
use Rattle.ndc_shard_runs.proofs.PlaceLemmas.{lookup-place}
use Rattle.ndc_shard_runs.proofs.places.Places.get.Goals as goal

pub returns : goal.returns
returns c = c.copied.ensures ∙ c.get.ensures.value ∙ lookup-place _ key_cmp-by c.args.key c.self.inside.map.entries ∙ ap (place_at c.args.key) c.self.view_is
