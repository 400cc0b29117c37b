use Rattle.std.proofs.Common.{◌∙◌, ap, sym}
use Rattle.std.specs.Option.{option_map}
use Rattle.ndc_shard_runs.specs.Places.{last_place}
use Rattle.ndc_shard_runs.proofs.PlaceLemmas.{last-at}
use Rattle.ndc_shard_runs.proofs.places.Places.last_key.Goals as goal

pub returns : goal.returns
returns c =
    sym (ap (option_map (λ p. p.0)) (last-at c.self.inside.map.entries (c.in_ok-key.key.now, c.in_ok-key.field-0-1.now) c.in_ok-key.ensures.last))
    ∙ ap (λ l. option_map (λ p. p.0) (last_place l)) c.self.view_is
