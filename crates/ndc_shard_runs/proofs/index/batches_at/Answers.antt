use Rattle.std.proofs.Common.{◌++◌, map, ◌∙◌, ap}
use Rattle.std.specs.List.{filter_map}
use Rattle.ndc_model_sets.specs.Sets.{batch_at}
use Rattle.ndc_shard_runs.specs.RunMap.{all_of}
use Rattle.ndc_shard_runs.proofs.StrayLemmas.{found-whole, keys-of}
use Rattle.ndc_shard_runs.proofs.index.batches_at.Goals as goal

pub loop-key-init : goal.loop-key-init
loop-key-init c =
    let all = all_of c.args.runs.now in
    ap (λ l. map (λ b. b.now) l ++ filter_map (λ key. batch_at key all) c.as_slice-key-items.result.now) c.new-list.ensures.items
    ∙ ap (filter_map (λ key. batch_at key all)) (c.as_slice-key-items.ensures.value ∙ c.in_ok-keys.ensures ∙ ap (λ l. map (λ p. p.0) l) c.requires.places ∙ keys-of all)
    ∙ found-whole all c.requires.sound.set.ordered
