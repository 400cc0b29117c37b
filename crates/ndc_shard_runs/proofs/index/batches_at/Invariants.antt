use Rattle.std.proofs.Common.{◌≡◌, ◌++◌, map, drop}
use Rattle.std.specs.List.{filter_map}
use Rattle.ndc_model_sets.specs.Sets.{batch_at}
use Rattle.ndc_shard_runs.specs.RunMap.{all_of}
use Rattle.ndc_shard_runs.proofs.index.batches_at.Given as goal

-- those that are found so far, and those of the other keys, are all
abbrev pub invariant-loop-key : goal.invariant-loop-key
invariant-loop-key l = map (λ b. b.now) l.list.items ++ filter_map (λ key. batch_at key (all_of l.runs)) (drop l.key-index l.key-items) ≡ all_of l.runs
