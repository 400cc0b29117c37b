use Rattle.std.proofs.Common.{◌≡◌, map, take}
use Rattle.ndc_shard_workflows.proofs.arrival.keys_of.Given as goal

-- the keys of those gone over
abbrev pub invariant-loop-batch : goal.invariant-loop-batch
invariant-loop-batch l = l.keys.items ≡ map (λ b. b.key) (take l.batch-index l.batches)
