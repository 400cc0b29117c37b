use Rattle.std.proofs.Common.{◌≡◌, map, take}
use Rattle.ndc_shard_runs.proofs.views.copies.Given as goal

-- those gone over are copied
abbrev pub invariant-loop-batch : goal.invariant-loop-batch
invariant-loop-batch l = l.list.items ≡ map (λ b. b.now) (take l.batch-index l.batches)
