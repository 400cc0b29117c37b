use Rattle.std.proofs.Common.{drop, map}
use Rattle.ndc_shard_workflows.specs.Forgetting.{AreKept}
use Rattle.ndc_shard_workflows.proofs.forgetting.keep_all.Given as goal

-- the messages of the batches gone over are kept, but for one
abbrev pub invariant-loop-batch : goal.invariant-loop-batch
invariant-loop-batch l = AreKept l.key l.waiting (map (λ b. b.now) (drop l.batch-index l.batches)) l.kept
