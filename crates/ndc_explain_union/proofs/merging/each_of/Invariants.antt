use Rattle.std.proofs.Common.{◌≡◌, ◌++◌, drop, map}
use Rattle.ndc_explain_union.proofs.merging.each_of.Given as goal

abbrev pub invariant-loop-batch : goal.invariant-loop-batch
invariant-loop-batch l = map (λ b. b.now) l.list.items ++ drop l.batch-index l.batches ≡ l.batches
