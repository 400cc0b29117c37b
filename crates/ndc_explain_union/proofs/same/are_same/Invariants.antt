use Rattle.std.proofs.Common.{◌≡◌, drop, map}
use Rattle.ndc_explain_union.specs.Unions.{are_same}
use Rattle.ndc_explain_union.proofs.same.are_same.Given as goal

abbrev pub invariant-loop-batch : goal.invariant-loop-batch
invariant-loop-batch l = are_same l.batches (map (λ b. b.now) (drop l.batch-index l.union)) ≡ are_same l.batches (map (λ b. b.now) l.union)
