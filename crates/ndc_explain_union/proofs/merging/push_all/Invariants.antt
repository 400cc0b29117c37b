use Rattle.std.proofs.Common.{◌≡◌, ◌++◌, drop, map}
use Rattle.ndc_explain_union.proofs.merging.push_all.Given as goal

-- the batches gone over stand after the others
abbrev pub invariant-loop-batch : goal.invariant-loop-batch
invariant-loop-batch l = map (λ b. b.now) l.all.items ++ map (λ b. b.now) (drop l.batch-index l.batches) ≡ map (λ b. b.now) l.initial.all.items ++ map (λ b. b.now) l.batches
