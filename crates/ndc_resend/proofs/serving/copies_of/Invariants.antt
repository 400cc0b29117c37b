use Rattle.std.proofs.Common.{◌≡◌, ◌++◌, drop, map}
use Rattle.ndc_resend.proofs.serving.copies_of.Given as goal

-- the copies so far, and what is left to be copied, are all of them
abbrev pub invariant-loop-batch : goal.invariant-loop-batch
invariant-loop-batch l = l.list.items ++ map (λ b. b.now) (drop l.batch-index l.batches) ≡ map (λ b. b.now) l.batches
