use Rattle.std.proofs.Common.{◌≡◌, ◌++◌, drop, map}
use Rattle.ndc_explain_picture.specs.Blocks.{copies_of}
use Rattle.ndc_explain_picture.proofs.blocks.copies_of.Given as goal

abbrev pub invariant-loop-batch : goal.invariant-loop-batch
invariant-loop-batch l = l.copies.items ++ copies_of (map (λ b. b.now) (drop l.batch-index l.batches)) ≡ copies_of (map (λ b. b.now) l.batches)
