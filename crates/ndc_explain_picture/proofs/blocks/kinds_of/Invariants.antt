use Rattle.std.proofs.Common.{◌≡◌, ◌++◌, drop, map}
use Rattle.ndc_explain_picture.specs.Blocks.{kinds_of}
use Rattle.ndc_explain_picture.proofs.blocks.kinds_of.Given as goal

abbrev pub invariant-loop-batch : goal.invariant-loop-batch
invariant-loop-batch l = map (λ kind. kind.now) l.kinds.items ++ kinds_of (map (λ b. b.now) (drop l.batch-index l.batches)) ≡ kinds_of (map (λ b. b.now) l.batches)
