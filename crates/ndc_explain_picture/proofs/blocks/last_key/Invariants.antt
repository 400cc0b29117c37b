use Rattle.std.proofs.Common.{◌≡◌, drop, map}
use Rattle.ndc_explain_picture.specs.Blocks.{last_key}
use Rattle.ndc_explain_picture.proofs.blocks.last_key.Given as goal

abbrev pub invariant-loop-batch : goal.invariant-loop-batch
invariant-loop-batch l = last_key l.last (map (λ b. b.now) (drop l.batch-index l.batches)) ≡ last_key l.fn.key (map (λ b. b.now) l.batches)
