use Rattle.std.proofs.Common.{◌≡◌, drop, None, []}
use Rattle.ndc_explain_picture.specs.Blocks.{with_forks}
use Rattle.ndc_explain_picture.proofs.blocks.forks.Given as goal

abbrev pub invariant-loop-batch : goal.invariant-loop-batch
invariant-loop-batch l = with_forks l.before (drop l.batch-index l.batches) l.keys ≡ with_forks None l.batches []
