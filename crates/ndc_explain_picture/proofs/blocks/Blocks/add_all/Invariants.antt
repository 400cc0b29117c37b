use Rattle.std.proofs.Common.{◌≡◌, drop}
use Rattle.ndc_explain_picture.specs.Blocks.{with_batches}
use Rattle.ndc_explain_picture.proofs.blocks.Blocks.add_all.Given as goal

abbrev pub invariant-loop-batch : goal.invariant-loop-batch
invariant-loop-batch l = with_batches l.keys (drop l.batch-index l.batches) l.self ≡ with_batches l.keys l.batches l.initial.self
