use Rattle.std.proofs.Common.{◌≡◌, drop, []}
use Rattle.ndc_explain.specs.Signals.{with_listed}
use Rattle.ndc_explain.proofs.settlers.settlers_of.Given as goal

abbrev pub invariant-loop-batch : goal.invariant-loop-batch
invariant-loop-batch l = with_listed l.keys (drop l.batch-index l.batches) l.known ≡ with_listed l.keys l.batches []
