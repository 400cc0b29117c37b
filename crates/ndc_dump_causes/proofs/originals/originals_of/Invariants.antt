use Rattle.std.proofs.Common.{◌≡◌, drop, []}
use Rattle.ndc_dump_causes.specs.Originals.{with_batches}
use Rattle.ndc_dump_causes.proofs.originals.originals_of.Given as goal

abbrev pub invariant-loop-batch : goal.invariant-loop-batch
invariant-loop-batch l = with_batches (drop l.batch-index l.batches) l.known ≡ with_batches l.batches []
