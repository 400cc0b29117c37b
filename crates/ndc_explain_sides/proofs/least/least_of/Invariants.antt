use Rattle.std.proofs.Common.{◌≡◌, [], drop}
use Rattle.ndc_explain_sides.specs.Traces.{with_lost}
use Rattle.ndc_explain_sides.proofs.least.least_of.Given as goal

abbrev pub invariant-loop-batch : goal.invariant-loop-batch
invariant-loop-batch l = with_lost l.keys l.partings (drop l.batch-index l.batches) l.least ≡ with_lost l.keys l.partings l.batches []
