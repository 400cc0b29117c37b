use Rattle.std.proofs.Common.{◌≡◌, [], drop}
use Rattle.ndc_explain_sides.specs.Partings.{with_ends}
use Rattle.ndc_explain_sides.proofs.parting.ends_of.Given as goal

abbrev pub invariant-loop-batch : goal.invariant-loop-batch
invariant-loop-batch l = with_ends l.keys (drop l.batch-index l.batches) l.ends ≡ with_ends l.keys l.batches []
