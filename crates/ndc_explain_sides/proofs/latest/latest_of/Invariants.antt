use Rattle.std.proofs.Common.{◌≡◌, [], drop}
use Rattle.ndc_explain_sides.specs.Traces.{with_standing}
use Rattle.ndc_explain_sides.proofs.latest.latest_of.Given as goal

abbrev pub invariant-loop-batch : goal.invariant-loop-batch
invariant-loop-batch l = with_standing l.keys l.ends (drop l.batch-index l.batches) l.latest ≡ with_standing l.keys l.ends l.batches []
