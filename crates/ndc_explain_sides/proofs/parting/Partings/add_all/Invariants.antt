use Rattle.std.proofs.Common.{◌≡◌, drop}
use Rattle.ndc_explain_sides.specs.Partings.{with_partings}
use Rattle.ndc_explain_sides.proofs.parting.Partings.add_all.Given as goal

abbrev pub invariant-loop-batch : goal.invariant-loop-batch
invariant-loop-batch l = with_partings l.keys (drop l.batch-index l.batches) l.self ≡ with_partings l.keys l.batches l.initial.self
