use Rattle.std.proofs.Common.{◌≡◌, ◌++◌, drop}
use Rattle.ndc_model_sets.specs.Origins.{signals}
use Rattle.ndc_explain.proofs.signals.signals_of.Given as goal

-- the signals so far, and those of the other batches, are all
abbrev pub invariant-loop-batch : goal.invariant-loop-batch
invariant-loop-batch l = l.list.items ++ signals (drop l.batch-index l.batches) ≡ signals l.batches
