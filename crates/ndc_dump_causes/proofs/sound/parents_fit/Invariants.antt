use Rattle.std.proofs.Common.{◌≡◌, drop}
use Rattle.ndc_dump_causes.specs.Causes.{holds_of_none, is_ill_formed}
use Rattle.ndc_dump_causes.specs.declared.error.KeyCause.TheVariants.{NotWellFormed}
use Rattle.ndc_dump_causes.proofs.sound.parents_fit.Given as goal

abbrev pub invariant-loop-batch : goal.invariant-loop-batch
invariant-loop-batch l = holds_of_none NotWellFormed (is_ill_formed l.batches) (drop l.batch-index l.batches) ≡ holds_of_none NotWellFormed (is_ill_formed l.batches) l.batches
