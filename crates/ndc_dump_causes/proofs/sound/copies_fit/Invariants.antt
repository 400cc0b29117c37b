use Rattle.std.proofs.Common.{◌≡◌, drop}
use Rattle.ndc_dump_causes.specs.Causes.{holds_of_none, has_unfit_copy}
use Rattle.ndc_dump_causes.specs.declared.error.KeyCause.TheVariants.{OriginUnfit}
use Rattle.ndc_dump_causes.proofs.sound.copies_fit.Given as goal

abbrev pub invariant-loop-batch : goal.invariant-loop-batch
invariant-loop-batch l = holds_of_none OriginUnfit (has_unfit_copy l.batches) (drop l.batch-index l.batches) ≡ holds_of_none OriginUnfit (has_unfit_copy l.batches) l.batches
