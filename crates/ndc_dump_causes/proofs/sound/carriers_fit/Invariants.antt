use Rattle.std.proofs.Common.{◌≡◌, drop}
use Rattle.ndc_dump_causes.specs.Causes.{holds_of_none, is_unfit_carried}
use Rattle.ndc_dump_causes.specs.declared.error.KeyCause.TheVariants.{CarrierUnfit}
use Rattle.ndc_dump_causes.proofs.sound.carriers_fit.Given as goal

abbrev pub invariant-loop-batch : goal.invariant-loop-batch
invariant-loop-batch l = holds_of_none CarrierUnfit (is_unfit_carried l.batches) (drop l.batch-index l.batches) ≡ holds_of_none CarrierUnfit (is_unfit_carried l.batches) l.batches
