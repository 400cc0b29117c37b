use Rattle.std.proofs.Common.{◌≡◌, drop}
use Rattle.ndc_dump_causes.specs.Causes.{holds_of_none, lacks_parent}
use Rattle.ndc_dump_causes.specs.declared.error.KeyCause.TheVariants.{MissingParent}
use Rattle.ndc_dump_causes.proofs.sound.parents_are_there.Given as goal

abbrev pub invariant-loop-batch : goal.invariant-loop-batch
invariant-loop-batch l = holds_of_none MissingParent (lacks_parent l.batches) (drop l.batch-index l.batches) ≡ holds_of_none MissingParent (lacks_parent l.batches) l.batches
