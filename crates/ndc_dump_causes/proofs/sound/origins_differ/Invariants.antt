use Rattle.std.proofs.Common.{◌≡◌, drop}
use Rattle.ndc_dump_causes.specs.Causes.{holds_of_none, has_origin_twice}
use Rattle.ndc_dump_causes.specs.declared.error.KeyCause.TheVariants.{OriginTwice}
use Rattle.ndc_dump_causes.proofs.sound.origins_differ.Given as goal

abbrev pub invariant-loop-batch : goal.invariant-loop-batch
invariant-loop-batch l = holds_of_none OriginTwice (has_origin_twice l.batches) (drop l.batch-index l.batches) ≡ holds_of_none OriginTwice (has_origin_twice l.batches) l.batches
