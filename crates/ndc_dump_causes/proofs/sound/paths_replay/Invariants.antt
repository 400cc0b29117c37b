use Rattle.std.proofs.Common.{◌≡◌, drop}
use Rattle.ndc_dump_causes.specs.Causes.{holds_of_none, is_forbidden}
use Rattle.ndc_dump_causes.specs.declared.error.KeyCause.TheVariants.{BadReplay}
use Rattle.ndc_dump_causes.proofs.sound.paths_replay.Given as goal

abbrev pub invariant-loop-batch : goal.invariant-loop-batch
invariant-loop-batch l = holds_of_none BadReplay (is_forbidden l.batches) (drop l.batch-index l.batches) ≡ holds_of_none BadReplay (is_forbidden l.batches) l.batches
