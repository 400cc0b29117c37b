use Rattle.std.proofs.Common.{refl}
use Rattle.ndc_dump_causes.proofs.TrailLemmas.{place-has}
use Rattle.ndc_dump_causes.proofs.sound.paths_replay.Goals as goal

pub is_forbidden_by-requires-clause-has : goal.is_forbidden_by-requires-clause-has
is_forbidden_by-requires-clause-has c = place-has c.args.batches.now c.args.batches.now c.loop-batch.batch-index c.batch-item.result c.requires.read.set.ordered refl c.loop-batch-test.true c.batch-item.is
