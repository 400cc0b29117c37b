use Rattle.std.proofs.Common.{refl}
use Rattle.ndc_dump_causes.proofs.TrailLemmas.{place-has}
use Rattle.ndc_dump_causes.proofs.sound.origins_differ.Goals as goal

pub has_origin_twice_by-requires-clause-has : goal.has_origin_twice_by-requires-clause-has
has_origin_twice_by-requires-clause-has c = place-has c.args.batches.now c.args.batches.now c.loop-batch.batch-index c.batch-item.result c.requires.read.set.ordered refl c.loop-batch-test.true c.batch-item.is
