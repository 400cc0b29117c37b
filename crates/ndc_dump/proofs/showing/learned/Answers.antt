use Rattle.std.proofs.Common.{rules}
use Rattle.ndc_dump.proofs.Learning.{fresh-next, learned-next, small-next, sound-next}
use Rattle.ndc_dump.proofs.showing.learned.Goals as goal

pub learn-requires-clause-sound : goal.learn-requires-clause-sound
learn-requires-clause-sound c =
    sound-next c.args.batches.now c.loop-batch.batch-index c.batch-item.result c.loop-batch.runs c.requires.sound (search rules) c.batch-item.is c.loop-batch.invariant

pub learn-requires-clause-fresh : goal.learn-requires-clause-fresh
learn-requires-clause-fresh c =
    fresh-next c.args.batches.now c.loop-batch.batch-index c.batch-item.result c.loop-batch.runs c.requires.sound (search rules) c.batch-item.is c.loop-batch.invariant

pub learn-requires-clause-ids : goal.learn-requires-clause-ids
learn-requires-clause-ids c = small-next c.args.batches.now c.loop-batch.batch-index c.batch-item.result c.requires.read.range (search rules) c.batch-item.is

pub loop-batch-preserved : goal.loop-batch-preserved
loop-batch-preserved c =
    learned-next c.args.batches.now c.loop-batch.batch-index c.batch-item.result c.loop-batch.runs c.learn.new.self c.requires.sound (search rules) c.batch-item.is c.loop-batch.invariant
    c.in_ok-learn.ensures.ok
