use Rattle.std.proofs.Common.{subst, arith}
use Rattle.ndc_shard_waiting.specs.Waiting.{AreWaiting}
use Rattle.ndc_shard_waiting.proofs.NoteLemmas.{noted-next}
use Rattle.ndc_shard_waiting.proofs.held.Held.all_missing.Goals as goal

pub loop-batch-preserved : goal.loop-batch-preserved
loop-batch-preserved c = (
  c.loop-batch.invariant.0,
  noted-next c.args.self.now c.as_slice-batch-items.result.now c.loop-batch.batch-index c.batch-item.result c.loop-batch.ends c.note.new.ends c.loop-batch.found.items c.note.new.found.items
      (subst AreWaiting c.self.view_is c.self.invariant.are) c.loop-batch.invariant.0 (omega arith) c.batch-item.is c.loop-batch.invariant.1 c.in_ok-note.ensures.ends c.in_ok-note.ensures.found,
)
