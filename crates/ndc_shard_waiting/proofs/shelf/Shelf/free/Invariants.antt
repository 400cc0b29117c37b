use Rattle.std.proofs.Common.{length}
use Rattle.ndc_shard_waiting.specs.Waiting.{AreWaiting}
use Rattle.ndc_shard_waiting.proofs.LoopLemmas.{Frees}
use Rattle.ndc_shard_waiting.proofs.shelf.Shelf.free.Given as goal

-- what waits, and what is freed of it
abbrev pub invariant-loop-key : goal.invariant-loop-key
invariant-loop-key l = AreWaiting l.self × Frees l.fn.message l.fn.self l.todo l.freed.items l.self

abbrev pub decreases-loop-key : goal.decreases-loop-key
decreases-loop-key l = length l.self
