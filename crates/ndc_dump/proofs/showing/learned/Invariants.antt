use Rattle.std.proofs.Common.{◌≡◌, take}
use Rattle.ndc_dump.proofs.showing.learned.Given as goal

-- the batches so far are learned
abbrev pub invariant-loop-batch : goal.invariant-loop-batch
invariant-loop-batch l = l.runs ≡ take l.batch-index l.batches
