use Rattle.std.specs.Prelude.{length}
use Rattle.ndc_dump_causes.proofs.Finding.{IsLeft}
use Rattle.ndc_dump_causes.proofs.found.batch_at.Given as goal

-- the batch is looked for in what is left
abbrev pub invariant-loop-front : goal.invariant-loop-front
invariant-loop-front l = IsLeft l.key l.rest l.batches

abbrev pub decreases-loop-front : goal.decreases-loop-front
decreases-loop-front l = length l.rest
