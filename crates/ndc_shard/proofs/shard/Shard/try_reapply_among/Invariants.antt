use Rattle.ndc_shard.proofs.TriedLemmas.{IsTriedSoFar}
use Rattle.ndc_shard.proofs.shard.Shard.try_reapply_among.Given as goal

-- what is gone over is tried
abbrev pub invariant-loop-domain : goal.invariant-loop-domain
invariant-loop-domain g l = IsTriedSoFar l.desk l.fn.list.items l.fn.self l.yielded l.domain-iterator.rest.items l.told.written.items l.told.skipped.items l.self
