use Rattle.ndc_shard.proofs.SoFarLemmas.{IsDoneSoFar}
use Rattle.ndc_shard.proofs.shard.Shard.reapply_among.Given as goal

-- what is gone over is done
abbrev pub invariant-loop-domain : goal.invariant-loop-domain
invariant-loop-domain g l = IsDoneSoFar l.desk l.fn.list.items l.fn.self l.yielded l.domain-iterator.rest.items l.batches.items l.self
