use Rattle.ndc_shard_waiting.proofs.LinkLemmas.{Wakes}
use Rattle.ndc_shard_waiting.proofs.links.Links.wake.Given as goal

abbrev pub invariant-loop-link : goal.invariant-loop-link
invariant-loop-link l = Wakes l.earlier l.self l.fn.todo l.todo l.link-iterator
