use Rattle.std.specs.Prelude.{length, map}
use Rattle.std.specs.Option.{option_copied}
use Rattle.ndc_resend.specs.Serving.{chain_to}
use Rattle.ndc_resend.proofs.ChainLemmas.{Climbs, chain_of}
use Rattle.ndc_shard.proofs.serving.chain.Given as goal

-- what leads to the next batch, and after it those gone over, newest first
abbrev pub invariant-loop-next : goal.invariant-loop-next
invariant-loop-next l = Climbs l.runs (option_copied l.next) (map (λ b. b.now) l.list.items) (chain_to l.fn.wanted l.runs)

abbrev pub decreases-loop-next : goal.decreases-loop-next
decreases-loop-next l = length (chain_of (option_copied l.next) l.runs)
