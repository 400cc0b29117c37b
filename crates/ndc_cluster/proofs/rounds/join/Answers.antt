use Rattle.std.proofs.Common.{refl}
use Rattle.ndc_cluster.proofs.RoundLemmas.{all_more, join_more}
use Rattle.ndc_cluster.proofs.rounds.join.Goals as goal

pub loop-piece-preserved : goal.loop-piece-preserved
loop-piece-preserved g c = (
  join_more _ _ c.loop-piece.slots.items c.append.new.self.items c.in-Some.piece.slots.items c.loop-piece.left.items c.pop.new.self.items c.in-Some.piece _ c.loop-piece.invariant.0 c.in-Some.ensures.items refl c.in_ok-append.ensures.items,
  λ rest. c.loop-piece.invariant.1 (all_more _ c.pop.new.self.items c.loop-piece.left.items c.in-Some.piece c.in-Some.ensures.items rest c.if-piece.false),
)
