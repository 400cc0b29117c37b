use Rattle.ndc_example_cell.proofs.SharedLemmas.{flip-then}
use Rattle.ndc_example_cell.proofs.pair.Pair.turn.Goals as goal

pub invariant_of-self : goal.invariant_of-self
invariant_of-self c = λ unspent. flip-then _ _ _ _ _ _ _ _ _ _ (c.self.invariant unspent) c.swap.ensures.x_after c.swap.ensures.y_after
