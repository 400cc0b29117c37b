use Rattle.ndc_state.proofs.OriginOrder.{marked-take}
use Rattle.ndc_state.proofs.listed.Listed.revert.Goals as goal

pub invariant_of-self : goal.invariant_of-self
invariant_of-self c = marked-take _ _ _ _ c.in-None.is c.self.invariant c.truncate.ensures.items
