use Rattle.ndc_tree.proofs.RiseLemmas.{ids-rise}
use Rattle.ndc_tree.proofs.tree.Tree.event.Goals as goal

pub event-requires : goal.event-requires
event-requires c = ids-rise c.self.inside.run c.self.inside.batches c.self.invariant.0
