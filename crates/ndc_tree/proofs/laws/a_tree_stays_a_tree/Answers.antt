use Rattle.ndc_tree.proofs.GrowLemmas.{grown_is_tree}
use Rattle.ndc_tree.proofs.laws.a_tree_stays_a_tree.Goals as goal

pub returns : goal.returns
returns c = grown_is_tree
