use Rattle.ndc_tree.proofs.PathLemmas.{paths_stay}
use Rattle.ndc_tree.proofs.laws.paths_of_a_part_are_those_of_the_whole.Goals as goal

pub returns : goal.returns
returns c = paths_stay
