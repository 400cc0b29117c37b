use Rattle.ndc_tree.proofs.PathLemmas.{path_is}
use Rattle.ndc_tree.proofs.laws.paths_follow_parents.Goals as goal

pub returns : goal.returns
returns c = λ run batches b tree has. path_is run batches tree b has
