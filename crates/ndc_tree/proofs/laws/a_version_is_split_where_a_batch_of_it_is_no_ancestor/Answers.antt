use Rattle.ndc_tree.proofs.RefusedLemmas.{splits_exactly}
use Rattle.ndc_tree.proofs.laws.a_version_is_split_where_a_batch_of_it_is_no_ancestor.Goals as goal

pub returns : goal.returns
returns c = λ run batches new tree faultless reached. splits_exactly run batches tree new faultless reached
