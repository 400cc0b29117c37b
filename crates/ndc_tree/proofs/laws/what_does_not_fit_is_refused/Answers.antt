use Rattle.ndc_tree.proofs.RefusedLemmas.{refused_exactly}
use Rattle.ndc_tree.proofs.laws.what_does_not_fit_is_refused.Goals as goal

pub returns : goal.returns
returns c = λ run batches new tree faultless reached. refused_exactly run batches tree new faultless reached
