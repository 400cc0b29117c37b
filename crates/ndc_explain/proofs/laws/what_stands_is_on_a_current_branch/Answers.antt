use Rattle.ndc_explain.proofs.StandingLaws.{stands_where_current}
use Rattle.ndc_explain.proofs.laws.what_stands_is_on_a_current_branch.Goals as goal

pub returns : goal.returns
returns c = λ batches sound b has. stands_where_current batches sound b has
