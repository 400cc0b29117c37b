use Rattle.ndc_resend.proofs.AskedLemmas.{missing_is_answered}
use Rattle.ndc_resend.proofs.laws.each_ancestor_that_is_not_learned_is_served.Goals as goal

pub returns : goal.returns
returns c = missing_is_answered
