use Rattle.ndc_resend.proofs.AskedLemmas.{answered_is_above}
use Rattle.ndc_resend.proofs.laws.only_ancestors_are_served.Goals as goal

pub returns : goal.returns
returns c = answered_is_above
