use Rattle.ndc_resend.proofs.AskedLemmas.{answer_is}
use Rattle.ndc_resend.proofs.laws.what_is_not_learned_of_the_path_is_served.Goals as goal

pub returns : goal.returns
returns c = λ all mine w b front middle off holds. answer_is all w b front middle off mine holds
