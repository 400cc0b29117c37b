use Rattle.ndc_laws_reached.proofs.ResendLemmas.{resent_whole}
use Rattle.ndc_laws_reached.proofs.resend_laws.behind_a_resend_nothing_is_put_off.Goals as goal

pub returns : goal.returns
returns c = resent_whole
