use Rattle.ndc_laws.proofs.SettlementLemmas.{resend-line}
use Rattle.ndc_laws.proofs.settlement_laws.behind_resend_nothing_is_put_off.Goals as goal

pub returns : goal.returns
returns c = resend-line
