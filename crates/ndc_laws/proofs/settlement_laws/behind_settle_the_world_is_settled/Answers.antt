use Rattle.ndc_laws.proofs.SettlementLemmas.{settle-line}
use Rattle.ndc_laws.proofs.settlement_laws.behind_settle_the_world_is_settled.Goals as goal

pub returns : goal.returns
returns c = settle-line
