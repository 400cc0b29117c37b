use Rattle.ndc_laws_reached.proofs.SettledLemmas.{settlement_settled}
use Rattle.ndc_laws_reached.proofs.settled_laws.a_settlement_settles_all.Goals as goal

pub returns : goal.returns
returns c = settlement_settled
