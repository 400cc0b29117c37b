use Rattle.ndc_laws.proofs.SettlementLemmas.{settled-world}
use Rattle.ndc_laws.proofs.settlement_laws.a_settlement_leaves_a_settled_world.Goals as goal

pub returns : goal.returns
returns c = settled-world
