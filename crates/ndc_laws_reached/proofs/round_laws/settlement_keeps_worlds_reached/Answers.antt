use Rattle.ndc_laws_reached.proofs.LineLemmas.{settle_kept}
use Rattle.ndc_laws_reached.proofs.round_laws.settlement_keeps_worlds_reached.Goals as goal

pub returns : goal.returns
returns c = settle_kept
