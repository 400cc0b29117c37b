use Rattle.ndc_laws_reached.proofs.LineLemmas.{settled_kept, settled_most}
use Rattle.ndc_laws_reached.proofs.round_laws.rounds_of_settlement_keep_worlds_reached.Goals as goal

pub returns-clause-reached : goal.returns-clause-reached
returns-clause-reached c = settled_kept

pub returns-clause-most : goal.returns-clause-most
returns-clause-most c = settled_most
