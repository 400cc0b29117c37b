use Rattle.ndc_laws_reached.proofs.LineLemmas.{reapplied_kept, reapplied_most}
use Rattle.ndc_laws_reached.proofs.round_laws.reapplication_keeps_worlds_reached.Goals as goal

pub returns-clause-reached : goal.returns-clause-reached
returns-clause-reached c = reapplied_kept

pub returns-clause-most : goal.returns-clause-most
returns-clause-most c = reapplied_most
