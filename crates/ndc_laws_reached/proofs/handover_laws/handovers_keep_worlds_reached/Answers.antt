use Rattle.ndc_laws_reached.proofs.HandoverLemmas.{complete_kept, handover_kept}
use Rattle.ndc_laws_reached.proofs.handover_laws.handovers_keep_worlds_reached.Goals as goal

pub returns-clause-begun : goal.returns-clause-begun
returns-clause-begun c = handover_kept

pub returns-clause-completed : goal.returns-clause-completed
returns-clause-completed c = complete_kept
