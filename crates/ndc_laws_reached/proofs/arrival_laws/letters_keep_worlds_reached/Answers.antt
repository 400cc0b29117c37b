use Rattle.ndc_laws_reached.proofs.ArrivalLaws.{damaged_kept, merged_kept, purged_kept}
use Rattle.ndc_laws_reached.proofs.arrival_laws.letters_keep_worlds_reached.Goals as goal

pub returns-clause-damaged : goal.returns-clause-damaged
returns-clause-damaged c = damaged_kept

pub returns-clause-merged : goal.returns-clause-merged
returns-clause-merged c = merged_kept

pub returns-clause-purged : goal.returns-clause-purged
returns-clause-purged c = purged_kept
