use Rattle.ndc_laws_reached.proofs.LaneLaws.{emptied_kept, lost_kept, moved_kept, repeated_kept}
use Rattle.ndc_laws_reached.proofs.lane_laws.faults_of_the_network_keep_worlds_reached.Goals as goal

pub returns-clause-lost : goal.returns-clause-lost
returns-clause-lost c = lost_kept

pub returns-clause-repeated : goal.returns-clause-repeated
returns-clause-repeated c = repeated_kept

pub returns-clause-moved : goal.returns-clause-moved
returns-clause-moved c = moved_kept

pub returns-clause-dropped : goal.returns-clause-dropped
returns-clause-dropped c = emptied_kept
