use Rattle.ndc_laws_reached.proofs.ArrivalLaws.{bootstrapped_kept}
use Rattle.ndc_laws_reached.proofs.arrival_laws.bootstraps_keep_worlds_reached.Goals as goal

pub returns : goal.returns
returns c = bootstrapped_kept
