use Rattle.ndc_laws_reached.proofs.ArrivalLaws.{resent_kept}
use Rattle.ndc_laws_reached.proofs.arrival_laws.resending_keeps_worlds_reached.Goals as goal

pub returns : goal.returns
returns c = resent_kept
