use Rattle.ndc_model.proofs.FairLemmas.{opening_reached}
use Rattle.ndc_model.proofs.fair_laws.the_opening_world_is_fair.Goals as goal

pub returns : goal.returns
returns c = opening_reached
