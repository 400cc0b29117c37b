use Rattle.ndc_laws.proofs.ReachedLemmas.{worlds_reached}
use Rattle.ndc_laws.proofs.script_laws.every_world_of_a_script_is_reached.Goals as goal

pub returns : goal.returns
returns c = worlds_reached
