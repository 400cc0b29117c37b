use Rattle.ndc_laws.proofs.ReachedLemmas.{worlds_promised}
use Rattle.ndc_laws.proofs.script_laws.every_world_of_a_script_is_as_promised.Goals as goal

pub returns : goal.returns
returns c = worlds_promised
