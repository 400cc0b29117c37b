use Rattle.ndc_laws.proofs.ReachedLemmas.{world-promised}
use Rattle.ndc_laws.proofs.script_laws.every_world_that_lines_lead_to_is_as_promised.Goals as goal

pub returns : goal.returns
returns c = world-promised
