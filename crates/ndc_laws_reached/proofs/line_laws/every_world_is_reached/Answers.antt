use Rattle.ndc_laws_reached.proofs.ScriptLemmas.{worlds_kept}
use Rattle.ndc_laws_reached.proofs.line_laws.every_world_is_reached.Goals as goal

pub returns : goal.returns
returns c = worlds_kept
