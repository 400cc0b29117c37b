use Rattle.ndc_laws_reached.proofs.ReachedLemmas.{line_reached}
use Rattle.ndc_laws.proofs.script_laws.every_line_keeps_worlds_reached.Goals as goal

pub returns : goal.returns
returns c = line_reached
