use Rattle.ndc_laws_reached.proofs.LineLemmas.{line_kept}
use Rattle.ndc_laws_reached.proofs.line_laws.every_line_keeps_worlds_reached.Goals as goal

pub returns : goal.returns
returns c = line_kept
