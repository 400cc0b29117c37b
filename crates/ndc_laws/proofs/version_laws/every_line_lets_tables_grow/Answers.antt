use Rattle.ndc_laws.proofs.LineLemmas.{line-grows}
use Rattle.ndc_laws.proofs.version_laws.every_line_lets_tables_grow.Goals as goal

pub returns : goal.returns
returns c = line-grows
