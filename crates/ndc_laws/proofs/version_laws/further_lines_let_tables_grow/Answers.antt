use Rattle.ndc_laws.proofs.EndedLemmas.{lines-grow}
use Rattle.ndc_laws.proofs.version_laws.further_lines_let_tables_grow.Goals as goal

pub returns : goal.returns
returns c = lines-grow
