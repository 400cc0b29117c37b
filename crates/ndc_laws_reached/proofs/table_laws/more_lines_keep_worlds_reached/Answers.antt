use Rattle.ndc_laws_reached.proofs.PutLemmas.{lines_pass}
use Rattle.ndc_laws_reached.proofs.table_laws.more_lines_keep_worlds_reached.Goals as goal

pub returns : goal.returns
returns c = lines_pass
