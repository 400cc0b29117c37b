use Rattle.ndc_laws_cells.proofs.WriteLaws.{reapplication_writes}
use Rattle.ndc_laws_cells.proofs.write_laws.what_a_reapplication_writes_may_be_added.Goals as goal

pub returns : goal.returns
returns c = reapplication_writes
