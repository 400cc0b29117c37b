use Rattle.ndc_laws_cells.proofs.WriteLaws.{resets_write}
use Rattle.ndc_laws_cells.proofs.write_laws.what_a_reset_writes_may_be_added.Goals as goal

pub returns : goal.returns
returns c = resets_write
