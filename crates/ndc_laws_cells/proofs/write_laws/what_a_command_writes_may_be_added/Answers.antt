use Rattle.ndc_laws_cells.proofs.WriteLaws.{commands_write}
use Rattle.ndc_laws_cells.proofs.write_laws.what_a_command_writes_may_be_added.Goals as goal

pub returns : goal.returns
returns c = commands_write
