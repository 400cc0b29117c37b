use Rattle.ndc_laws_cells.proofs.WriteLaws.{strays_few}
use Rattle.ndc_laws_cells.proofs.write_laws.strays_are_no_more_than_original_signals.Goals as goal

pub returns : goal.returns
returns c = strays_few
