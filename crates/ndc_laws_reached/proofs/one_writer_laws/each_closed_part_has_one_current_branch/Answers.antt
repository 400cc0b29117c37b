use Rattle.ndc_laws_reached.proofs.OneWriterLemmas.{one_current}
use Rattle.ndc_laws_reached.proofs.one_writer_laws.each_closed_part_has_one_current_branch.Goals as goal

pub returns : goal.returns
returns c = one_current
