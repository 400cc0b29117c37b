use Rattle.ndc_laws.proofs.WorkLemmas.{work_line}
use Rattle.ndc_laws.proofs.work_laws.behind_work_nothing_is_left_to_do.Goals as goal

pub returns : goal.returns
returns c = work_line
