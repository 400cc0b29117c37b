use Rattle.ndc_laws_jobs.proofs.KeepLemmas.{line-keeps}
use Rattle.ndc_laws_jobs.proofs.bare_laws.other_lines_leave_reports.Goals as goal

pub returns : goal.returns
returns c = line-keeps
