use Rattle.ndc_laws_jobs.proofs.BareStepLemmas.{line-bare}
use Rattle.ndc_laws_jobs.proofs.bare_laws.other_lines_do_not_look_at_reports.Goals as goal

pub returns : goal.returns
returns c = line-bare
