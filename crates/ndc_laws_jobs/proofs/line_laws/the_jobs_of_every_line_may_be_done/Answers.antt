use Rattle.ndc_laws_jobs.proofs.LineLemmas.{line_allowed}
use Rattle.ndc_laws_jobs.proofs.line_laws.the_jobs_of_every_line_may_be_done.Goals as goal

pub returns : goal.returns
returns c = line_allowed
