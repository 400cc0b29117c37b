use Rattle.ndc_laws_jobs.proofs.ReachedLemmas.{bare-reached}
use Rattle.ndc_laws_jobs.proofs.bare_laws.worlds_stay_reached_without_reports.Goals as goal

pub returns : goal.returns
returns c = bare-reached
