use Rattle.ndc_laws_jobs.proofs.LawLemmas.{reset_may}
use Rattle.ndc_laws_jobs.proofs.ask_laws.resets_may_be_asked.Goals as goal

pub returns : goal.returns
returns c = reset_may
