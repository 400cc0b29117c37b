use Rattle.ndc_laws_jobs.proofs.LawLemmas.{reapply_may}
use Rattle.ndc_laws_jobs.proofs.ask_laws.strays_may_be_applied_again.Goals as goal

pub returns : goal.returns
returns c = reapply_may
