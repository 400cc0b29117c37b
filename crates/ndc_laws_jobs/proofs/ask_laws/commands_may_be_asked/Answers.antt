use Rattle.ndc_laws_jobs.proofs.LawLemmas.{command_may}
use Rattle.ndc_laws_jobs.proofs.ask_laws.commands_may_be_asked.Goals as goal

pub returns : goal.returns
returns c = command_may
