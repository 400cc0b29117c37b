use Rattle.ndc_laws_jobs.proofs.LawLemmas.{message_may}
use Rattle.ndc_laws_jobs.proofs.arrive_laws.a_message_of_what_was_written_may_arrive.Goals as goal

pub returns : goal.returns
returns c = message_may
