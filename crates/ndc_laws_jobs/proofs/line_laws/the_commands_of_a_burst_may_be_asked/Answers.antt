use Rattle.ndc_laws_jobs.proofs.BurstLemmas.{burst_allowed}
use Rattle.ndc_laws_jobs.proofs.line_laws.the_commands_of_a_burst_may_be_asked.Goals as goal

pub returns : goal.returns
returns c = burst_allowed
