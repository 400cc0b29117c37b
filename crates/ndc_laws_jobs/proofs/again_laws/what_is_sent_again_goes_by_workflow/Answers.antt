use Rattle.ndc_laws_jobs.proofs.AgainLemmas.{sent-by-workflow}
use Rattle.ndc_laws_jobs.proofs.again_laws.what_is_sent_again_goes_by_workflow.Goals as goal

pub returns : goal.returns
returns c = λ header lines reader w shard known is below. sent-by-workflow header lines w is shard below reader known
