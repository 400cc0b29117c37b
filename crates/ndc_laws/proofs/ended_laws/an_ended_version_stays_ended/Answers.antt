use Rattle.ndc_laws.proofs.EndedLemmas.{ended-behind}
use Rattle.ndc_laws.proofs.ended_laws.an_ended_version_stays_ended.Goals as goal

pub returns : goal.returns
returns c = ended-behind
