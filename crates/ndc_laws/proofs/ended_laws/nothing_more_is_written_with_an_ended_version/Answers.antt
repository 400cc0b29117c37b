use Rattle.ndc_laws.proofs.EndedLemmas.{nothing-behind}
use Rattle.ndc_laws.proofs.ended_laws.nothing_more_is_written_with_an_ended_version.Goals as goal

pub returns : goal.returns
returns c = nothing-behind
