use Rattle.ndc_laws.proofs.ScriptLemmas.{nothing-in-script}
use Rattle.ndc_laws.proofs.ended_laws.in_a_script_nothing_more_is_written_with_an_ended_version.Goals as goal

pub returns : goal.returns
returns c = nothing-in-script
