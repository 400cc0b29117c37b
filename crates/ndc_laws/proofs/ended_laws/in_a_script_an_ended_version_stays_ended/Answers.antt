use Rattle.ndc_laws.proofs.ScriptLemmas.{ended-in-script}
use Rattle.ndc_laws.proofs.ended_laws.in_a_script_an_ended_version_stays_ended.Goals as goal

pub returns : goal.returns
returns c = ended-in-script
