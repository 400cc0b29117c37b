use Rattle.ndc_script.proofs.PrintedScript.{script_of-text}
use Rattle.ndc_script.proofs.laws.printed_scripts_are_read_again.Goals as goal

pub returns : goal.returns
returns c = script_of-text
