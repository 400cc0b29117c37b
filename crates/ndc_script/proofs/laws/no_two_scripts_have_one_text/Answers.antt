use Rattle.ndc_script.proofs.ReadText.{one-text}
use Rattle.ndc_script.proofs.laws.no_two_scripts_have_one_text.Goals as goal

pub returns : goal.returns
returns c = one-text
