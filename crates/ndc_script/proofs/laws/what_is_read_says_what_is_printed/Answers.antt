use Rattle.ndc_script.proofs.ReadText.{text-says}
use Rattle.ndc_script.proofs.laws.what_is_read_says_what_is_printed.Goals as goal

pub returns : goal.returns
returns c = text-says
