use Rattle.ndc_text.proofs.Exact.{no_front}
use Rattle.ndc_text.proofs.laws.no_text_goes_on.Goals as goal

pub returns : goal.returns
returns c = no_front
