use Rattle.ndc_text.proofs.Exact.{carried_again}
use Rattle.ndc_text.proofs.laws.carrier_is_extra_without_carriers.Goals as goal

pub returns : goal.returns
returns c = carried_again
