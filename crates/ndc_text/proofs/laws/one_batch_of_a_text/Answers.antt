use Rattle.ndc_text.proofs.Exact.{one_batch}
use Rattle.ndc_text.proofs.laws.one_batch_of_a_text.Goals as goal

pub returns : goal.returns
returns c = one_batch
