use Rattle.ndc_laws.proofs.SyncLemmas.{same-taken}
use Rattle.ndc_laws.proofs.progress_laws.reports_are_taken_over_in_any_order.Goals as goal

pub returns : goal.returns
returns c = λ header lines w to one two activity is known first second same. same-taken header lines w is to known one two activity first second same
