use Rattle.ndc_laws.proofs.HeldLemmas.{same-held}
use Rattle.ndc_laws.proofs.progress_laws.clusters_with_the_same_reports_hold_the_same.Goals as goal

pub returns : goal.returns
returns c = λ header lines w one two activity is first second same. same-held header lines w is one two activity first second same
