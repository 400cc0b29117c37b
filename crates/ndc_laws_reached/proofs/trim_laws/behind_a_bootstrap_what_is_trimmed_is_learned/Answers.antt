use Rattle.ndc_laws_reached.proofs.TrimmedLemmas.{bootstrapped_fit}
use Rattle.ndc_laws_reached.proofs.trim_laws.behind_a_bootstrap_what_is_trimmed_is_learned.Goals as goal

pub returns : goal.returns
returns c = bootstrapped_fit
