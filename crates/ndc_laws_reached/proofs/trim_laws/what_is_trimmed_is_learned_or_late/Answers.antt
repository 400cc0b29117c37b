use Rattle.ndc_laws_reached.proofs.TrimmedLemmas.{trimmed_fit}
use Rattle.ndc_laws_reached.proofs.trim_laws.what_is_trimmed_is_learned_or_late.Goals as goal

pub returns : goal.returns
returns c = trimmed_fit
