use Rattle.ndc_resend.proofs.BringLemmas.{gap_is}
use Rattle.ndc_resend.proofs.laws.a_gap_begins_behind_what_is_learned.Goals as goal

pub returns : goal.returns
returns c = λ all author own answer w b is has. gap_is all author own answer w b is has
