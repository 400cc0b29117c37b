use Rattle.ndc_resend.proofs.GapLaws.{begins_behind}
use Rattle.ndc_resend.proofs.laws.a_gap_begins_behind_the_last_learned_ancestor.Goals as goal

pub returns : goal.returns
returns c = begins_behind
