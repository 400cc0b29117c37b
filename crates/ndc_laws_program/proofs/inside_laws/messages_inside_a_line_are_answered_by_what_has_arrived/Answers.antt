use Rattle.ndc_laws_program.proofs.InsideLemmas.{inside-answered}
use Rattle.ndc_laws_program.proofs.inside_laws.messages_inside_a_line_are_answered_by_what_has_arrived.Goals as goal

pub returns : goal.returns
returns c = λ header lines w line sound fit few is. inside-answered header sound lines few w is line fit
