use Rattle.ndc_laws.proofs.HeadlineLemmas.{compares-same}
use Rattle.ndc_laws.proofs.world_laws.compare_answers_same_exactly_where_the_same_is_learned.Goals as goal

pub returns : goal.returns
returns c = λ header lines w one two domain workflow fit is first second. compares-same header lines w fit is one two domain workflow first second
