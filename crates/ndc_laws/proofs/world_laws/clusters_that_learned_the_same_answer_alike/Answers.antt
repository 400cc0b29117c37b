use Rattle.ndc_laws.proofs.HeadlineLemmas.{answers-alike}
use Rattle.ndc_laws.proofs.world_laws.clusters_that_learned_the_same_answer_alike.Goals as goal

pub returns : goal.returns
returns c = λ header lines w one two domain workflow fit is first second. answers-alike header lines w fit is one two domain workflow first second
