use Rattle.ndc_laws.proofs.HeadlineLemmas.{origins-differ, states-replay}
use Rattle.ndc_laws.proofs.world_laws.states_replay_their_branches.Goals as goal

pub returns-clause-states : goal.returns-clause-states
returns-clause-states c = λ header lines w cluster domain workflow fit is known. states-replay header lines w fit is cluster known domain workflow

pub returns-clause-origins : goal.returns-clause-origins
returns-clause-origins c = λ header lines w cluster domain workflow fit is known. origins-differ header lines w fit is cluster known domain workflow
