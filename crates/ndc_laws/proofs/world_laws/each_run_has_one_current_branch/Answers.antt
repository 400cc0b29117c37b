use Rattle.ndc_laws.proofs.HeadlineLemmas.{each-current, tips-differ}
use Rattle.ndc_laws.proofs.world_laws.each_run_has_one_current_branch.Goals as goal

pub returns-clause-current : goal.returns-clause-current
returns-clause-current c = λ header lines w cluster domain workflow fit is known. each-current header lines w fit is cluster known domain workflow

pub returns-clause-tips : goal.returns-clause-tips
returns-clause-tips c = λ header lines w cluster domain workflow fit is known. tips-differ header lines w fit is cluster known domain workflow
