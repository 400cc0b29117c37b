use Rattle.ndc_laws_jobs.proofs.StandLemmas.{line-left, lines-left}
use Rattle.ndc_laws_jobs.proofs.bare_laws.what_stands_for_a_world_does_the_same.Goals as goal

pub returns-clause-line : goal.returns-clause-line
returns-clause-line c = line-left

pub returns-clause-lines : goal.returns-clause-lines
returns-clause-lines c = lines-left
