use Rattle.ndc_laws_jobs.proofs.StandLemmas.{beat-left, progress-left, sync-left}
use Rattle.ndc_laws_jobs.proofs.bare_laws.the_greatest_reports_are_enough.Goals as goal

pub returns-clause-told : goal.returns-clause-told
returns-clause-told c = beat-left

pub returns-clause-shown : goal.returns-clause-shown
returns-clause-shown c = progress-left

pub returns-clause-taken_over : goal.returns-clause-taken_over
returns-clause-taken_over c = sync-left
