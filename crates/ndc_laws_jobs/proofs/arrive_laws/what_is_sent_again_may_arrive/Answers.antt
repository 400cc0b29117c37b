use Rattle.ndc_laws_jobs.proofs.ComeLemmas.{again_allowed}
use Rattle.ndc_laws_jobs.proofs.LawLemmas.{late_may, letters_may}
use Rattle.ndc_laws_jobs.proofs.arrive_laws.what_is_sent_again_may_arrive.Goals as goal

pub returns-clause-resent : goal.returns-clause-resent
returns-clause-resent c = again_allowed

pub returns-clause-late : goal.returns-clause-late
returns-clause-late c = late_may

pub returns-clause-letters : goal.returns-clause-letters
returns-clause-letters c = letters_may
