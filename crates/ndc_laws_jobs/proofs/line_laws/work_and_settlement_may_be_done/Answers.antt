use Rattle.ndc_laws_jobs.proofs.SettleLemmas.{settle_allowed, work_allowed}
use Rattle.ndc_laws_jobs.proofs.line_laws.work_and_settlement_may_be_done.Goals as goal

pub returns-clause-work : goal.returns-clause-work
returns-clause-work c = work_allowed

pub returns-clause-settlement : goal.returns-clause-settlement
returns-clause-settlement c = settle_allowed
