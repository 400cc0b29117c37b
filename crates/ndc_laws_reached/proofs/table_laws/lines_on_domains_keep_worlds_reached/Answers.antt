use Rattle.ndc_laws_reached.proofs.DomainLineLemmas.{failover_kept, join_kept, register_kept, retain_kept}
use Rattle.ndc_laws_reached.proofs.MergeLemmas.{domains_kept}
use Rattle.ndc_laws_reached.proofs.table_laws.lines_on_domains_keep_worlds_reached.Goals as goal

pub returns-clause-registered : goal.returns-clause-registered
returns-clause-registered c = register_kept

pub returns-clause-retained : goal.returns-clause-retained
returns-clause-retained c = retain_kept

pub returns-clause-joined : goal.returns-clause-joined
returns-clause-joined c = join_kept

pub returns-clause-failed_over : goal.returns-clause-failed_over
returns-clause-failed_over c = failover_kept

pub returns-clause-merged : goal.returns-clause-merged
returns-clause-merged c = domains_kept
