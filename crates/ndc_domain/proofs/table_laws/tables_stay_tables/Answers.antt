use Rattle.ndc_domain.proofs.ActiveLaws.{register_table, retain_table, failover_table, join_table}
use Rattle.ndc_domain.proofs.BothTables.{IsTable-merged}
use Rattle.ndc_domain.proofs.table_laws.tables_stay_tables.Goals as goal

pub returns-clause-registering : goal.returns-clause-registering
returns-clause-registering c = register_table

pub returns-clause-retaining : goal.returns-clause-retaining
returns-clause-retaining c = retain_table

pub returns-clause-failing_over : goal.returns-clause-failing_over
returns-clause-failing_over c = failover_table

pub returns-clause-joining : goal.returns-clause-joining
returns-clause-joining c = join_table

pub returns-clause-merging : goal.returns-clause-merging
returns-clause-merging c = IsTable-merged
