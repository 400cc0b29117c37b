use Rattle.ndc_domain.proofs.ActiveLaws.{register_names, retain_names, failover_names, join_names, merge_names}
use Rattle.ndc_domain.proofs.table_laws.records_keep_naming_their_active_cluster.Goals as goal

pub returns-clause-registering : goal.returns-clause-registering
returns-clause-registering c = register_names

pub returns-clause-retaining : goal.returns-clause-retaining
returns-clause-retaining c = retain_names

pub returns-clause-failing_over : goal.returns-clause-failing_over
returns-clause-failing_over c = failover_names

pub returns-clause-joining : goal.returns-clause-joining
returns-clause-joining c = join_names

pub returns-clause-merging : goal.returns-clause-merging
returns-clause-merging c = merge_names
