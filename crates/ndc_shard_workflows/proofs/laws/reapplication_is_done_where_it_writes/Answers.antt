use Rattle.ndc_shard_workflows.proofs.ListLemmas.{due-are, may-all, reapplied-all, written-all}
use Rattle.ndc_shard_workflows.proofs.laws.reapplication_is_done_where_it_writes.Goals as goal

pub returns-clause-due : goal.returns-clause-due
returns-clause-due c home list cell are = due-are home list cell are

pub returns-clause-cell : goal.returns-clause-cell
returns-clause-cell c home list cell order are = reapplied-all home list cell order are

pub returns-clause-batches : goal.returns-clause-batches
returns-clause-batches c home list cell order are = written-all home list cell order are

pub returns-clause-may : goal.returns-clause-may
returns-clause-may c home list cell order are may = may-all home list cell order are may
