use Rattle.ndc_domain.proofs.MergeLaws.{merge_keeps_ours, merge_keeps_theirs}
use Rattle.ndc_domain.proofs.table_laws.merging_loses_nothing.Goals as goal

pub returns-clause-ours : goal.returns-clause-ours
returns-clause-ours c = merge_keeps_ours

pub returns-clause-theirs : goal.returns-clause-theirs
returns-clause-theirs c = merge_keeps_theirs
