use Rattle.ndc_domain.proofs.MergeLaws.{merge_commutes, merge_associates}
use Rattle.ndc_domain.proofs.table_laws.merging_does_not_depend_on_order.Goals as goal

pub returns-clause-commutes : goal.returns-clause-commutes
returns-clause-commutes c = merge_commutes

pub returns-clause-associates : goal.returns-clause-associates
returns-clause-associates c = merge_associates
