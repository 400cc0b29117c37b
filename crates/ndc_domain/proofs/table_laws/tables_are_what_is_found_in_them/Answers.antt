use Rattle.ndc_domain.proofs.MergeLaws.{same_by_finding}
use Rattle.ndc_domain.proofs.table_laws.tables_are_what_is_found_in_them.Goals as goal

pub returns : goal.returns
returns c = same_by_finding
