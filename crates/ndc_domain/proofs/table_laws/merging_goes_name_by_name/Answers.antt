use Rattle.ndc_domain.proofs.BothTables.{record_of-merged}
use Rattle.ndc_domain.proofs.table_laws.merging_goes_name_by_name.Goals as goal

pub returns : goal.returns
returns c = record_of-merged
