use Rattle.ndc_domain.proofs.CallLaws.{record_of-put}
use Rattle.ndc_domain.proofs.table_laws.putting_changes_one_record.Goals as goal

pub returns : goal.returns
returns c = record_of-put
