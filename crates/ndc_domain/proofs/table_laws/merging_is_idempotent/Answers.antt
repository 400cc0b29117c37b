use Rattle.ndc_domain.proofs.MergeLaws.{merge_idempotent}
use Rattle.ndc_domain.proofs.table_laws.merging_is_idempotent.Goals as goal

pub returns : goal.returns
returns c = merge_idempotent
