use Rattle.ndc_domain.proofs.CallLaws.{failover_raises}
use Rattle.ndc_domain.proofs.table_laws.failing_over_raises_the_version.Goals as goal

pub returns : goal.returns
returns c = failover_raises
