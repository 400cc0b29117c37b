use Rattle.ndc_domain.proofs.Least.{next_is}
use Rattle.ndc_domain.proofs.cluster_laws.next_version_is_the_least.Goals as goal

pub returns : goal.returns
returns c = next_is
