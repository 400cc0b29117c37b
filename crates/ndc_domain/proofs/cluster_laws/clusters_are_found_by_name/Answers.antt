use Rattle.ndc_domain.proofs.Writers.{name_of_found, found_by_name}
use Rattle.ndc_domain.proofs.cluster_laws.clusters_are_found_by_name.Goals as goal

pub returns-clause-name : goal.returns-clause-name
returns-clause-name c = name_of_found

pub returns-clause-found : goal.returns-clause-found
returns-clause-found c = found_by_name
