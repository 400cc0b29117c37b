use Rattle.ndc_domain.proofs.Writers.{rest_of_writer, writer_of_rest}
use Rattle.ndc_domain.proofs.cluster_laws.versions_have_one_writer.Goals as goal

pub returns-clause-rest : goal.returns-clause-rest
returns-clause-rest c = rest_of_writer

pub returns-clause-writer : goal.returns-clause-writer
returns-clause-writer c = writer_of_rest
