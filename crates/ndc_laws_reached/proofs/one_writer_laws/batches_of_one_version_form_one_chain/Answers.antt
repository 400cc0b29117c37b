use Rattle.ndc_laws_reached.proofs.OneWriterLemmas.{one_chain}
use Rattle.ndc_laws_reached.proofs.one_writer_laws.batches_of_one_version_form_one_chain.Goals as goal

pub returns : goal.returns
returns c = one_chain
