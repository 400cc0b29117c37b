use Rattle.ndc_laws.proofs.SettlesLemmas.{applying-settles}
use Rattle.ndc_laws.proofs.settlement_laws.a_writer_that_has_learned_all_settles_the_workflow.Goals as goal

pub returns : goal.returns
returns c = applying-settles
