use Rattle.ndc_shard.proofs.LoadLemmas.{loads}
use Rattle.ndc_shard.proofs.keeping_laws.a_cell_that_is_loaded_has_learned_the_same.Goals as goal

pub returns : goal.returns
returns c = loads
