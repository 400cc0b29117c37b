use Rattle.ndc_run.proofs.FactLemmas.{path_origins}
use Rattle.ndc_run.proofs.laws.states_have_the_origins_of_their_paths.Goals as goal

pub returns : goal.returns
returns c = path_origins
