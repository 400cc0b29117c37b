use Rattle.ndc_run.proofs.FactLemmas.{open_until_closed}
use Rattle.ndc_run.proofs.laws.a_run_is_open_until_closed.Goals as goal

pub returns : goal.returns
returns c = open_until_closed
