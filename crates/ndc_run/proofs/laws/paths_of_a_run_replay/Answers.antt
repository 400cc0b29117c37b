use Rattle.ndc_run.proofs.FactLemmas.{chains, replays}
use Rattle.ndc_run.proofs.laws.paths_of_a_run_replay.Goals as goal

pub returns-clause-chains : goal.returns-clause-chains
returns-clause-chains c = chains

pub returns-clause-replays : goal.returns-clause-replays
returns-clause-replays c = replays
