use Rattle.ndc_shard_runs.proofs.LawProofs.{strays_behind}
use Rattle.ndc_shard_runs.proofs.laws.a_batch_that_follows_settles_its_origins_alone.Goals as goal

pub returns : goal.returns
returns c = strays_behind
