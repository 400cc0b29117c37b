use Rattle.ndc_shard_runs.proofs.TipLemmas.{nil-last}
use Rattle.ndc_shard_runs.proofs.runs.Runs.is_empty.Goals as goal

pub returns : goal.returns
returns c = nil-last c.args.self.now c.last_key.result c.is_none.result c.is_none.ensures c.last_key.ensures.key
