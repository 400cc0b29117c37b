use Rattle.ndc_shard_runs.proofs.TipLemmas.{version-none, version-some}
use Rattle.ndc_shard_runs.proofs.runs.Runs.greatest_version.Goals as goal

pub returns-in-None : goal.returns-in-None
returns-in-None c = version-none c.args.self.now c.last_key.ensures.sound c.in-None.ensures.key

pub returns-in-Some : goal.returns-in-Some
returns-in-Some c = version-some c.args.self.now c.last_key.ensures.sound c.in-Some.key c.in-Some.ensures.key
