use Rattle.std.proofs.Common.{sym}
use Rattle.ndc_shard_runs.proofs.NamedLemmas.{none-open}
use Rattle.ndc_shard_runs.proofs.runs.Runs.open_copies_fit.Goals as goal

pub returns-then-is_named : goal.returns-then-is_named
returns-then-is_named c = sym (none-open c.args.self.now c.args.batch.now c.is_named.ensures.sound (c.is_named.ensures.named c.if-is_named.true))
