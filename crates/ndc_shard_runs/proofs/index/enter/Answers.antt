use Rattle.std.proofs.Common.{subst}
use Rattle.ndc_shard_runs.specs.Index.{AreIndexed}
use Rattle.ndc_shard_runs.proofs.IndexLemmas.{indexed-ok}
use Rattle.ndc_shard_runs.proofs.index.enter.Goals as goal

pub returns-in-Some-clause-ok : goal.returns-in-Some-clause-ok
returns-in-Some-clause-ok c =
    indexed-ok c.args.batch.now c.args.runs.now c.requires.fresh c.put.result c.in-Some.there c.put.new.self (subst (λ o. AreIndexed c.args.runs.now o) c.in-Some.is c.requires.indexed) c.put.ensures.ok
