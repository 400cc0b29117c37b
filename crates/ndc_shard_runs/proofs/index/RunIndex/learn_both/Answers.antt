use Rattle.ndc_run.proofs.LearnLemmas.{taken_by_tree}
use Rattle.ndc_shard_runs.specs.RunMap.{batches_of, run_at}
use Rattle.ndc_shard_runs.proofs.index.RunIndex.learn_both.Goals as goal

pub try_learn_both-requires-clause-fits : goal.try_learn_both-requires-clause-fits
try_learn_both-requires-clause-fits g c =
    let b = c.args.batch.now in
    taken_by_tree b.run (batches_of (run_at b.run c.args.self.now)) b c.requires.fits
