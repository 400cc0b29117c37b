use Rattle.std.proofs.Common.{◌∙◌, sym}
use Rattle.ndc_shard_runs.proofs.AdmitLemmas.{alone-copies, lone-carrier}
use Rattle.ndc_shard_runs.proofs.runs.Runs.admit_alone.Goals as goal

pub try_learn-requires-clause-copies : goal.try_learn-requires-clause-copies
try_learn-requires-clause-copies g c = λ taken.
    alone-copies c.args.self.now c.args.batch.now c.has_small_tasks.ensures.sound c.requires.next (sym c.in_ok-copies_fit_both_ways.ensures ∙ c.if-not-branch.false) taken

pub try_learn-requires-clause-carrier : goal.try_learn-requires-clause-carrier
try_learn-requires-clause-carrier g c = lone-carrier c.args.self.now c.args.batch.now c.requires.lone
