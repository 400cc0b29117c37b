use Rattle.std.proofs.Common.{◌∙◌, sym}
use Rattle.ndc_shard_runs.proofs.AdmitLemmas.{alone-copies, first-taken, lone-carrier, runs-apart, second-begins, second-carrier, second-copies, second-next}
use Rattle.ndc_shard_runs.specs.RunMap.{part_of}
use Rattle.ndc_shard_runs.proofs.runs.Runs.admit_both.Goals as goal

pub try_learn_both-requires-clause-copies : goal.try_learn_both-requires-clause-copies
try_learn_both-requires-clause-copies g c = λ taken.
    let known = c.args.self.now in
    let b = c.args.batch.now in
    alone-copies known b c.has_small_tasks.ensures.sound c.requires.next (sym c.in_ok-copies_fit_both_ways.ensures ∙ c.if-not-branch.false)
    (first-taken (part_of b.run known) b c.args.second.now taken)

pub try_learn_both-requires-clause-carrier : goal.try_learn_both-requires-clause-carrier
try_learn_both-requires-clause-carrier g c = lone-carrier c.args.self.now c.args.batch.now c.requires.lone

pub try_learn_both-requires-clause-second_next : goal.try_learn_both-requires-clause-second_next
try_learn_both-requires-clause-second_next g c = second-next c.args.self.now c.args.batch.now c.args.second.now c.has_small_tasks.ensures.sound c.requires.next c.requires.second

pub try_learn_both-requires-clause-second_copies : goal.try_learn_both-requires-clause-second_copies
try_learn_both-requires-clause-second_copies g c = λ taken.
    second-copies c.args.self.now c.args.batch.now c.args.second.now c.has_small_tasks.ensures.sound c.requires.next c.requires.second
    (runs-apart c.args.second.now.run c.args.batch.now.run c.if-second-batch.false) c.has_small_tasks.ensures.learned c.has_small_tasks.ensures.own
    (sym c.in_ok-second_copies_fit.ensures ∙ c.if-not-branch-2.false)

pub try_learn_both-requires-clause-second_carrier : goal.try_learn_both-requires-clause-second_carrier
try_learn_both-requires-clause-second_carrier g c =
    second-carrier c.args.self.now c.args.batch.now c.args.second.now c.has_small_tasks.ensures.sound c.requires.next c.requires.second
    (runs-apart c.args.second.now.run c.args.batch.now.run c.if-second-batch.false) c.has_small_tasks.ensures.learned c.has_small_tasks.ensures.own
    (sym c.is_carrying_fit.ensures ∙ c.if-not-is_carrying_fit.false)

pub try_learn_both-requires-clause-begins : goal.try_learn_both-requires-clause-begins
try_learn_both-requires-clause-begins g c =
    second-begins c.args.self.now c.args.batch.now c.args.second.now c.has_small_tasks.ensures.sound c.requires.next c.requires.second
    (runs-apart c.args.second.now.run c.args.batch.now.run c.if-second-batch.false) c.has_small_tasks.ensures.learned c.has_small_tasks.ensures.own
