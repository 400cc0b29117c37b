use Rattle.std.proofs.Common.{length, ◌+◌, arith}
use Rattle.ndc_run.proofs.LearnLemmas.{counts-both}
use Rattle.ndc_run.proofs.run.Run.take_in.Goals as goal

pub returns-clause-most_steps : goal.returns-clause-most_steps
returns-clause-most_steps g c =
    counts-both c.args.steps.now c.branch_at.new.steps c.extend_beside.new.steps 511 (length c.args.batch.now.events) (length c.args.batch.now.events + 511) (omega arith) c.branch_at.ensures.steps c.extend_beside.ensures.most_steps
