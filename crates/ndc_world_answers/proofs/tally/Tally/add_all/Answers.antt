use Rattle.std.proofs.Common.{sym, ◌∙◌, arith}
use Rattle.ndc_world_answers.proofs.TallyLemmas.{none-left}
use Rattle.ndc_world_answers.proofs.tally.Tally.add_all.Goals as goal

-- a job without a reply counts for nothing
pub returns-then-replies-place : goal.returns-then-replies-place
returns-then-replies-place c =
    sym (none-left c.args.jobs.now c.args.replies.now c.loop-place.place c.loop-place.self (omega arith)) ∙ c.loop-place.invariant
