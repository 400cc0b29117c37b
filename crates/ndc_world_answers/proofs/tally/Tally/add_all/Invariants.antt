use Rattle.std.proofs.Common.{◌≡◌, drop}
use Rattle.ndc_world_answers.specs.Tallies.{with_replies}
use Rattle.ndc_world_answers.proofs.tally.Tally.add_all.Given as goal

-- the counts so far, with those of what is left, are those of all
abbrev pub invariant-loop-place : goal.invariant-loop-place
invariant-loop-place l = with_replies (drop l.place l.jobs) (drop l.place l.replies) l.self ≡ with_replies l.jobs l.replies l.fn.self
