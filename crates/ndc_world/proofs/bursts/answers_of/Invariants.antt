use Rattle.std.proofs.Common.{◌≡◌, ◌++◌, drop}
use Rattle.ndc_world.specs.Bursts.{burst_text}
use Rattle.ndc_world.proofs.bursts.answers_of.Given as goal

abbrev pub invariant-loop-place : goal.invariant-loop-place
invariant-loop-place l = l.text.items ++ burst_text (drop l.place l.burst) (drop l.place l.replies) ≡ burst_text l.burst l.replies
