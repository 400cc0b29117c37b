use Rattle.std.proofs.Common.{◌≡◌, ◌++◌}
use Rattle.ndc_world_answers.specs.Tallies.{seen_by}
use Rattle.ndc_world_answers.proofs.tally.add_replies.Given as goal

-- what was added, with what is left, is the whole
abbrev pub invariant-loop-reply : goal.invariant-loop-reply
invariant-loop-reply l = l.seen.items ++ seen_by l.fn.cluster l.reply-iterator.rest.items ≡ l.fn.seen.items ++ seen_by l.fn.cluster l.fn.replies.items
