use Rattle.std.proofs.Common.{◌≡◌, [], length}
use Rattle.ndc_model.specs.Again.{served_by_author}
use Rattle.ndc_resend.specs.Bringing.{asked_from}
use Rattle.ndc_world_replication.specs.Brought.{AreKeysOf}
use Rattle.ndc_world_replication.proofs.replication.Replication.ask_all.Given as goal

-- what asking for the gaps that are left brings, after what was brought, is what asking for all brings
abbrev pub invariant-loop-gap : goal.invariant-loop-gap
invariant-loop-gap g l =
    (asked_from (served_by_author l.header l.shard l.self) l.messages.items l.left.items ≡ asked_from (served_by_author l.header l.shard l.self) [] l.fn.gaps.items)
    × AreKeysOf l.messages.items l.keys

abbrev pub decreases-loop-gap : goal.decreases-loop-gap
decreases-loop-gap g l = length l.left.items
