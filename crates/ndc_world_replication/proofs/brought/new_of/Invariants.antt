use Rattle.std.proofs.Common.{◌≡◌}
use Rattle.ndc_resend.specs.Bringing.{new_of, put_new}
use Rattle.ndc_world_replication.proofs.brought.new_of.Given as goal

-- what is left, put to what is there, is all of them put
abbrev pub invariant-loop-message : goal.invariant-loop-message
invariant-loop-message g l = put_new (g.C.Cell.cell l.cell) l.brought l.message-iterator.rest.items ≡ new_of (g.C.Cell.cell l.cell) l.fn.messages.items
