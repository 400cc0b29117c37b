use Rattle.std.proofs.Common.{◌≡◌, ◌++◌}
use Rattle.ndc_world_replication.specs.Brought.{AreKeysOf}
use Rattle.ndc_world_replication.proofs.brought.add_all.Given as goal

-- what is left goes after what is there
abbrev pub invariant-loop-message : goal.invariant-loop-message
invariant-loop-message l =
    (l.messages.items ++ l.message-iterator.rest.items ≡ l.initial.messages.items ++ l.fn.more.items) × (AreKeysOf l.initial.messages.items l.initial.keys → AreKeysOf l.messages.items l.keys)
