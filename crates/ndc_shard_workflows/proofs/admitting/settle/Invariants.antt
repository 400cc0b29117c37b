use Rattle.std.proofs.Common.{◌≡◌, []}
use Rattle.ndc_shard_waiting.specs.Waiting.{freed, still_put_off}
use Rattle.ndc_shard_workflows.specs.Admitting.{settled}
use Rattle.ndc_shard_workflows.specs.Settling.{CanSettle}
use Rattle.ndc_shard_workflows.proofs.admitting.settle.Given as goal

-- those that are left can be gone over, and after them stands what stands after all
abbrev pub invariant-loop-sent : goal.invariant-loop-sent
invariant-loop-sent g l =
    CanSettle l.runs l.waiting l.sent-iterator.rest.items
    × (settled l.sent-iterator.rest.items (record { known = l.runs; waiting = l.waiting; learned = l.done.learned.items; aside = l.done.aside.items })
    ≡ settled (freed l.fn.message l.fn.waiting) (record { known = l.fn.runs; waiting = still_put_off l.fn.message l.fn.waiting; learned = []; aside = [] }))
