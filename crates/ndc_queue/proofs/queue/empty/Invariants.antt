use Rattle.std.proofs.Common.{◌≡◌, take, drop, length}
use Rattle.std.specs.List.{AllByRecursion}
use Rattle.ndc_queue.specs.Queues.{IsEmptied}
use Rattle.ndc_queue.proofs.queue.empty.Given as goal

abbrev pub invariant-loop-place : goal.invariant-loop-place
invariant-loop-place l =
    (AllByRecursion IsEmptied (take l.from l.fn.entries.items) → AllByRecursion IsEmptied (take l.place l.entries.items))
    × (drop l.to l.entries.items ≡ drop l.to l.fn.entries.items)
    × (length l.entries.items ≡ length l.fn.entries.items)
