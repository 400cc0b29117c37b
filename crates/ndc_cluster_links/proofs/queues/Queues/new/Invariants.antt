use Rattle.std.proofs.Common.{◌≡◌, ◌≤◌, ◌-◌, length, replicate}
use Rattle.ndc_queue.specs.Queues.{new_queue}
use Rattle.ndc_cluster_links.proofs.queues.Queues.new.Given as goal

abbrev pub invariant-loop-alloc : goal.invariant-loop-alloc
invariant-loop-alloc l = (l.items.items ≡ replicate (length l.items.items) new_queue) × (length l.items.items ≤ l.shards)

abbrev pub decreases-loop-alloc : goal.decreases-loop-alloc
decreases-loop-alloc l = l.shards - length l.items.items
