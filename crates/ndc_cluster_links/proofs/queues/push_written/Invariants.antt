use Rattle.std.proofs.Common.{◌≡◌, ◌≤◌, ◌-◌, length}
use Rattle.ndc_cluster_links.specs.Rest.{IsFrontOf}
use Rattle.ndc_queue.specs.Queues.{queue_len}
use Rattle.ndc_cluster_links.proofs.queues.push_written.Given as goal

abbrev pub invariant-loop-queue : goal.invariant-loop-queue
invariant-loop-queue g l = record {
  front : IsFrontOf l.queue (g.C.Cell.cell l.cell).written;
  first : l.queue.first ≡ l.initial.queue.first;
  grown : queue_len l.initial.queue ≤ queue_len l.queue;
}

abbrev pub decreases-loop-queue : goal.decreases-loop-queue
decreases-loop-queue g l = length (g.C.Cell.cell l.cell).written - queue_len l.queue
