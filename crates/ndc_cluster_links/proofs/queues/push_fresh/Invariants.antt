use Rattle.std.proofs.Common.{◌≡◌, ◌≤◌, drop}
use Rattle.ndc_cluster_links.specs.Rest.{IsFrontOf}
use Rattle.ndc_queue.specs.Queues.{queue_len}
use Rattle.ndc_cluster_links.proofs.queues.push_fresh.Given as goal

abbrev pub invariant-loop-message : goal.invariant-loop-message
invariant-loop-message g l = record {
  front : IsFrontOf l.queue (g.C.Cell.cell l.cell).written;
  first : l.queue.first ≡ l.initial.queue.first;
  grown : queue_len l.initial.queue ≤ queue_len l.queue;
  fresh : l.message-iterator.rest.items ≡ drop (queue_len l.queue) (g.C.Cell.cell l.cell).written;
}
