use Rattle.std.proofs.Common.{◌≡◌, ◌<◌, Some, length, slice_get, ap, sym, subst, ◌∙◌, arith}
use Rattle.ndc_cluster_links.proofs.QueueLemmas.{front_more, len_pushed}
use Rattle.ndc_cluster_links.specs.Rest.{IsFrontOf}
use Rattle.ndc_queue.specs.Queues.{QueueValue, queue_len}
use Rattle.ndc_cluster_links.proofs.queues.push_written.Goals as goal

pub loop-queue-preserved : goal.loop-queue-preserved
loop-queue-preserved g c =
    let below : queue_len c.loop-queue.queue < length (g.C.Cell.cell c.args.cell.now).written = omega (arith, c.loop-queue-test.true, c.len.ensures.len, c.written_len.ensures) in
    let got : slice_get (g.C.Cell.cell c.args.cell.now).written (queue_len c.loop-queue.queue) ≡ Some c.in_ok-message.message =
    ap (slice_get (g.C.Cell.cell c.args.cell.now).written) (sym c.len-in-loop-queue.ensures.len) ∙ c.in_ok-message.ensures in
    let front = front_more c.loop-queue.queue (g.C.Cell.cell c.args.cell.now).written c.in_ok-message.message below c.loop-queue.invariant.front got in
    record {
      front = subst (λ (queue : QueueValue). IsFrontOf queue (g.C.Cell.cell c.args.cell.now).written) (sym c.in_ok-push.ensures.pushed) front;
      first = ap (λ (queue : QueueValue). queue.first) c.in_ok-push.ensures.pushed ∙ c.loop-queue.invariant.first;
      grown = omega (arith, ap queue_len c.in_ok-push.ensures.pushed, len_pushed c.in_ok-message.message c.loop-queue.queue, c.loop-queue.invariant.grown);
    }
