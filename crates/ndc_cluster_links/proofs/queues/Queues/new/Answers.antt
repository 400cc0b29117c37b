use Rattle.std.proofs.Common.{◌≤◌, ◌^◌, length, sum_by, ap, sym, subst, ◌∙◌, arith}
use Rattle.std.specs.List.{AllByRecursion}
use Rattle.ndc_cluster_links.proofs.QueueLemmas.{most_new, written_new}
use Rattle.ndc_queue.specs.Queues.{QueueValue, queue_len}
use Rattle.ndc_cluster_links.proofs.queues.Queues.new.Goals as goal

pub invariant_of-result : goal.invariant_of-result
invariant_of-result c = record {
  few = omega arith;
  most = subst (AllByRecursion (λ (queue : QueueValue). queue_len queue ≤ 10 ^ 12)) (sym c.loop-alloc.invariant.0) (most_new (length c.loop-alloc.items.items));
  written = sym (ap (sum_by queue_len) c.loop-alloc.invariant.0 ∙ written_new (length c.loop-alloc.items.items));
}
