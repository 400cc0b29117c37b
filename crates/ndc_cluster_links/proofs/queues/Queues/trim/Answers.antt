use Rattle.std.proofs.Common.{◌≡◌, ◌≤◌, ◌^◌, List, length, ap, sym, subst, ◌∙◌, arith}
use Rattle.std.proofs.lemmas.List.{length-set}
use Rattle.ndc_cluster_links.proofs.QueueLemmas.{all_at, len_same, len_trimmed, most_still}
use Rattle.ndc_cluster_links.proofs.RestLemmas.{queue_there}
use Rattle.ndc_cluster_links.specs.Rest.{queue_at}
use Rattle.ndc_queue.specs.Queues.{QueueValue, queue_len}
use Rattle.ndc_cluster_links.proofs.queues.Queues.trim.Goals as goal

pub invariant_of-self : goal.invariant_of-self
invariant_of-self c =
    let there : c.index_mut-queue.result.now ≡ queue_at c.args.self.now c.args.shard =
    queue_there c.self.inside.items.items c.args.shard c.index_mut-queue.result.now (omega (arith, ap length c.self.view_is)) c.index_mut-queue.ensures.value ∙ ap (λ (queues : List QueueValue). queue_at queues c.args.shard) c.self.view_is in
    let most : c.args.level ≤ queue_len c.index_mut-queue.result.now = subst (λ (queue : QueueValue). c.args.level ≤ queue_len queue) (sym there) c.requires.level in
    record {
      few = omega (arith, length-set c.self.inside.items.items c.args.shard c.trim.new.self, c.self.invariant.few);
      most = most_still c.self.inside.items.items c.args.shard c.trim.new.self (omega (
        arith,
        ap queue_len c.trim.ensures,
        len_trimmed c.args.level c.index_mut-queue.result.now most,
        all_at (λ (queue : QueueValue). queue_len queue ≤ 10 ^ 12) c.self.inside.items.items c.args.shard c.index_mut-queue.result.now (omega (arith, ap length c.self.view_is)) c.index_mut-queue.ensures.value c.self.invariant.most,
      )) c.self.invariant.most;
      written = c.self.invariant.written ∙ sym (len_same c.self.inside.items.items c.args.shard c.index_mut-queue.result.now c.trim.new.self c.index_mut-queue.ensures.value
          (ap queue_len c.trim.ensures ∙ len_trimmed c.args.level c.index_mut-queue.result.now most));
    }
