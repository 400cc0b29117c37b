use Rattle.std.proofs.Common.{length, set, ap, arith}
use Rattle.std.proofs.lemmas.List.{length-set}
use Rattle.ndc_cluster_links.proofs.QueueLemmas.{len_grown, most_still, most_written}
use Rattle.ndc_cluster_links.proofs.queues.Queues.extend.Goals as goal

pub overflow_add-self : goal.overflow_add-self
overflow_add-self g c =
    let items = c.self.inside.items.items in
    let new = c.push_all-pushed.new.queue in
    let sum = len_grown items c.args.shard c.self.inside.written c.index_mut-queue.result.now new (omega (arith, ap length c.self.view_is)) c.index_mut-queue.ensures.value c.push_all-pushed.ensures.grown c.self.invariant.written in
    let most = most_written (set items c.args.shard new) (most_still items c.args.shard new (omega (arith, c.len.ensures.len, c.len.ensures.most)) c.self.invariant.most) in
    omega (arith, sum, most, length-set items c.args.shard new, c.self.invariant.few, c.len.ensures.len, c.len-before.ensures.len)
