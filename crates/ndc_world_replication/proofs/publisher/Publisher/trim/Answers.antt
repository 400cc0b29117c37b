use Rattle.std.proofs.Common.{◌≡◌, map, max, set, slice_index_or, slice_set, refl, ap, sym, ◌∙◌}
use Rattle.std.proofs.Math.ListN.{get_or-map}
use Rattle.std.proofs.lemmas.List.{map-set}
use Rattle.ndc_cluster_links.specs.Rest.{queue_at}
use Rattle.ndc_queue.specs.Queues.{QueueValue, new_queue, trimmed}
use Rattle.ndc_world_replication.proofs.publisher.Publisher.trim.Goals as goal

pub returns-clause-trimmed : goal.returns-clause-trimmed
returns-clause-trimmed g c =
    let level : map (λ (queue : QueueValue). queue.first) c.trim.new.self
    ≡ slice_set (map (λ (queue : QueueValue). queue.first) c.self.inside.queues) c.args.shard (max (slice_index_or (map (λ (queue : QueueValue). queue.first) c.self.inside.queues) c.args.shard 0) c.args.level) =
    ap (map (λ (queue : QueueValue). queue.first)) c.trim.ensures.trimmed ∙ map-set (λ (queue : QueueValue). queue.first) c.self.inside.queues c.args.shard (trimmed c.args.level (queue_at c.self.inside.queues c.args.shard))
    ∙ ap (λ n. set (map (λ (queue : QueueValue). queue.first) c.self.inside.queues) c.args.shard (max n c.args.level)) (sym (get_or-map (λ (queue : QueueValue). queue.first) c.self.inside.queues c.args.shard new_queue)) in
    rw (← c.self.view_is, level) refl
