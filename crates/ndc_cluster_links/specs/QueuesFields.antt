-- The fields of the queues of a source.
use Rattle.std.specs.Prelude.{◌≡◌, ◌≤◌, ◌^◌, length}
use Rattle.std.specs.List.{AllByRecursion, sum_by}
use Rattle.ndc_cluster_links.specs.declared.queues.Queues.TheInside.{Inside}
use Rattle.ndc_queue.specs.Queues.{queue_len}

-- there are at most 64 queues, of at most 10^12 entries each, and the count of entries is that of all queues
pub record IsQueuesInside (queues : Inside) : Type 0 where
  pub few : length queues.items.items ≤ 64
  pub most : AllByRecursion (λ queue. queue_len queue ≤ 10 ^ 12) queues.items.items
  pub written : queues.written ≡ sum_by queue_len queues.items.items
