use Rattle.std.proofs.Common.{◌≡◌, ◌<◌, ◌≤◌, ℕ, drop, length, map}
use Rattle.ndc_model_cells.specs.Jobs.{cell_for}
use Rattle.ndc_cluster_links.specs.Rest.{AreFronts, IsRestOf, queue_at}
use Rattle.ndc_cluster.specs.Rounds.{AreFresh}
use Rattle.ndc_queue.specs.Queues.{QueueValue}
use Rattle.ndc_world_replication.proofs.publisher.extend_all.Given as goal

abbrev pub invariant-loop-one : goal.invariant-loop-one
invariant-loop-one g l = record {
  len : length l.queues ≡ length l.initial.queues;
  first : map (λ (queue : QueueValue). queue.first) l.queues ≡ map (λ (queue : QueueValue). queue.first) l.initial.queues;
  most : l.shard ≤ length l.cells;
  fresh : AreFresh l.one-iterator.rest.items (drop l.shard (map g.C.Cell.cell l.cells));
  fronts : AreFronts l.queues (λ shard. (cell_for shard (map g.C.Cell.cell l.cells)).written);
  rests : (k : ℕ) → k < l.shard → IsRestOf (queue_at l.queues k) (cell_for k (map g.C.Cell.cell l.cells)).written;
}
