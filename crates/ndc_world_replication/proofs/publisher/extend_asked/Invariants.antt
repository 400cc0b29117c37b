use Rattle.std.proofs.Common.{◌≡◌, drop, length, map}
use Rattle.ndc_model_cells.specs.Jobs.{cell_for}
use Rattle.ndc_cluster_links.specs.Rest.{AreFronts}
use Rattle.ndc_queue.specs.Queues.{QueueValue}
use Rattle.ndc_world_replication.specs.Publishers.{AreRestsBut}
use Rattle.ndc_world_replication.proofs.publisher.extend_asked.Given as goal

abbrev pub invariant-loop-asked : goal.invariant-loop-asked
invariant-loop-asked g l = record {
  len : length l.queues ≡ length l.initial.queues;
  first : map (λ (queue : QueueValue). queue.first) l.queues ≡ map (λ (queue : QueueValue). queue.first) l.initial.queues;
  fronts : AreFronts l.queues (λ shard. (cell_for shard (map g.C.Cell.cell l.cells)).written);
  others : AreRestsBut (drop l.asked-index l.jobs) l.queues (λ shard. (cell_for shard (map g.C.Cell.cell l.cells)).written);
}
