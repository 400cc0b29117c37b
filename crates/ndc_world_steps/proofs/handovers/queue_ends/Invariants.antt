use Rattle.std.proofs.Common.{◌≡◌, length, map}
use Rattle.std.specs.List.{range_with_len}
use Rattle.ndc_model.specs.World.{queue_at}
use Rattle.ndc_world_steps.proofs.handovers.queue_ends.Given as goal

abbrev pub invariant-loop-shard : goal.invariant-loop-shard
invariant-loop-shard g l = l.ends.items ≡ map (λ shard. length (queue_at l.fn.cluster shard l.fn.replication)) (range_with_len 0 l.shard)
