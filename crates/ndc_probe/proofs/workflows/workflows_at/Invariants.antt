use Rattle.std.proofs.Common.{◌≡◌}
use Rattle.std.specs.List.{flat_map, range_with_len}
use Rattle.ndc_probe.specs.Workflows.{workflows_in}
use Rattle.ndc_probe.proofs.workflows.workflows_at.Given as goal

-- the workflows in the shards so far
abbrev pub invariant-loop-shard : goal.invariant-loop-shard
invariant-loop-shard l = l.names.items ≡ flat_map (workflows_in l.cluster l.domain l.world.world) (range_with_len 0 l.shard)
