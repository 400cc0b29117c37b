use Rattle.std.proofs.Common.{◌≡◌, ◌++◌, drop, map}
use Rattle.ndc_world_replication.specs.Replications.{opening_publisher}
use Rattle.ndc_world_replication.proofs.opening.opening_publishers.Given as goal

abbrev pub invariant-loop-cluster : goal.invariant-loop-cluster
invariant-loop-cluster g l = l.publishers.items ++ map (λ _. opening_publisher l.header.shards) (drop l.cluster-index l.clusters) ≡ map (λ _. opening_publisher l.header.shards) l.clusters
