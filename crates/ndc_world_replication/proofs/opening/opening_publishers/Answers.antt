use Rattle.ndc_world_replication.specs.Replications.{opening_publisher}
use Rattle.ndc_world_replication.proofs.AlikeLemmas.{one_more_alike}
use Rattle.ndc_world_replication.proofs.opening.opening_publishers.Goals as goal

pub loop-cluster-preserved : goal.loop-cluster-preserved
loop-cluster-preserved g c =
    one_more_alike (opening_publisher c.args.header.now.shards) c.in_ok-new.field-0 c.loop-cluster.publishers.items c.push.new.self.items c.args.clusters.now c.loop-cluster.cluster-index
    c.loop-cluster-test.true c.in_ok-push.ensures.items c.in_ok-new.ensures c.loop-cluster.invariant
