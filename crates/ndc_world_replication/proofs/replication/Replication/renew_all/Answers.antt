use Rattle.std.proofs.Common.{sym, subst, ap, ◌∙◌, arith}
use Rattle.std.specs.List.{fold}
use Rattle.ndc_model.specs.Moves.{renewed}
use Rattle.ndc_world_replication.proofs.OrderlyLemmas.{orderly_renewed}
use Rattle.ndc_world_replication.proofs.TraceLemmas.{cluster_in, step_all, step_more, nth_cluster}
use Rattle.ndc_world_replication.specs.Orderly.{IsOrderly}
use Rattle.ndc_world_replication.proofs.replication.Replication.renew_all.Goals as goal

pub renew-requires-clause-reader : goal.renew-requires-clause-reader
renew-requires-clause-reader g c = cluster_in c.args.header.now c.args.clusters.now c.loop-cluster.cluster-index c.requires.clusters c.loop-cluster-test.true

pub loop-cluster-preserved : goal.loop-cluster-preserved
loop-cluster-preserved g c = record {
  orderly = subst (IsOrderly c.args.header.now) (sym c.renew.ensures) (orderly_renewed c.args.header.now c.loop-cluster.self c.loop-cluster.invariant.orderly (nth_cluster c.args.clusters.now c.loop-cluster.cluster-index));
  renewed = step_more renewed c.loop-cluster.self c.renew.new.self c.args.clusters.now c.loop-cluster.cluster-index c.loop-cluster-test.true c.renew.ensures ∙ c.loop-cluster.invariant.renewed;
}

pub returns : goal.returns
returns g c =
    step_all renewed c.loop-cluster.self (fold renewed c.args.self.now c.args.clusters.now) c.args.clusters.now c.loop-cluster.cluster-index c.loop-cluster.invariant.renewed (omega (arith, c.loop-cluster-test.false))
    ∙ ap (fold renewed c.args.self.now) c.requires.clusters
