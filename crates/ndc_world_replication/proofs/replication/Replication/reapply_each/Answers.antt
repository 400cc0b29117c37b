use Rattle.std.proofs.Common.{refl, sym, subst, ap, ◌≡◌, ◌∙◌, arith}
use Rattle.std.specs.List.{fold}
use Rattle.ndc_model.specs.Moves.{all_reapply, from_world, reapplied_all}
use Rattle.ndc_world_replication.proofs.OrderlyLemmas.{orderly_reapplied}
use Rattle.ndc_world_replication.proofs.TraceLemmas.{cluster_in, each_here, each_more, reapplied_more, step_all, step_more, nth_cluster}
use Rattle.ndc_model.specs.Conditions.{EachStep, MayDoAll}
use Rattle.ndc_world_replication.specs.Dones.{trace_of}
use Rattle.ndc_world_replication.specs.Orderly.{IsOrderly}
use Rattle.ndc_world_replication.proofs.replication.Replication.reapply_each.Goals as goal

pub reapply-requires-clause-cluster : goal.reapply-requires-clause-cluster
reapply-requires-clause-cluster g c κs within = cluster_in c.args.header.now c.args.clusters.now c.loop-cluster.cluster-index c.requires.clusters c.loop-cluster-test.true

pub reapply-requires-clause-allowed : goal.reapply-requires-clause-allowed
reapply-requires-clause-allowed g c κs within =
    each_here (λ v cluster. MayDoAll g.C.Cell.allows c.args.header.now cluster (all_reapply c.args.header.now) v.world) (reapplied_all c.args.header.now) (trace_of c.loop-cluster.self c.loop-cluster.dones.items) c.args.clusters.now c.loop-cluster.cluster-index c.loop-cluster-test.true c.loop-cluster.invariant.allowed

pub loop-cluster-init : goal.loop-cluster-init
loop-cluster-init g c = record {
  orderly = c.requires.orderly;
  trace = refl;
  allowed = subst (EachStep (λ v cluster. MayDoAll g.C.Cell.allows c.args.header.now cluster (all_reapply c.args.header.now) v.world) (reapplied_all c.args.header.now) (trace_of c.args.self.now c.args.dones.now.items)) (sym c.requires.clusters) c.requires.allowed;
}

pub loop-cluster-preserved : goal.loop-cluster-preserved
loop-cluster-preserved g c =
    let now : trace_of c.reapply.new.self c.push.new.self.items ≡ reapplied_all c.args.header.now (trace_of c.loop-cluster.self c.loop-cluster.dones.items) (nth_cluster c.args.clusters.now c.loop-cluster.cluster-index) =
    ap (trace_of c.reapply.new.self) c.in_ok-push.ensures.items
    ∙ reapplied_more c.loop-cluster.self c.reapply.new.self c.loop-cluster.dones.items c.in_ok-done.done c.args.header.now (nth_cluster c.args.clusters.now c.loop-cluster.cluster-index) c.in_ok-done.ensures.reapplied c.in_ok-done.ensures.notes in
    record {
      orderly = subst (IsOrderly c.args.header.now) (sym c.in_ok-done.ensures.reapplied) (orderly_reapplied c.args.header.now (from_world c.loop-cluster.self) c.loop-cluster.invariant.orderly (nth_cluster c.args.clusters.now c.loop-cluster.cluster-index) (cluster_in c.args.header.now c.args.clusters.now c.loop-cluster.cluster-index c.requires.clusters c.loop-cluster-test.true));
      trace = step_more (reapplied_all c.args.header.now) (trace_of c.loop-cluster.self c.loop-cluster.dones.items) (trace_of c.reapply.new.self c.push.new.self.items) c.args.clusters.now c.loop-cluster.cluster-index c.loop-cluster-test.true now
          ∙ c.loop-cluster.invariant.trace;
      allowed = each_more (λ v cluster. MayDoAll g.C.Cell.allows c.args.header.now cluster (all_reapply c.args.header.now) v.world) (reapplied_all c.args.header.now) (trace_of c.loop-cluster.self c.loop-cluster.dones.items) (trace_of c.reapply.new.self c.push.new.self.items) c.args.clusters.now c.loop-cluster.cluster-index c.loop-cluster-test.true now
          c.loop-cluster.invariant.allowed;
    }

pub returns-clause-reapplied : goal.returns-clause-reapplied
returns-clause-reapplied g c =
    step_all (reapplied_all c.args.header.now) (trace_of c.loop-cluster.self c.loop-cluster.dones.items) (fold (reapplied_all c.args.header.now) (trace_of c.args.self.now c.args.dones.now.items) c.args.clusters.now) c.args.clusters.now c.loop-cluster.cluster-index c.loop-cluster.invariant.trace (omega (arith, c.loop-cluster-test.false))
    ∙ ap (fold (reapplied_all c.args.header.now) (trace_of c.args.self.now c.args.dones.now.items)) c.requires.clusters
