use Rattle.std.proofs.Common.{refl, sym, subst, ap, ◌≡◌, ◌∙◌, arith}
use Rattle.std.specs.List.{fold}
use Rattle.ndc_model.specs.Moves.{due_arrived, from_world}
use Rattle.ndc_world_replication.proofs.OrderlyLemmas.{orderly_due}
use Rattle.ndc_world_replication.proofs.TraceLemmas.{cluster_in, each_here, each_more, due_more, step_all, step_more, nth_cluster}
use Rattle.ndc_model.specs.Conditions.{EachStep, MayDoAll, due_jobs}
use Rattle.ndc_world_replication.specs.Dones.{trace_of}
use Rattle.ndc_world_replication.specs.Orderly.{IsOrderly}
use Rattle.ndc_world_replication.proofs.replication.Replication.arrive_all_due.Goals as goal

pub arrive_due-requires-clause-reader : goal.arrive_due-requires-clause-reader
arrive_due-requires-clause-reader g c κs within = cluster_in c.args.header.now c.args.clusters.now c.loop-reader.reader-index c.requires.clusters c.loop-reader-test.true

pub arrive_due-requires-clause-allowed : goal.arrive_due-requires-clause-allowed
arrive_due-requires-clause-allowed g c κs within =
    each_here (λ v reader. MayDoAll g.C.Cell.allows c.args.header.now reader (due_jobs c.args.header.now reader v.world) v.world) (due_arrived c.args.header.now) (trace_of c.loop-reader.self c.loop-reader.dones.items) c.args.clusters.now c.loop-reader.reader-index c.loop-reader-test.true c.loop-reader.invariant.allowed

pub loop-reader-init : goal.loop-reader-init
loop-reader-init g c = record {
  orderly = c.requires.orderly;
  trace = refl;
  allowed = subst (EachStep (λ v reader. MayDoAll g.C.Cell.allows c.args.header.now reader (due_jobs c.args.header.now reader v.world) v.world) (due_arrived c.args.header.now) (trace_of c.args.self.now c.args.dones.now.items)) (sym c.requires.clusters) c.requires.allowed;
}

pub loop-reader-preserved : goal.loop-reader-preserved
loop-reader-preserved g c =
    let now : trace_of c.arrive_due.new.self c.push.new.self.items ≡ due_arrived c.args.header.now (trace_of c.loop-reader.self c.loop-reader.dones.items) (nth_cluster c.args.clusters.now c.loop-reader.reader-index) =
    ap (trace_of c.arrive_due.new.self) c.in_ok-push.ensures.items
    ∙ due_more c.loop-reader.self c.arrive_due.new.self c.loop-reader.dones.items c.in_ok-done.done c.args.header.now (nth_cluster c.args.clusters.now c.loop-reader.reader-index) c.in_ok-done.ensures.arrived c.in_ok-done.ensures.notes in
    record {
      orderly = subst (IsOrderly c.args.header.now) (sym c.in_ok-done.ensures.arrived) (orderly_due c.args.header.now (from_world c.loop-reader.self) c.loop-reader.invariant.orderly (nth_cluster c.args.clusters.now c.loop-reader.reader-index) (cluster_in c.args.header.now c.args.clusters.now c.loop-reader.reader-index c.requires.clusters c.loop-reader-test.true));
      trace = step_more (due_arrived c.args.header.now) (trace_of c.loop-reader.self c.loop-reader.dones.items) (trace_of c.arrive_due.new.self c.push.new.self.items) c.args.clusters.now c.loop-reader.reader-index c.loop-reader-test.true now
          ∙ c.loop-reader.invariant.trace;
      allowed = each_more (λ v reader. MayDoAll g.C.Cell.allows c.args.header.now reader (due_jobs c.args.header.now reader v.world) v.world) (due_arrived c.args.header.now) (trace_of c.loop-reader.self c.loop-reader.dones.items) (trace_of c.arrive_due.new.self c.push.new.self.items) c.args.clusters.now c.loop-reader.reader-index c.loop-reader-test.true now
          c.loop-reader.invariant.allowed;
    }

pub returns-clause-arrived : goal.returns-clause-arrived
returns-clause-arrived g c =
    step_all (due_arrived c.args.header.now) (trace_of c.loop-reader.self c.loop-reader.dones.items) (fold (due_arrived c.args.header.now) (trace_of c.args.self.now c.args.dones.now.items) c.args.clusters.now) c.args.clusters.now c.loop-reader.reader-index c.loop-reader.invariant.trace (omega (arith, c.loop-reader-test.false))
    ∙ ap (fold (due_arrived c.args.header.now) (trace_of c.args.self.now c.args.dones.now.items)) c.requires.clusters
