use Rattle.std.proofs.Common.{List, refl, sym, subst, ap, ◌≡◌, ◌∙◌, arith}
use Rattle.ndc_model.specs.World.{Link, World}
use Rattle.ndc_world_replication.proofs.OwnLemmas.{own_on_time}
use Rattle.ndc_world_replication.proofs.OnTimeLemmas.{on_time_some}
use Rattle.ndc_world_replication.specs.OnTime.{IsOnTime}
use Rattle.std.specs.List.{fold, slice_range}
use Rattle.ndc_model.specs.Moves.{bootstrapped, from_world}
use Rattle.ndc_world_replication.proofs.OrderlyLemmas.{orderly_bootstrapped, orderly_renewed}
use Rattle.ndc_world_replication.proofs.TraceLemmas.{other_in, each_here, each_more, bootstrapped_more, step_all, step_more, nth_cluster}
use Rattle.ndc_model.specs.Conditions.{EachStep, MayDoAll, late_jobs}
use Rattle.ndc_world_replication.specs.Dones.{trace_of}
use Rattle.ndc_world_replication.specs.Orderly.{IsOrderly}
use Rattle.ndc_world_replication.proofs.replication.Replication.bootstrap_reader.Goals as goal

pub bootstrap-requires-clause-source : goal.bootstrap-requires-clause-source
bootstrap-requires-clause-source g c κs within = other_in c.args.header.now c.args.reader c.args.sources.now c.loop-source.source-index c.requires.sources c.loop-source-test.true

pub bootstrap-requires-clause-allowed : goal.bootstrap-requires-clause-allowed
bootstrap-requires-clause-allowed g c κs within =
    each_here (λ v source. MayDoAll g.C.Cell.allows c.args.header.now c.args.reader (late_jobs c.args.header.now c.args.reader source v.world) v.world) (bootstrapped c.args.header.now c.args.reader) (trace_of c.loop-source.self c.loop-source.dones.items) c.args.sources.now c.loop-source.source-index c.loop-source-test.true c.loop-source.invariant.allowed

pub loop-source-init : goal.loop-source-init
loop-source-init g c = record {
  orderly = c.requires.orderly;
  trace = refl;
  allowed = subst (EachStep (λ v source. MayDoAll g.C.Cell.allows c.args.header.now c.args.reader (late_jobs c.args.header.now c.args.reader source v.world) v.world) (bootstrapped c.args.header.now c.args.reader) (trace_of c.args.self.now c.args.dones.now.items)) (sym c.requires.sources) c.requires.allowed;
}

pub loop-source-preserved : goal.loop-source-preserved
loop-source-preserved g c =
    let now : trace_of c.bootstrap.new.self c.push.new.self.items ≡ bootstrapped c.args.header.now c.args.reader (trace_of c.loop-source.self c.loop-source.dones.items) (nth_cluster c.args.sources.now c.loop-source.source-index) =
    ap (trace_of c.bootstrap.new.self) c.in_ok-push.ensures.items
    ∙ bootstrapped_more c.loop-source.self c.bootstrap.new.self c.loop-source.dones.items c.in_ok-done.done c.args.header.now c.args.reader (nth_cluster c.args.sources.now c.loop-source.source-index) c.in_ok-done.ensures.bootstrapped c.in_ok-done.ensures.notes in
    record {
      orderly = subst (IsOrderly c.args.header.now) (sym c.in_ok-done.ensures.bootstrapped) (orderly_bootstrapped c.args.header.now (from_world c.loop-source.self) c.loop-source.invariant.orderly c.args.reader (nth_cluster c.args.sources.now c.loop-source.source-index) c.requires.reader);
      trace = step_more (bootstrapped c.args.header.now c.args.reader) (trace_of c.loop-source.self c.loop-source.dones.items) (trace_of c.bootstrap.new.self c.push.new.self.items) c.args.sources.now c.loop-source.source-index c.loop-source-test.true now
          ∙ c.loop-source.invariant.trace;
      allowed = each_more (λ v source. MayDoAll g.C.Cell.allows c.args.header.now c.args.reader (late_jobs c.args.header.now c.args.reader source v.world) v.world) (bootstrapped c.args.header.now c.args.reader) (trace_of c.loop-source.self c.loop-source.dones.items) (trace_of c.bootstrap.new.self c.push.new.self.items) c.args.sources.now c.loop-source.source-index c.loop-source-test.true now
          c.loop-source.invariant.allowed;
    }

pub returns-clause-bootstrapped : goal.returns-clause-bootstrapped
returns-clause-bootstrapped g c =
    step_all (bootstrapped c.args.header.now c.args.reader) (trace_of c.loop-source.self c.loop-source.dones.items) (fold (bootstrapped c.args.header.now c.args.reader) (trace_of c.args.self.now c.args.dones.now.items) c.args.sources.now) c.args.sources.now c.loop-source.source-index c.loop-source.invariant.trace (omega (arith, c.loop-source-test.false))
    ∙ ap (fold (bootstrapped c.args.header.now c.args.reader) (trace_of c.args.self.now c.args.dones.now.items)) c.requires.sources

pub returns-then-not-is_empty-clause-bootstrapped : goal.returns-then-not-is_empty-clause-bootstrapped
returns-then-not-is_empty-clause-bootstrapped g c =
    let start = trace_of c.args.self.now c.args.dones.now.items in
    ap (λ (w : World). trace_of w c.args.dones.now.items) c.renew.ensures
    ∙ sym (on_time_some c.args.reader c.args.header.now start c.args.sources.now c.if-not-is_empty.ensures
    (own_on_time c.args.reader c.own_places-first.result.0 c.own_places-first.result.1 c.args.self.now.links c.own_places-first.ensures.rising
    (c.own_places-first.ensures.front c.args.self.now c.requires.orderly.shaped) (c.own_places-first.ensures.back c.args.self.now c.requires.orderly.shaped)
    (subst (λ (links : List Link). IsOnTime c.args.reader (slice_range links c.own_places-first.result.0 c.own_places-first.result.1))
    (c.as_slice.ensures.value ∙ ap (λ (w : World). w.links) c.self.view_is) (c.if-not-may_be_late.ensures refl))))
    ∙ ap (fold (bootstrapped c.args.header.now c.args.reader) start) c.requires.sources

pub returns-then-not-is_empty-clause-orderly : goal.returns-then-not-is_empty-clause-orderly
returns-then-not-is_empty-clause-orderly g c = subst (IsOrderly c.args.header.now) (sym c.renew.ensures) (orderly_renewed c.args.header.now c.args.self.now c.requires.orderly c.args.reader)
