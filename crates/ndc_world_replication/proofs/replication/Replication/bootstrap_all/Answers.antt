use Rattle.std.proofs.Common.{refl, sym, subst, ap, ◌∙◌, arith}
use Rattle.std.specs.List.{fold}
use Rattle.ndc_world_replication.proofs.TraceLemmas.{cluster_in, each_here, each_more, step_all, step_more}
use Rattle.ndc_model.specs.Conditions.{EachStep, MayBootstrap, reader_bootstrapped}
use Rattle.ndc_world_replication.specs.Dones.{trace_of}
use Rattle.ndc_world_replication.proofs.replication.Replication.bootstrap_all.Goals as goal

pub bootstrap_reader-requires-clause-reader : goal.bootstrap_reader-requires-clause-reader
bootstrap_reader-requires-clause-reader g c κs within = cluster_in c.args.header.now c.args.clusters.now c.loop-reader.reader-index c.requires.clusters c.loop-reader-test.true

pub bootstrap_reader-requires-clause-allowed : goal.bootstrap_reader-requires-clause-allowed
bootstrap_reader-requires-clause-allowed g c κs within =
    each_here (MayBootstrap g.C.Cell.allows c.args.header.now) (reader_bootstrapped c.args.header.now) (trace_of c.loop-reader.self c.loop-reader.dones.items) c.args.clusters.now c.loop-reader.reader-index c.loop-reader-test.true
    c.loop-reader.invariant.allowed

pub loop-reader-init : goal.loop-reader-init
loop-reader-init g c = record {
  orderly = c.requires.orderly;
  trace = refl;
  allowed = subst (EachStep (MayBootstrap g.C.Cell.allows c.args.header.now) (reader_bootstrapped c.args.header.now) (trace_of c.args.self.now c.args.dones.now.items)) (sym c.requires.clusters) c.requires.allowed;
}

pub loop-reader-preserved : goal.loop-reader-preserved
loop-reader-preserved g c = record {
  orderly = c.in_ok-bootstrap_reader.ensures.orderly;
  trace = step_more (reader_bootstrapped c.args.header.now) (trace_of c.loop-reader.self c.loop-reader.dones.items) (trace_of c.bootstrap_reader.new.self c.bootstrap_reader.new.dones.items) c.args.clusters.now c.loop-reader.reader-index
      c.loop-reader-test.true c.in_ok-bootstrap_reader.ensures.bootstrapped
      ∙ c.loop-reader.invariant.trace;
  allowed = each_more (MayBootstrap g.C.Cell.allows c.args.header.now) (reader_bootstrapped c.args.header.now) (trace_of c.loop-reader.self c.loop-reader.dones.items) (trace_of c.bootstrap_reader.new.self c.bootstrap_reader.new.dones.items) c.args.clusters.now
      c.loop-reader.reader-index c.loop-reader-test.true c.in_ok-bootstrap_reader.ensures.bootstrapped c.loop-reader.invariant.allowed;
}

pub returns-clause-bootstrapped : goal.returns-clause-bootstrapped
returns-clause-bootstrapped g c =
    step_all (reader_bootstrapped c.args.header.now) (trace_of c.loop-reader.self c.loop-reader.dones.items) (fold (reader_bootstrapped c.args.header.now) (trace_of c.args.self.now c.args.dones.now.items) c.args.clusters.now) c.args.clusters.now
    c.loop-reader.reader-index c.loop-reader.invariant.trace (omega (arith, c.loop-reader-test.false))
    ∙ ap (fold (reader_bootstrapped c.args.header.now) (trace_of c.args.self.now c.args.dones.now.items)) c.requires.clusters
