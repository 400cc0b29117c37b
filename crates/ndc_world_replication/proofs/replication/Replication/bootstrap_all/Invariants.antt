use Rattle.std.proofs.Common.{◌≡◌, drop}
use Rattle.std.specs.List.{fold}
use Rattle.ndc_model.specs.Conditions.{EachStep, MayBootstrap, reader_bootstrapped}
use Rattle.ndc_world_replication.specs.Dones.{trace_of}
use Rattle.ndc_world_replication.specs.Orderly.{IsOrderly}
use Rattle.ndc_world_replication.proofs.replication.Replication.bootstrap_all.Given as goal

abbrev pub invariant-loop-reader : goal.invariant-loop-reader
invariant-loop-reader g l = record {
  orderly : IsOrderly l.header l.self;
  trace : fold (reader_bootstrapped l.header) (trace_of l.self l.dones.items) (drop l.reader-index l.clusters) ≡ fold (reader_bootstrapped l.header) (trace_of l.fn.self l.initial.dones.items) l.clusters;
  allowed : EachStep (MayBootstrap g.C.Cell.allows l.header) (reader_bootstrapped l.header) (trace_of l.self l.dones.items) (drop l.reader-index l.clusters);
}
