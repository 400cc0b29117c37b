use Rattle.std.proofs.Common.{◌≡◌, drop}
use Rattle.std.specs.List.{fold}
use Rattle.ndc_model.specs.Moves.{bootstrapped}
use Rattle.ndc_model.specs.Conditions.{EachStep, MayDoAll, late_jobs}
use Rattle.ndc_world_replication.specs.Dones.{trace_of}
use Rattle.ndc_world_replication.specs.Orderly.{IsOrderly}
use Rattle.ndc_world_replication.proofs.replication.Replication.bootstrap_reader.Given as goal

abbrev pub invariant-loop-source : goal.invariant-loop-source
invariant-loop-source g l = record {
  orderly : IsOrderly l.header l.self;
  trace : fold (bootstrapped l.header l.reader) (trace_of l.self l.dones.items) (drop l.source-index l.sources) ≡ fold (bootstrapped l.header l.reader) (trace_of l.fn.self l.initial.dones.items) l.sources;
  allowed : EachStep (λ v source. MayDoAll g.C.Cell.allows l.header l.reader (late_jobs l.header l.reader source v.world) v.world) (bootstrapped l.header l.reader) (trace_of l.self l.dones.items) (drop l.source-index l.sources);
}
