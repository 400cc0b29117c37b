use Rattle.std.proofs.Common.{◌≡◌, drop}
use Rattle.std.specs.List.{fold}
use Rattle.ndc_model.specs.Moves.{due_arrived}
use Rattle.ndc_model.specs.Conditions.{EachStep, MayDoAll, due_jobs}
use Rattle.ndc_world_replication.specs.Dones.{trace_of}
use Rattle.ndc_world_replication.specs.Orderly.{IsOrderly}
use Rattle.ndc_world_replication.proofs.replication.Replication.arrive_all_due.Given as goal

abbrev pub invariant-loop-reader : goal.invariant-loop-reader
invariant-loop-reader g l = record {
  orderly : IsOrderly l.header l.self;
  trace : fold (due_arrived l.header) (trace_of l.self l.dones.items) (drop l.reader-index l.clusters) ≡ fold (due_arrived l.header) (trace_of l.fn.self l.initial.dones.items) l.clusters;
  allowed : EachStep (λ v reader. MayDoAll g.C.Cell.allows l.header reader (due_jobs l.header reader v.world) v.world) (due_arrived l.header) (trace_of l.self l.dones.items) (drop l.reader-index l.clusters);
}
