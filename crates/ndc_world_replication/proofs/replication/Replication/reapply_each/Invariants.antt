use Rattle.std.proofs.Common.{◌≡◌, drop}
use Rattle.std.specs.List.{fold}
use Rattle.ndc_model.specs.Moves.{all_reapply, reapplied_all}
use Rattle.ndc_model.specs.Conditions.{EachStep, MayDoAll}
use Rattle.ndc_world_replication.specs.Dones.{trace_of}
use Rattle.ndc_world_replication.specs.Orderly.{IsOrderly}
use Rattle.ndc_world_replication.proofs.replication.Replication.reapply_each.Given as goal

abbrev pub invariant-loop-cluster : goal.invariant-loop-cluster
invariant-loop-cluster g l = record {
  orderly : IsOrderly l.header l.self;
  trace : fold (reapplied_all l.header) (trace_of l.self l.dones.items) (drop l.cluster-index l.clusters) ≡ fold (reapplied_all l.header) (trace_of l.fn.self l.initial.dones.items) l.clusters;
  allowed : EachStep (λ v cluster. MayDoAll g.C.Cell.allows l.header cluster (all_reapply l.header) v.world) (reapplied_all l.header) (trace_of l.self l.dones.items) (drop l.cluster-index l.clusters);
}
