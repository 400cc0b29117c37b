use Rattle.std.proofs.Common.{◌≡◌, drop}
use Rattle.std.specs.List.{fold}
use Rattle.ndc_model.specs.Moves.{merged_all}
use Rattle.ndc_world_replication.specs.Orderly.{IsOrderly}
use Rattle.ndc_world_replication.proofs.replication.Replication.merge_tables.Given as goal

abbrev pub invariant-loop-cluster : goal.invariant-loop-cluster
invariant-loop-cluster g l = record {
  orderly : IsOrderly l.header l.self;
  tables : fold (merged_all l.header) l.self (drop l.cluster-index l.clusters) ≡ fold (merged_all l.header) l.fn.self l.clusters;
}
