use Rattle.std.proofs.Common.{◌≡◌, drop}
use Rattle.std.specs.List.{fold}
use Rattle.ndc_model.specs.Moves.{renewed}
use Rattle.ndc_world_replication.specs.Orderly.{IsOrderly}
use Rattle.ndc_world_replication.proofs.replication.Replication.renew_all.Given as goal

abbrev pub invariant-loop-cluster : goal.invariant-loop-cluster
invariant-loop-cluster g l = record {
  orderly : IsOrderly l.header l.self;
  renewed : fold renewed l.self (drop l.cluster-index l.clusters) ≡ fold renewed l.fn.self l.clusters;
}
