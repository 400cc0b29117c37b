use Rattle.std.proofs.Common.{◌≡◌, drop}
use Rattle.std.specs.List.{fold}
use Rattle.ndc_domain.specs.Merge.{merged}
use Rattle.ndc_model.specs.World.{cluster_at, with_table}
use Rattle.ndc_world_replication.specs.Orderly.{IsOrderly}
use Rattle.ndc_world_replication.proofs.replication.Replication.merge_others.Given as goal

abbrev pub invariant-loop-other : goal.invariant-loop-other
invariant-loop-other g l = record {
  orderly : IsOrderly l.header l.self;
  tables : fold (λ v other. with_table l.cluster (merged (cluster_at l.cluster v).table (cluster_at other v).table) v) l.self (drop l.other-index l.others)
      ≡ fold (λ v other. with_table l.cluster (merged (cluster_at l.cluster v).table (cluster_at other v).table) v) l.fn.self l.others;
}
