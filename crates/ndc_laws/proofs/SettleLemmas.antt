-- Settlement lets tables grow.
use Rattle.std.proofs.Common.{List, sym, subst, not}
use Rattle.std.specs.List.{fold}
use Rattle.ndc_script_types.specs.WellFormed.{IsCluster}
use Rattle.ndc_script_types.specs.declared.script.Header.{Header}
use Rattle.ndc_model_cells.specs.Writing.{same_cluster}
use Rattle.ndc_domain.specs.Clusters.{count_of}
use Rattle.ndc_domain.specs.Merge.{merged}
use Rattle.ndc_domain.specs.Records.{IsTable}
use Rattle.ndc_domain.specs.declared.clusters.ClusterNo.{ClusterNo}
use Rattle.ndc_domain.specs.declared.record.DomainRecord.{DomainRecord}
use Rattle.ndc_domain.proofs.BothTables.{IsTable-merged}
use Rattle.ndc_laws_reached.proofs.GrowLemmas.{grows-none}
use Rattle.ndc_laws.specs.Grown.{TablesGrow}
use Rattle.ndc_laws.proofs.GrowLemmas.{merge-grows, stay-grow, table-put-grows, tables-then}
use Rattle.ndc_laws.proofs.StayLemmas.{AreTables, TablesStay, bootstrap-stay, due-stay, reapplied-stay, renewed-stay}
use Rattle.ndc_laws.proofs.WriteLemmas.{WritesAbove, above-none, above-then, bootstrap-above, due-above, reapplied-above, renewed-above, table-above}
use Rattle.ndc_model.specs.Moves.{Trace, after_settlement, bootstrapped, due_arrived, from_world, merged_all, quietly, reapplied_all, renewed, settled_once, without_flights}
use Rattle.ndc_model.specs.Sending.{settle_step}
use Rattle.ndc_model.specs.World.{Cluster, World, all_clusters, cluster_at, new_cluster, others_of, with_table}
use Rattle.ndc_model.proofs.FairLemmas.{clusters-among}
use Rattle.ndc_model.proofs.ListLemmas.{fold-keeps}
use Rattle.ndc_model.proofs.WorldLemmas.{set-cases}
use Rattle.ndc_model_sets.proofs.Lists.{Among, filter-among}

-- tables are as they should be and have grown since the beginning, and what was written since has no lower version than records had
record AreGrown (header : Header) (w v : World) : Type 0 where
  pub tables : AreTables header v
  pub grows : TablesGrow w v
  pub above : WritesAbove w v

module _ (header : Header) (w : World) where
  stays : (u v : World) → AreGrown header w u → TablesStay u v → WritesAbove u v → AreGrown header w v
  stays u v grown stay above = record {
    tables = λ one known. subst IsTable (sym (stay one)) (grown.tables one known);
    grows = tables-then w u v grown.grows (stay-grow u v stay);
    above = above-then w u v grown.grows grown.above above;
  }

  merges : (cluster other : ClusterNo) → IsCluster header cluster → IsCluster header other → (u : World) → AreGrown header w u
      → AreGrown header w (with_table cluster (merged (cluster_at cluster u).table (cluster_at other u).table) u)
  unfolding with_table
  merges cluster other known also u grown = record {
    tables = λ one there. set-cases (λ (c : Cluster). IsTable c.table) u.clusters cluster.number one.number _ (new_cluster 0) (λ at. IsTable-merged ours theirs (grown.tables cluster known) (grown.tables other also)) (grown.tables one there);
    grows = tables-then w u (with_table cluster (merged ours theirs) u) grown.grows (table-put-grows cluster (merged ours theirs) u (merge-grows ours theirs (grown.tables cluster known) (grown.tables other also)));
    above = above-then w u (with_table cluster (merged ours theirs) u) grown.grows grown.above (table-above cluster (merged ours theirs) u);
  }
    where
      ours : List DomainRecord
      ours = (cluster_at cluster u).table

      theirs : List DomainRecord
      theirs = (cluster_at other u).table

  known-among : (cluster : ClusterNo) → Among cluster (all_clusters header) → IsCluster header cluster
  known-among cluster among = clusters-among (count_of header.clusters) cluster among

  merges-all : (u : World) → AreGrown header w u → AreGrown header w (fold (merged_all header) u (all_clusters header))
  merges-all u grown =
      fold-keeps (AreGrown header w) (merged_all header) (all_clusters header)
      (λ v cluster among kept. fold-keeps (AreGrown header w) (λ x other. with_table cluster (merged (cluster_at cluster x).table (cluster_at other x).table) x) (others_of header cluster)
      (λ x other there. merges cluster other (known-among cluster among) (known-among other (filter-among (λ one. not (same_cluster cluster one)) (all_clusters header) other there).1) x) v kept) u grown

  -- one round of settlement
  round : (t : Trace) → AreGrown header w t.world → AreGrown header w (settled_once header t).world
  unfolding settled_once
  round t grown =
      fold-keeps (λ (u : Trace). AreGrown header w u.world) (reapplied_all header) (all_clusters header) (λ u cluster among kept. stays u.world (reapplied_all header u cluster).world kept (reapplied-stay header u cluster) (reapplied-above header u cluster)) three
      (fold-keeps (λ (u : Trace). AreGrown header w u.world) (due_arrived header) (all_clusters header) (λ u reader among kept. stays u.world (due_arrived header u reader).world kept (due-stay header u reader) (due-above header u reader)) two
      (fold-keeps (λ (u : Trace). AreGrown header w u.world) (λ v reader. fold (bootstrapped header reader) v (others_of header reader)) (all_clusters header)
      (λ v reader among before. fold-keeps (λ (u : Trace). AreGrown header w u.world) (bootstrapped header reader) (others_of header reader)
      (λ u source there kept. stays u.world (bootstrapped header reader u source).world kept (bootstrap-stay header reader u source) (bootstrap-above header reader u source)) v before) one
      (merges-all t.world grown)))
    where
      one : Trace
      one = quietly (λ v. fold (merged_all header) v (all_clusters header)) t

      two : Trace
      two = fold (λ v reader. fold (bootstrapped header reader) v (others_of header reader)) one (all_clusters header)

      three : Trace
      three = fold (due_arrived header) two (all_clusters header)

  -- all is settled
  settled : AreTables header w → AreGrown header w (settle_step header w).world
  unfolding after_settlement
  settled tables =
      fold-keeps (AreGrown header w) renewed (all_clusters header) (λ u reader among kept. stays u (renewed u reader) kept (renewed-stay u reader) (renewed-above u reader)) (settled_once header (settled_once header start)).world
      (round (settled_once header start) (round start (record { tables = tables; grows = λ one. grows-none (cluster_at one w).table; above = above-none w })))
    where
      start : Trace
      start = from_world (without_flights w)

  pub settle-grow : AreTables header w → TablesGrow w (settle_step header w).world
  settle-grow tables = (settled tables).grows

  pub settle-above : AreTables header w → WritesAbove w (settle_step header w).world
  settle-above tables = (settled tables).above
