-- Settlement keeps each record naming all clusters.
use Rattle.std.proofs.Common.{List, sym, subst, not}
use Rattle.std.specs.List.{fold}
use Rattle.ndc_script_types.specs.WellFormed.{IsCluster}
use Rattle.ndc_script_types.specs.declared.script.Header.{Header}
use Rattle.ndc_model_cells.specs.Writing.{same_cluster}
use Rattle.ndc_domain.specs.Clusters.{count_of}
use Rattle.ndc_domain.specs.Merge.{merged}
use Rattle.ndc_domain.specs.Records.{IsTable}
use Rattle.ndc_domain.specs.declared.clusters.ClusterNo.{ClusterNo}
use Rattle.ndc_domain.specs.declared.record.DomainRecord.{DomainRecord}
use Rattle.ndc_domain.proofs.BothTables.{IsTable-merged}
use Rattle.ndc_laws_program.specs.Shared.{SharesAll}
use Rattle.ndc_laws_program.proofs.KeepLemmas.{domains-share, stay-shares}
use Rattle.ndc_laws.proofs.StayLemmas.{AreTables, TablesStay, bootstrap-stay, due-stay, reapplied-stay, renewed-stay}
use Rattle.ndc_model.specs.Moves.{Trace, after_settlement, bootstrapped, due_arrived, from_world, merged_all, quietly, reapplied_all, renewed, settled_once, without_flights}
use Rattle.ndc_model.specs.Sending.{settle_step}
use Rattle.ndc_model.specs.World.{Cluster, World, all_clusters, cluster_at, new_cluster, others_of, with_table}
use Rattle.ndc_model.proofs.FairLemmas.{clusters-among}
use Rattle.ndc_model.proofs.ListLemmas.{fold-keeps}
use Rattle.ndc_model.proofs.WorldLemmas.{set-cases}
use Rattle.ndc_model_sets.proofs.Lists.{Among, filter-among}

-- tables are as they should be, and each record names all clusters
record IsShared (header : Header) (v : World) : Type 0 where
  pub tables : AreTables header v
  pub shares : SharesAll header v

module _ (header : Header) where
  stays : (u v : World) → IsShared header u → TablesStay u v → IsShared header v
  stays u v shared stay = record {
    tables = λ one known. subst IsTable (sym (stay one)) (shared.tables one known);
    shares = stay-shares header u v stay shared.shares;
  }

  merges : (cluster other : ClusterNo) → IsCluster header cluster → IsCluster header other → (u : World) → IsShared header u
      → IsShared header (with_table cluster (merged (cluster_at cluster u).table (cluster_at other u).table) u)
  unfolding with_table
  merges cluster other known also u shared = record { tables = both; shares = domains-share header u shared.tables shared.shares cluster other known also }
    where
      ours : List DomainRecord
      ours = (cluster_at cluster u).table

      theirs : List DomainRecord
      theirs = (cluster_at other u).table

      both : AreTables header (with_table cluster (merged ours theirs) u)
      both one there =
          set-cases (λ (c : Cluster). IsTable c.table) u.clusters cluster.number one.number _ (new_cluster 0) (λ at. IsTable-merged ours theirs (shared.tables cluster known) (shared.tables other also)) (shared.tables one there)

  known-among : (cluster : ClusterNo) → Among cluster (all_clusters header) → IsCluster header cluster
  known-among cluster among = clusters-among (count_of header.clusters) cluster among

  merges-all : (u : World) → IsShared header u → IsShared header (fold (merged_all header) u (all_clusters header))
  merges-all u shared =
      fold-keeps (IsShared header) (merged_all header) (all_clusters header)
      (λ v cluster among kept. fold-keeps (IsShared header) (λ x other. with_table cluster (merged (cluster_at cluster x).table (cluster_at other x).table) x) (others_of header cluster)
      (λ x other there. merges cluster other (known-among cluster among) (known-among other (filter-among (λ one. not (same_cluster cluster one)) (all_clusters header) other there).1) x) v kept) u shared

  -- one round of settlement
  round : (t : Trace) → IsShared header t.world → IsShared header (settled_once header t).world
  unfolding settled_once
  round t shared =
      fold-keeps (λ (u : Trace). IsShared header u.world) (reapplied_all header) (all_clusters header) (λ u cluster among kept. stays u.world (reapplied_all header u cluster).world kept (reapplied-stay header u cluster)) three
      (fold-keeps (λ (u : Trace). IsShared header u.world) (due_arrived header) (all_clusters header) (λ u reader among kept. stays u.world (due_arrived header u reader).world kept (due-stay header u reader)) two
      (fold-keeps (λ (u : Trace). IsShared header u.world) (λ v reader. fold (bootstrapped header reader) v (others_of header reader)) (all_clusters header)
      (λ v reader among before. fold-keeps (λ (u : Trace). IsShared header u.world) (bootstrapped header reader) (others_of header reader)
      (λ u source there kept. stays u.world (bootstrapped header reader u source).world kept (bootstrap-stay header reader u source)) v before) one
      (merges-all t.world shared)))
    where
      one : Trace
      one = quietly (λ v. fold (merged_all header) v (all_clusters header)) t

      two : Trace
      two = fold (λ v reader. fold (bootstrapped header reader) v (others_of header reader)) one (all_clusters header)

      three : Trace
      three = fold (due_arrived header) two (all_clusters header)

  pub settle-shares : (w : World) → AreTables header w → SharesAll header w → SharesAll header (settle_step header w).world
  unfolding after_settlement
  settle-shares w tables shares =
      (fold-keeps (IsShared header) renewed (all_clusters header) (λ u reader among kept. stays u (renewed u reader) kept (renewed-stay u reader)) (settled_once header (settled_once header start)).world
      (round (settled_once header start) (round start (record { tables = tables; shares = shares })))).shares
    where
      start : Trace
      start = from_world (without_flights w)
