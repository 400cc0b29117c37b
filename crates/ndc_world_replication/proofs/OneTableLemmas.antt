-- Merging tables of clusters that all hold the same domain records: nothing changes.
use Rattle.std.proofs.Common.{◌≡◌, [], ◌∷◌, List, map, not, refl, ap, sym, subst, ◌∙◌}
use Rattle.std.specs.List.{AllByRecursion, fold}
use Rattle.ndc_script_types.specs.WellFormed.{IsCluster}
use Rattle.ndc_script_types.specs.declared.script.Header.{Header}
use Rattle.ndc_cluster.proofs.EachLemmas.{all_there}
use Rattle.ndc_domain.proofs.MergeLaws.{merge_idempotent}
use Rattle.ndc_domain.specs.Clusters.{count_of}
use Rattle.ndc_domain.specs.Merge.{merged}
use Rattle.ndc_domain.specs.Records.{IsTable}
use Rattle.ndc_domain.specs.declared.clusters.ClusterNo.{ClusterNo}
use Rattle.ndc_domain.specs.declared.record.DomainRecord.{DomainRecord}
use Rattle.ndc_model.proofs.FairLemmas.{clusters-among}
use Rattle.ndc_model.proofs.ListLemmas.{all-filter}
use Rattle.ndc_model.proofs.WorldLemmas.{set-same}
use Rattle.ndc_model.specs.Conditions.{tables_merged}
use Rattle.ndc_model.specs.Fair.{IsShaped}
use Rattle.ndc_model.specs.Moves.{merged_all}
use Rattle.ndc_model.specs.World.{Cluster, Link, World, all_clusters, cluster_at, new_cluster, others_of, with_late, with_table}
use Rattle.ndc_model_cells.specs.Writing.{same_cluster}
use Rattle.ndc_model_sets.proofs.Lists.{all-from}
use Rattle.ndc_world_replication.proofs.ShapeLemmas.{there}
use Rattle.ndc_world_replication.proofs.TableLemmas.{links-same}
use Rattle.ndc_world_replication.specs.Tables.{HaveOneTable}

-- steps of which each changes nothing
fold-same : {Y : Type 0} (step : Y → ClusterNo → Y) (y : Y) (xs : List ClusterNo) → AllByRecursion (λ (x : ClusterNo). step y x ≡ y) xs → fold step y xs ≡ y
fold-same step y [] all = refl
fold-same {Y = Y} step y (x ∷ xs) all = ap (λ (v : Y). fold step v xs) all.0 ∙ fold-same step y xs all.1

module _ (header : Header) (w : World) (shaped : IsShaped header w) (one : HaveOneTable w.clusters) where
  -- each cluster holds the records
  held : (cluster : ClusterNo) → IsCluster header cluster → (cluster_at cluster w).table ≡ one.records
  held cluster known = all_there (λ (c : Cluster). c.table ≡ one.records) w.clusters cluster.number (new_cluster 0) (there header w shaped cluster known) one.everywhere

  -- a table that takes its own place
  table-same : (cluster : ClusterNo) → IsCluster header cluster → with_table cluster (cluster_at cluster w).table w ≡ w
  unfolding with_table
  table-same cluster known =
      ap (λ (clusters : List Cluster). record w { clusters = clusters; links = map (with_late cluster (cluster_at cluster w).table (cluster_at cluster w).table) w.links })
      (set-same w.clusters cluster.number (new_cluster 0))
      ∙ ap (λ (links : List Link). record w { links = links })
      (links-same cluster (cluster_at cluster w).table w.links (subst (λ (records : List DomainRecord). IsTable records) (sym (held cluster known)) one.ordered).ordered)

  -- one cluster merges the table of another
  merge-same : (to from : ClusterNo) → IsCluster header to → IsCluster header from → with_table to (merged (cluster_at to w).table (cluster_at from w).table) w ≡ w
  merge-same to from known other =
      let same : merged (cluster_at to w).table (cluster_at from w).table ≡ (cluster_at to w).table =
      (λ i. merged (held to known i) (held from other i)) ∙ merge_idempotent one.records one.ordered ∙ sym (held to known) in
      ap (λ (records : List DomainRecord). with_table to records w) same ∙ table-same to known

  -- one cluster merges the tables of all others
  merge-all-same : (to : ClusterNo) → IsCluster header to → merged_all header w to ≡ w
  merge-all-same to known =
      fold-same (λ v other. with_table to (merged (cluster_at to v).table (cluster_at other v).table) v) w (others_of header to)
      (all-filter (λ (from : ClusterNo). with_table to (merged (cluster_at to w).table (cluster_at from w).table) w ≡ w) (λ other. not (same_cluster to other)) (all_clusters header)
      (all-from (λ (from : ClusterNo). with_table to (merged (cluster_at to w).table (cluster_at from w).table) w ≡ w) (all_clusters header)
      (λ from among. merge-same to from known (clusters-among (count_of header.clusters) from among))))

  -- each cluster merges the tables of all others
  pub one_merged : tables_merged header w ≡ w
  one_merged =
      fold-same (merged_all header) w (all_clusters header)
      (all-from (λ (to : ClusterNo). merged_all header w to ≡ w) (all_clusters header) (λ to among. merge-all-same to (clusters-among (count_of header.clusters) to among)))
