-- Each cluster merges the tables of all others: then the tables are one.
use Rattle.std.proofs.Common.{◌≡◌, ℕ, Bool, true, false, not, List, [], ◌∷◌, slice_index_or, inl, inr, refl, sym, ◌∙◌, subst, ap, arith}
use Rattle.std.specs.List.{flat_map, fold}
use Rattle.std.proofs.lemmas.List.{get_or-set_same}
use Rattle.ndc_script_types.specs.WellFormed.{IsCluster}
use Rattle.ndc_script_types.specs.declared.script.Header.{Header}
use Rattle.ndc_model_cells.specs.Cells.{both}
use Rattle.ndc_model_cells.specs.Jobs.{cell_for}
use Rattle.ndc_model_cells.specs.Places.{in_order}
use Rattle.ndc_model_cells.specs.Writing.{same_cluster}
use Rattle.ndc_domain.specs.Clusters.{count_of}
use Rattle.ndc_domain.specs.Laws.{DaysAgree}
use Rattle.ndc_domain.proofs.MergeLaws.{merge_associates, merge_commutes, merge_idempotent}
use Rattle.ndc_model.proofs.FairLemmas.{clusters-among}
use Rattle.ndc_model.proofs.ListLemmas.{fold-keeps}
use Rattle.std.proofs.lemmas.Bool.{eqb-true}
use Rattle.ndc_domain.specs.Merge.{merged}
use Rattle.ndc_domain.specs.Records.{IsTable}
use Rattle.ndc_domain.specs.declared.clusters.ClusterNo.{ClusterNo}
use Rattle.ndc_domain.specs.declared.record.DomainRecord.{DomainRecord}
use Rattle.ndc_model.specs.Facts.{IsReached}
use Rattle.ndc_model.specs.Moves.{merged_all}
use Rattle.ndc_model.specs.World.{Cluster, World, all_clusters, cluster_at, new_cluster, others_of, with_table}
use Rattle.ndc_model.proofs.WorldLemmas.{set-cases}
use Rattle.ndc_model_sets.proofs.Lists.{Among, among-filter, filter-among}
use Rattle.ndc_laws_reached.proofs.FrameLemmas.{batches_in, cells_in}
use Rattle.ndc_laws_reached.proofs.LaneLemmas.{below-among}
use Rattle.ndc_laws_reached.proofs.MergeLemmas.{merged_kept, table-offered}

-- what holds after one item of a fold, and stays, holds after all
fold-stays : {A B : Type 0} (I Q : B → Type 0) (f : B → A → B) (xs : List A) → ((b : B) (y : A) → Among y xs → I b → I (f b y) × (Q b → Q (f b y))) → (b : B) → I b → Q b → I (fold f b xs) × Q (fold f b xs)
fold-stays I Q f [] step b is q = (is, q)
fold-stays I Q f (y ∷ ys) step b is q = let r = step b y (inl refl) is in fold-stays I Q f ys (λ c z among. step c z (inr among)) (f b y) r.0 (r.1 q)

pub fold-visit : {A B : Type 0} (I Q : B → Type 0) (f : B → A → B) (xs : List A) (x : A) → Among x xs → ((b : B) (y : A) → Among y xs → I b → I (f b y) × (Q b → Q (f b y))) → ((b : B) → I b → Q (f b x))
    → (b : B) → I b → I (fold f b xs) × Q (fold f b xs)
fold-visit I Q f [] x none step visit b is = absurd none
fold-visit I Q f (y ∷ ys) x (inl same) step visit b is =
    fold-stays I Q f ys (λ c z among. step c z (inr among)) (f b y) (step b y (inl refl) is).0 (subst (λ z. Q (f b z)) same (visit b is))
fold-visit I Q f (y ∷ ys) x (inr among) step visit b is = fold-visit I Q f ys x among (λ c z a. step c z (inr a)) visit (f b y) (step b y (inl refl) is).0

-- the table of a cluster
abbrev pub table_at : ClusterNo → World → List DomainRecord
table_at cluster w = (cluster_at cluster w).table

-- a table brings nothing to another one
abbrev pub IsBelow : List DomainRecord → List DomainRecord → Type 0
IsBelow one two = merged two one ≡ two

below-both : (one two table : List DomainRecord) → IsTable one → IsTable two → IsTable table → IsBelow one table → IsBelow two table → IsBelow (merged one two) table
below-both one two table first second third h k = sym (merge_associates table one two third first second) ∙ ap (λ (t : List DomainRecord). merged t two) h ∙ k

below-then : (one two three : List DomainRecord) → IsTable one → IsTable two → IsTable three → IsBelow one two → IsBelow two three → IsBelow one three
below-then one two three first second third h k = ap (λ (t : List DomainRecord). merged t one) (sym k) ∙ merge_associates three two one third second first ∙ ap (merged three) h ∙ k

below-theirs : (ours theirs : List DomainRecord) → IsTable ours → IsTable theirs → IsBelow theirs (merged ours theirs)
below-theirs ours theirs first second = merge_associates ours theirs theirs first second second ∙ ap (merged ours) (merge_idempotent theirs second)

below-ours : (ours theirs : List DomainRecord) → IsTable ours → IsTable theirs → DaysAgree ours theirs → IsBelow ours (merged ours theirs)
below-ours ours theirs first second agree = subst (λ (t : List DomainRecord). merged t ours ≡ t) (sym (merge_commutes ours theirs first second agree)) (below-theirs theirs ours second first)

below-one : (one two : List DomainRecord) → IsTable one → IsTable two → DaysAgree one two → IsBelow one two → IsBelow two one → one ≡ two
below-one one two first second agree h k = sym k ∙ merge_commutes one two first second agree ∙ h

-- the tables of all clusters are one
abbrev pub OneTable : Header → World → Type 0
OneTable header w = (one two : ClusterNo) → IsCluster header one → IsCluster header two → table_at one w ≡ table_at two w

module _ (header : Header) (lines : ℕ) (start : World) where
  -- a world that is as it should be, in which the same was written as in the beginning
  pub record IsSpread (v : World) : Type 0 where
    pub reached : IsReached header lines v
    pub batches : batches_in header v ≡ batches_in header start

  -- one cluster merges the table of another
  abbrev takes : ClusterNo → ClusterNo → World → World
  takes cluster other v = with_table cluster (merged (table_at cluster v) (table_at other v)) v

  is-table : (v : World) → IsSpread v → (cluster : ClusterNo) → IsCluster header cluster → IsTable (table_at cluster v)
  is-table v is cluster known = is.reached.fair.records.tables cluster known

  module _ (cluster other : ClusterNo) (known : IsCluster header cluster) (also : IsCluster header other) (v : World) (is : IsSpread v) where
    table-cases : (P : List DomainRecord → Type 0) (one : ClusterNo) → (one.number ≡ cluster.number → P (merged (table_at cluster v) (table_at other v))) → P (table_at one v) → P (table_at one (takes cluster other v))
    unfolding with_table
    table-cases P one here there = set-cases (λ (c : Cluster). P c.table) v.clusters cluster.number one.number _ (new_cluster 0) here there

    new-table : table_at cluster (takes cluster other v) ≡ merged (table_at cluster v) (table_at other v)
    unfolding with_table
    new-table =
        ap (λ (c : Cluster). c.table)
        (get_or-set_same v.clusters cluster.number (record (cluster_at cluster v) { table = merged (table_at cluster v) (table_at other v) }) (new_cluster 0) (omega (arith, known, is.reached.shaped.clusters)))

    -- each table grows
    rises : (one : ClusterNo) → IsCluster header one → IsBelow (table_at one v) (table_at one (takes cluster other v))
    rises one there =
        table-cases (λ t. IsBelow (table_at one v) t) one
        (λ same. subst (λ (n : ℕ). IsBelow (table_at (record { number = n }) v) (merged (table_at cluster v) (table_at other v))) (sym same)
        (below-ours (table_at cluster v) (table_at other v) (is-table v is cluster known) (is-table v is other also) (is.reached.fair.records.days cluster other known also)))
        (merge_idempotent (table_at one v) (is-table v is one there))

    -- what is above the tables of both, and above that of a cluster before, is above the cluster's table then
    bounded : (one : ClusterNo) (bound : List DomainRecord) → IsTable bound → IsBelow (table_at cluster v) bound → IsBelow (table_at other v) bound → IsBelow (table_at one v) bound → IsBelow (table_at one (takes cluster other v)) bound
    bounded one bound third first second before =
        table-cases (λ t. IsBelow t bound) one (λ same. below-both (table_at cluster v) (table_at other v) bound (is-table v is cluster known) (is-table v is other also) third first second) before

    -- the table taken is not above the cluster's own then
    taken : IsBelow (table_at other v) (table_at cluster (takes cluster other v))
    taken = subst (IsBelow (table_at other v)) (sym new-table) (below-theirs (table_at cluster v) (table_at other v) (is-table v is cluster known) (is-table v is other also))

    -- the same was written then
    spread : IsSpread (takes cluster other v)
    unfolding with_table
    spread = record {
      reached = merged_kept header lines cluster (table_at other v) v known (table-offered header lines v other is.reached also) is.reached;
      batches = wrote ∙ is.batches;
    }
      where
        cells : cells_in (takes cluster other v) ≡ cells_in v
        cells = λ i one place. cell_for place (same one i)
          where
            same : (one : ClusterNo) → (cluster_at one (takes cluster other v)).cells ≡ (cluster_at one v).cells
            same one =
                set-cases (λ (c : Cluster). c.cells ≡ (cluster_at one v).cells) v.clusters cluster.number one.number _ (new_cluster 0)
                (λ at. ap (λ (n : ℕ). (slice_index_or v.clusters n (new_cluster 0)).cells) (sym at)) refl

        wrote : batches_in header (takes cluster other v) ≡ batches_in header v
        wrote = λ i s. in_order (flat_map (λ c. flat_map both (cells i c s).written) (all_clusters header))

    -- a table that was below that of a cluster is below what this has then
    below-still : (table : List DomainRecord) (top : ClusterNo) → IsTable table → IsCluster header top → IsBelow table (table_at top v) → IsBelow table (table_at top (takes cluster other v))
    below-still table top first there less =
        below-then table (table_at top v) (table_at top (takes cluster other v)) first (is-table v is top there) (is-table (takes cluster other v) spread top there) less (rises top there)

  -- no cluster's table brings anything to this one's
  abbrev pub IsTop : ClusterNo → World → Type 0
  IsTop cluster v = (one : ClusterNo) → IsCluster header one → IsBelow (table_at one v) (table_at cluster v)

  -- a merge leaves this
  top-stays : (top cluster other : ClusterNo) → IsCluster header top → IsCluster header cluster → IsCluster header other → (v : World) → IsSpread v → IsTop top v → IsTop top (takes cluster other v)
  top-stays top cluster other there known also v is above one here =
      bounded cluster other known also v is one (table_at top (takes cluster other v)) (is-table (takes cluster other v) (spread cluster other known also v is) top there)
      (below-still cluster other known also v is (table_at cluster v) top (is-table v is cluster known) there (above cluster known))
      (below-still cluster other known also v is (table_at other v) top (is-table v is other also) there (above other also))
      (below-still cluster other known also v is (table_at one v) top (is-table v is one here) there (above one here))

  others-known : (cluster other : ClusterNo) → Among other (others_of header cluster) → IsCluster header other
  others-known cluster other among = clusters-among (count_of header.clusters) other (filter-among (λ one. not (same_cluster cluster one)) (all_clusters header) other among).1

  -- a cluster merges the tables of all others
  module _ (cluster : ClusterNo) (known : IsCluster header cluster) where
    -- what stays after each merge stays after all
    all-spread : (Q : World → Type 0) → ((v : World) (other : ClusterNo) → IsCluster header other → IsSpread v → Q v → Q (takes cluster other v)) → (v : World) → IsSpread v → Q v
        → IsSpread (merged_all header v cluster) × Q (merged_all header v cluster)
    all-spread Q stays v is q =
        fold-keeps (λ u. IsSpread u × Q u) (λ u other. takes cluster other u) (others_of header cluster)
        (λ u other among kept. (spread cluster other known (others-known cluster other among) u kept.0, stays u other (others-known cluster other among) kept.0 kept.1)) v (is, q)

    -- a merge of one keeps what is below the cluster's table
    one-stays : (one : ClusterNo) → IsCluster header one → (u : World) (other : ClusterNo) → IsCluster header other → IsSpread u → IsBelow (table_at one u) (table_at cluster u)
        → IsBelow (table_at one (takes cluster other u)) (table_at cluster (takes cluster other u))
    one-stays one there u other also kept less =
        bounded cluster other known also u kept one (table_at cluster (takes cluster other u)) (is-table (takes cluster other u) (spread cluster other known also u kept) cluster known) (rises cluster other known also u kept cluster known)
        (taken cluster other known also u kept) (below-still cluster other known also u kept (table_at one u) cluster (is-table u kept one there) known less)

    -- then no cluster's table brings anything to it
    all-top : (v : World) → IsSpread v → IsTop cluster (merged_all header v cluster)
    all-top v is one there = by (same_cluster cluster one) refl
      where
        by : (t : Bool) → same_cluster cluster one ≡ t → IsBelow (table_at one (merged_all header v cluster)) (table_at cluster (merged_all header v cluster))
        by true e =
            let same : cluster.number ≡ one.number = eqb-true cluster.number one.number e in
            subst (λ (n : ℕ). IsBelow (table_at (record { number = n }) (merged_all header v cluster)) (table_at cluster (merged_all header v cluster))) same
            (merge_idempotent (table_at cluster (merged_all header v cluster)) (is-table (merged_all header v cluster) (all-spread (λ u. Unit {0}) (λ u other there kept q. tt) v is tt).0 cluster known))
        by false e =
            (fold-visit IsSpread (λ u. IsBelow (table_at one u) (table_at cluster u)) (λ u other. takes cluster other u) (others_of header cluster) one
            (among-filter (λ other. not (same_cluster cluster other)) (all_clusters header) one (ap not e) (below-among (count_of header.clusters) one there))
            (λ u other among kept. (spread cluster other known (others-known cluster other among) u kept, one-stays one there u other (others-known cluster other among) kept))
            (λ u kept. bounded cluster one known there u kept one (table_at cluster (takes cluster one u)) (is-table (takes cluster one u) (spread cluster one known there u kept) cluster known)
            (rises cluster one known there u kept cluster known) (taken cluster one known there u kept) (taken cluster one known there u kept))
            v is).1

  -- each cluster merges the tables of all others: then the tables are one
  pub tables-one : (v : World) → IsSpread v → IsSpread (fold (merged_all header) v (all_clusters header)) × OneTable header (fold (merged_all header) v (all_clusters header))
  tables-one v is = (all-kept, one)
    where
      all-kept : IsSpread (fold (merged_all header) v (all_clusters header))
      all-kept =
          fold-keeps IsSpread (merged_all header) (all_clusters header)
          (λ u cluster among kept. (all-spread cluster (clusters-among (count_of header.clusters) cluster among) (λ u. Unit {0}) (λ u other there kept q. tt) u kept tt).0) v is

      tops : (top : ClusterNo) → IsCluster header top → IsTop top (fold (merged_all header) v (all_clusters header))
      tops top there =
          (fold-visit IsSpread (IsTop top) (merged_all header) (all_clusters header) top (below-among (count_of header.clusters) top there)
          (λ u cluster among kept. let known = clusters-among (count_of header.clusters) cluster among in (
            (all-spread cluster known (λ u. Unit {0}) (λ u other there kept q. tt) u kept tt).0,
            λ above. (all-spread cluster known (IsTop top) (λ u other also kept q. top-stays top cluster other there known also u kept q) u kept above).1,
          ))
          (λ u kept. all-top top there u kept) v is).1

      one : OneTable header (fold (merged_all header) v (all_clusters header))
      one first second here there =
          below-one (table_at first (fold (merged_all header) v (all_clusters header))) (table_at second (fold (merged_all header) v (all_clusters header)))
          (is-table (fold (merged_all header) v (all_clusters header)) all-kept first here) (is-table (fold (merged_all header) v (all_clusters header)) all-kept second there)
          (all-kept.reached.fair.records.days first second here there) (tops second there first here) (tops first here second there)
