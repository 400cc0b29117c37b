-- Reports that are taken over from several clusters, in whatever order and however often.
use Rattle.std.proofs.Common.{◌≡◌, ◌≢◌, ◌<◌, ℕ, List, [], ◌∷◌, ◌++◌, length, ◌⊎◌, inl, inr, refl, sym, subst, ap, arith}
use Rattle.std.specs.List.{AllByRecursion}
use Rattle.std.proofs.lemmas.List.{get_or-set_same}
use Rattle.ndc_script_types.specs.WellFormed.{AreTwoClusters, IsCluster}
use Rattle.ndc_script_types.specs.declared.script.Act.TheVariants as act
use Rattle.ndc_script_types.specs.declared.script.Header.{Header}
use Rattle.ndc_domain.specs.declared.clusters.ClusterNo.{ClusterNo}
use Rattle.ndc_laws.specs.TakenOver.{HaveTheSameClusters, synced}
use Rattle.ndc_laws.proofs.HeldLemmas.{IsTold, agree, held-alike}
use Rattle.ndc_model.specs.Facts.{IsReached}
use Rattle.ndc_model.specs.Lines.{act_step}
use Rattle.ndc_model.specs.Progress.{with_reports}
use Rattle.ndc_model.specs.World.{Cluster, World, cluster_at, new_cluster}
use Rattle.ndc_model.proofs.ListLemmas.{set-length}
use Rattle.ndc_laws_cells.proofs.Lists.{among-is, is-among}
use Rattle.ndc_model.proofs.WorldLemmas.{set-cases}
use Rattle.ndc_model_sets.proofs.ForkLemmas.{among-cases, among-left, among-right}
use Rattle.ndc_model_sets.proofs.Lists.{Among, all-among}
use Rattle.ndc_progress.specs.Reports.{held}
use Rattle.ndc_progress.specs.declared.report.ActivityRef.{ActivityRef}
use Rattle.ndc_progress.specs.declared.report.Report.{Report}

-- a report of one of these clusters
abbrev IsOfSome : World → List ClusterNo → Report → Type 0
IsOfSome w froms report = (from : ClusterNo) × Among from froms × Among report (cluster_at from w).reports

module _ (header : Header) (to : ClusterNo) where
  -- the world after one `sync`
  abbrev once : ClusterNo → World → World
  once from w = with_reports to ((cluster_at to w).reports ++ (cluster_at from w).reports) w

  sync-world : (from : ClusterNo) (w : World) → (act_step header (act.Sync to from) w).world ≡ once from w
  unfolding act_step
  sync-world from w = refl

  own-grows : (from : ClusterNo) (w : World) → to.number < length w.clusters → (cluster_at to (once from w)).reports ≡ (cluster_at to w).reports ++ (cluster_at from w).reports
  own-grows from w within = ap (λ (c : Cluster). c.reports) (get_or-set_same w.clusters to.number (record (cluster_at to w) { reports = (cluster_at to w).reports ++ (cluster_at from w).reports }) (new_cluster 0) within)

  others-stay : (from other : ClusterNo) (w : World) → to.number ≢ other.number → (cluster_at other (once from w)).reports ≡ (cluster_at other w).reports
  others-stay from other w differ =
      set-cases (λ (c : Cluster). c.reports ≡ (cluster_at other w).reports) w.clusters to.number other.number _ (new_cluster 0) (λ at. absurd (differ (sym at))) refl

  still-within : (from : ClusterNo) (w : World) → to.number < length w.clusters → to.number < length (once from w).clusters
  still-within from w within = subst (λ n. to.number < n) (sym (set-length w.clusters to.number _)) within

  -- what a cluster has after taking over is its own, or was another's
  synced-from : (froms : List ClusterNo) (w : World) → to.number < length w.clusters → AllByRecursion (AreTwoClusters header to) froms
      → (report : Report) → Among report (cluster_at to (synced header to froms w)).reports → Among report (cluster_at to w).reports ⊎ IsOfSome w froms report
  synced-from [] w within two report among = inl among
  synced-from (from ∷ froms) w within two report among =
      by (synced-from froms (once from w) (still-within from w within) two.1 report (subst (λ (v : World). Among report (cluster_at to (synced header to froms v)).reports) (sync-world from w) among))
    where
      own : Among report (cluster_at to w).reports ⊎ Among report (cluster_at from w).reports → Among report (cluster_at to w).reports ⊎ IsOfSome w (from ∷ froms) report
      own (inl h) = inl h
      own (inr h) = inr (from, inl refl, h)

      by : Among report (cluster_at to (once from w)).reports ⊎ IsOfSome (once from w) froms report → Among report (cluster_at to w).reports ⊎ IsOfSome w (from ∷ froms) report
      by (inl h) = own (among-cases report (cluster_at to w).reports (cluster_at from w).reports (subst (Among report) (own-grows from w within) h))
      by (inr h) =
          let differ = (all-among (AreTwoClusters header to) froms h.0 two.1 h.1).differ in
          inr (h.0, inr h.1, subst (Among report) (others-stay from h.0 w differ) h.2)

  -- its own it has still
  synced-own : (froms : List ClusterNo) (w : World) → to.number < length w.clusters → (report : Report) → Among report (cluster_at to w).reports → Among report (cluster_at to (synced header to froms w)).reports
  synced-own [] w within report among = among
  synced-own (from ∷ froms) w within report among =
      subst (λ (v : World). Among report (cluster_at to (synced header to froms v)).reports) (sym (sync-world from w))
      (synced-own froms (once from w) (still-within from w within) report
      (subst (Among report) (sym (own-grows from w within)) (among-left report (cluster_at to w).reports (cluster_at from w).reports among)))

  -- and those of the others
  synced-others : (froms : List ClusterNo) (w : World) → to.number < length w.clusters → AllByRecursion (AreTwoClusters header to) froms
      → (from : ClusterNo) → Among from froms → (report : Report) → Among report (cluster_at from w).reports → Among report (cluster_at to (synced header to froms w)).reports
  synced-others [] w within two from none report among = absurd none
  synced-others (first ∷ froms) w within two from (inl same) report among =
      subst (λ (v : World). Among report (cluster_at to (synced header to froms v)).reports) (sym (sync-world first w))
      (synced-own froms (once first w) (still-within first w within) report
      (subst (Among report) (sym (own-grows first w within)) (among-right report (cluster_at to w).reports (cluster_at first w).reports (subst (λ (c : ClusterNo). Among report (cluster_at c w).reports) same among))))
  synced-others (first ∷ froms) w within two from (inr there) report among =
      subst (λ (v : World). Among report (cluster_at to (synced header to froms v)).reports) (sym (sync-world first w))
      (synced-others froms (once first w) (still-within first w within) two.1 from there report
      (subst (Among report) (sym (others-stay first from w (all-among (AreTwoClusters header to) froms from two.1 there).differ)) among))

module _ (header : Header) (lines : ℕ) (w : World) (is : IsReached header lines w) (to : ClusterNo) (known : IsCluster header to) where
  within : to.number < length w.clusters
  within = omega (arith, known, is.shaped.clusters)

  told : (froms : List ClusterNo) → AllByRecursion (AreTwoClusters header to) froms → (report : Report) → Among report (cluster_at to (synced header to froms w)).reports → IsTold header lines w is report
  told froms two report among = by (synced-from header to froms w within two report among)
    where
      by : Among report (cluster_at to w).reports ⊎ IsOfSome w froms report → IsTold header lines w is report
      by (inl h) = (to, known, h)
      by (inr h) = (h.0, (all-among (AreTwoClusters header to) froms h.0 two h.1).second, h.2)

  -- what is taken over from some of the clusters is taken over from more of them
  more-taken : (one two : List ClusterNo) → AllByRecursion (AreTwoClusters header to) one → AllByRecursion (AreTwoClusters header to) two → ((cluster : ClusterNo) → Among cluster one → Among cluster two)
      → (report : Report) → Among report (cluster_at to (synced header to one w)).reports → Among report (cluster_at to (synced header to two w)).reports
  more-taken one two first second more report among = by (synced-from header to one w within first report among)
    where
      by : Among report (cluster_at to w).reports ⊎ IsOfSome w one report → Among report (cluster_at to (synced header to two w)).reports
      by (inl h) = synced-own header to two w within report h
      by (inr h) = synced-others header to two w within second h.0 (more h.0 h.1) report h.2

  pub same-taken : (one two : List ClusterNo) (activity : ActivityRef) → AllByRecursion (AreTwoClusters header to) one → AllByRecursion (AreTwoClusters header to) two → HaveTheSameClusters one two
      → held activity (cluster_at to (synced header to one w)).reports ≡ held activity (cluster_at to (synced header to two w)).reports
  same-taken one two activity first second same =
      held-alike activity (cluster_at to (synced header to one w)).reports (cluster_at to (synced header to two w)).reports
      (λ x y h k. agree header lines w is activity x y (told one first x h) (told two second y k))
      (more-taken one two first second (λ c h. is-among two c (same.there c (among-is one c h))))
      (more-taken two one second first (λ c h. is-among one c (same.back c (among-is two c h))))
