-- The reports of a cluster become more.
use Rattle.std.proofs.Common.{◌≡◌, ℕ, zero, suc, ◌<◌, ◌≤◌, List, [], ◌∷◌, ◌++◌, length, slice_index_or, Option, Some, None, ◌⊎◌, inl, inr, refl, sym, ◌∙◌, subst, ap, arith}
use Rattle.std.specs.Prelude.{IsSomeAnd}
use Rattle.std.specs.List.{AllByRecursion, IsAmong}
use Rattle.std.proofs.lemmas.List.{get_or-set_same}
use Rattle.ndc_script_types.specs.WellFormed.{AreTwoClusters, IsCluster}
use Rattle.ndc_script_types.specs.declared.script.Header.{Header}
use Rattle.ndc_model_cells.specs.Jobs.{cell_for}
use Rattle.ndc_domain.specs.Clusters.{writer_of}
use Rattle.ndc_domain.specs.declared.clusters.ClusterNo.{ClusterNo}
use Rattle.ndc_model.specs.Facts.{IsReached}
use Rattle.ndc_model.specs.Fair.{IsShaped}
use Rattle.ndc_model.specs.Progress.{sync_step, with_reports}
use Rattle.ndc_model.specs.World.{Cluster, World, cluster_at, new_cluster}
use Rattle.ndc_model.proofs.ListLemmas.{all-set}
use Rattle.ndc_laws_cells.proofs.Lists.{among-is, is-among}
use Rattle.ndc_model.proofs.WorldLemmas.{set-cases}
use Rattle.ndc_progress.specs.declared.report.Report.{Report}
use Rattle.ndc_model_sets.proofs.ForkLemmas.{among-cases, among-left, among-right}
use Rattle.ndc_model_sets.proofs.Lists.{Among, all-among, all-from}
use Rattle.ndc_laws_reached.proofs.FrameLemmas.{cells_in, fair-alike, handovers-alike, letters-alike, letters_in, queues-same, ranges-alike, tables_in, wrote-same}
use Rattle.ndc_laws_reached.proofs.Lists.{length-set}

-- two reports that are of one activity, version and beat are one
abbrev pub AreOne : Report → Report → Type 0
AreOne report other = report.activity ≡ other.activity → report.version ≡ other.version → report.beat ≡ other.beat → report ≡ other

-- a report stands in the list of its version's writer
abbrev pub IsTold : Header → World → Report → Type 0
IsTold header w report = IsSomeAnd (writer_of header.clusters report.version) (λ writer. IsAmong (cluster_at writer w).reports report)

module _ (header : Header) (lines : ℕ) (cluster : ClusterNo) (more : List Report) (w : World) (is : IsReached header lines w) (known : IsCluster header cluster) where
  abbrev pub v : World
  v = with_reports cluster ((cluster_at cluster w).reports ++ more) w

  within : cluster.number < length w.clusters
  within = omega (arith, known, is.shaped.clusters)

  -- a part of clusters that is not their reports
  by-part : {X : Type 0} (part : Cluster → X) → ((c : Cluster) → part (record c { reports = (cluster_at cluster w).reports ++ more }) ≡ part c) → (other : ClusterNo) → part (cluster_at other v) ≡ part (cluster_at other w)
  by-part part same other =
      set-cases (λ (c : Cluster). part c ≡ part (cluster_at other w)) w.clusters cluster.number other.number _ (new_cluster 0)
      (λ at. same (cluster_at cluster w) ∙ ap (λ (n : ℕ). part (slice_index_or w.clusters n (new_cluster 0))) (sym at)) refl

  tables : tables_in v ≡ tables_in w
  tables = λ i other. by-part (λ c. c.table) (λ c. refl) other i

  letters : letters_in v ≡ letters_in w
  letters = λ i other. by-part (λ c. c.letters) (λ c. refl) other i

  cells : cells_in v ≡ cells_in w
  cells = λ i other place. cell_for place (by-part (λ c. c.cells) (λ c. refl) other i)

  shaped : IsShaped header v
  shaped = record {
    clusters = length-set w.clusters cluster.number _ ∙ is.shaped.clusters;
    cells = all-set (λ c. length c.cells ≡ header.shards) w.clusters cluster.number _ (at-cluster w.clusters cluster.number is.shaped.cells within) is.shaped.cells;
    links = is.shaped.links;
    ends = is.shaped.ends;
    lanes = is.shaped.lanes;
    sources = is.shaped.sources;
    trimmed = is.shaped.trimmed;
  }
    where
      at-cluster : (clusters : List Cluster) (i : ℕ) → AllByRecursion (λ c. length c.cells ≡ header.shards) clusters → i < length clusters → length (slice_index_or clusters i (new_cluster 0)).cells ≡ header.shards
      at-cluster [] i all less = absurd (omega (arith, less))
      at-cluster (c ∷ cs) zero all less = all.0
      at-cluster (c ∷ cs) (suc i) all less = at-cluster cs i all.1 (omega (arith, less))

  -- what a cluster has told or taken over it has still
  grows : (other : ClusterNo) (report : Report) → Among report (cluster_at other w).reports → Among report (cluster_at other v).reports
  grows other report among =
      set-cases (λ (c : Cluster). Among report c.reports) w.clusters cluster.number other.number _ (new_cluster 0)
      (λ at. among-left report (cluster_at cluster w).reports more (subst (λ (n : ℕ). Among report (slice_index_or w.clusters n (new_cluster 0)).reports) at among)) among

  -- what comes to the cluster stands there
  pub comes : (report : Report) → Among report more → Among report (cluster_at cluster v).reports
  comes report among =
      subst (λ (c : Cluster). Among report c.reports) (sym (get_or-set_same w.clusters cluster.number (record (cluster_at cluster w) { reports = (cluster_at cluster w).reports ++ more }) (new_cluster 0) within))
      (among-right report (cluster_at cluster w).reports more among)

  -- a report stood there, or it is one of those that came
  stood : (other : ClusterNo) (report : Report) → IsCluster header other → Among report (cluster_at other v).reports → ((c : ClusterNo) × IsCluster header c × Among report (cluster_at c w).reports) ⊎ Among report more
  stood other report there =
      set-cases (λ (c : Cluster). Among report c.reports → ((c : ClusterNo) × IsCluster header c × Among report (cluster_at c w).reports) ⊎ Among report more) w.clusters cluster.number other.number _ (new_cluster 0)
      (λ at among. by (among-cases report (cluster_at cluster w).reports more among)) (λ among. inl (other, there, among))
    where
      by : Among report (cluster_at cluster w).reports ⊎ Among report more → ((c : ClusterNo) × IsCluster header c × Among report (cluster_at c w).reports) ⊎ Among report more
      by (inl among) = inl (cluster, known, among)
      by (inr among) = inr among

  -- a report is told still
  told-still : (report : Report) → IsTold header w report → IsTold header v report
  told-still report = by (writer_of header.clusters report.version)
    where
      by : (o : Option ClusterNo) → IsSomeAnd o (λ writer. IsAmong (cluster_at writer w).reports report) → IsSomeAnd o (λ writer. IsAmong (cluster_at writer v).reports report)
      by None none = none
      by (Some writer) some = among-is (cluster_at writer v).reports report (grows writer report (is-among (cluster_at writer w).reports report some))

  -- more reports may come to a cluster: their beats are small, each is told then, and they are one with those that agree with them
  pub reports-more : (count : ℕ) → AllByRecursion (λ report. report.beat ≤ count) more → IsReached header count w → AllByRecursion (IsTold header v) more
      → ((one other : Report) → Among one more → Among other more → AreOne one other)
      → ((one other : Report) → Among one more → (c : ClusterNo) → IsCluster header c → Among other (cluster_at c w).reports → AreOne one other)
      → IsReached header count v
  reports-more count small now told among-them with-others = record {
    shaped = shaped;
    fair = fair-alike header v w count cells tables refl refl now.fair;
    ranges = ranges-alike header v w (wrote-same header v w count cells tables refl refl).batches now.ranges;
    handovers = handovers-alike header v w tables (queues-same header v w count cells tables refl refl) refl now.handovers;
    letters = letters-alike header v w tables (queues-same header v w count cells tables refl refl) letters now.letters;
    beats = λ other there. all-from (λ report. report.beat ≤ count) (cluster_at other v).reports (λ report among. beat report (stood other report there among));
    reports = record {
      one = λ first second one other there also at_first at_second. agree one other
          (stood first one there (is-among (cluster_at first v).reports one at_first)) (stood second other also (is-among (cluster_at second v).reports other at_second));
      told = λ other there. all-from (IsTold header v) (cluster_at other v).reports (λ report among. tells report (stood other report there among));
    };
  }
    where
      Stood : Report → Type 0
      Stood report = ((c : ClusterNo) × IsCluster header c × Among report (cluster_at c w).reports) ⊎ Among report more

      beat : (report : Report) → Stood report → report.beat ≤ count
      beat report (inl at) = all-among (λ r. r.beat ≤ count) (cluster_at at.0 w).reports report (now.beats at.0 at.1) at.2
      beat report (inr among) = all-among (λ r. r.beat ≤ count) more report small among

      tells : (report : Report) → Stood report → IsTold header v report
      tells report (inl at) = told-still report (all-among (IsTold header w) (cluster_at at.0 w).reports report (now.reports.told at.0 at.1) at.2)
      tells report (inr among) = all-among (IsTold header v) more report told among

      agree : (one other : Report) → Stood one → Stood other → AreOne one other
      agree one other (inl at) (inl also) =
          now.reports.one at.0 also.0 one other at.1 also.1 (among-is (cluster_at at.0 w).reports one at.2) (among-is (cluster_at also.0 w).reports other also.2)
      agree one other (inl at) (inr among) = λ activity version beats. sym (with-others other one among at.0 at.1 at.2 (sym activity) (sym version) (sym beats))
      agree one other (inr among) (inl at) = with-others one other among at.0 at.1 at.2
      agree one other (inr among) (inr also) = among-them one other among also

-- one cluster may take over the reports of another
pub sync_kept : (header : Header) (lines : ℕ) (to from : ClusterNo) (w : World) → AreTwoClusters header to from → IsReached header lines w → IsReached header lines (sync_step to from w).world
sync_kept header lines to from w two is =
    reports-more header lines to theirs w is two.first lines (is.beats from two.second) is
    (all-from (IsTold header (v header lines to theirs w is two.first)) theirs (λ report among. told-still header lines to theirs w is two.first report (all-among (IsTold header w) theirs report (is.reports.told from two.second) among)))
    (λ one other first second. is.reports.one from from one other two.second two.second (among-is theirs one first) (among-is theirs other second))
    (λ one other first c there second. is.reports.one from c one other two.second there (among-is theirs one first) (among-is (cluster_at c w).reports other second))
  where
    theirs : List Report
    theirs = (cluster_at from w).reports
