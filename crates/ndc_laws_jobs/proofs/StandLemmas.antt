-- Clusters without progress reports, and reports beside them, do what the clusters of the world do for which they stand.
use Rattle.std.proofs.Common.{◌≡◌, ℕ, zero, suc, false, List, [], ◌∷◌, ◌++◌, length, map, decimal, slice_index_or, slice_set, Option, Some, None, Result, Ok, Err, refl, sym, ◌∙◌, ap, subst}
use Rattle.std.specs.List.{AllByRecursion}
use Rattle.std.proofs.lemmas.List.{length-map}
use Rattle.ndc_script_types.specs.declared.script.Act.{Act}
use Rattle.ndc_script_types.specs.declared.script.Header.{Header}
use Rattle.ndc_script_types.specs.declared.script.Line.{Line}
use Rattle.ndc_model_cells.specs.Cells.{learned_of}
use Rattle.ndc_model_cells.specs.Jobs.{cell_for}
use Rattle.ndc_model_cells.specs.Shards.{shard_of}
use Rattle.ndc_command.specs.declared.refusal.CommandError.{CommandError}
use Rattle.ndc_domain.specs.declared.clusters.ClusterNo.{ClusterNo}
use Rattle.ndc_event.specs.declared.name.Name.{Name}
use Rattle.ndc_model.specs.Lines.{act_step, answer_text}
use Rattle.ndc_model.specs.Progress.{activity_answer, beat_by, beat_step, beat_unless, pending_activity, progress_answer, report_answer, sync_step, told_of, with_reports}
use Rattle.ndc_model.specs.Reading.{learned_at, read_answer, tip_answer}
use Rattle.ndc_model.specs.Steps.{Stepped}
use Rattle.ndc_model.specs.Texts.{ok}
use Rattle.ndc_model.specs.World.{Cluster, World, cluster_at, new_cluster}
use Rattle.ndc_progress.specs.Reports.{greatest_of, held, merge_count, merged, next_beat, next_report, stale_by, with_report}
use Rattle.ndc_progress.specs.declared.report.ActivityRef.{ActivityRef}
use Rattle.ndc_progress.specs.declared.report.Report.{Report}
use Rattle.ndc_progress.proofs.OrderLemmas.{held_greatest}
use Rattle.ndc_model_sets.specs.Branches.{workflow_tip}
use Rattle.ndc_model.specs.Bare.{bare_cluster, bare_step, is_on_reports}
use Rattle.ndc_model.specs.Reporting.{shown_of, told_at, told_by, told_unless}
use Rattle.ndc_model.specs.Standing.{AreLeftBy, IsLeftBy, StandFor, reports_of}
use Rattle.ndc_progress.proofs.GreatestLemmas.{all-greatest, count_greatest, greatest_joined, greatest_more, next_greatest}
use Rattle.ndc_laws_jobs.proofs.KeepLemmas.{line-keeps}
use Rattle.ndc_laws_jobs.proofs.MoveLemmas.{same-at}
use Rattle.ndc_laws_jobs.proofs.BareStepLemmas.{line-bare}

-- the greatest reports of each cluster, found and put
at-greatest : (clusters : List Cluster) (i : ℕ) → slice_index_or (map greatest_of (map (λ (c : Cluster). c.reports) clusters)) i [] ≡ greatest_of (slice_index_or clusters i (new_cluster 0)).reports
at-greatest [] i = refl
at-greatest (c ∷ clusters) zero = refl
at-greatest (c ∷ clusters) (suc i) = at-greatest clusters i

put-greatest : (clusters : List Cluster) (i : ℕ) (c : Cluster) → map greatest_of (map (λ (d : Cluster). d.reports) (slice_set clusters i c)) ≡ slice_set (map greatest_of (map (λ (d : Cluster). d.reports) clusters)) i (greatest_of c.reports)
put-greatest [] i c = refl
put-greatest (d ∷ clusters) zero c = refl
put-greatest (d ∷ clusters) (suc i) c = ap (λ l. greatest_of d.reports ∷ l) (put-greatest clusters i c)

-- a cluster without its reports, whatever these become
put-bare : (clusters : List Cluster) (i : ℕ) (reports : List Report) → map bare_cluster (slice_set clusters i (record (slice_index_or clusters i (new_cluster 0)) { reports = reports })) ≡ map bare_cluster clusters
put-bare [] i reports = refl
put-bare (c ∷ clusters) zero reports = refl
put-bare (c ∷ clusters) (suc i) reports = ap (λ l. bare_cluster c ∷ l) (put-bare clusters i reports)

-- what is put where it stands
put-own : (l : List (List Report)) (i : ℕ) → slice_set l i (slice_index_or l i []) ≡ l
put-own [] i = refl
put-own (x ∷ l) zero = refl
put-own (x ∷ l) (suc i) = ap (λ m. x ∷ m) (put-own l i)

module _ (v : World) (reports : List (List Report)) (w : World) (stand : StandFor v reports w) where
  -- what a cluster holds
  own-is : (cluster : ClusterNo) → slice_index_or reports cluster.number [] ≡ greatest_of (cluster_at cluster w).reports
  own-is cluster = ap (λ (l : List (List Report)). slice_index_or l cluster.number []) stand.reports ∙ at-greatest w.clusters cluster.number

  -- what holds of all of its reports holds of those
  pub all-held : (P : Report → Type 0) (cluster : ClusterNo) → AllByRecursion P (cluster_at cluster w).reports → AllByRecursion P (slice_index_or reports cluster.number [])
  all-held P cluster all = subst (AllByRecursion P) (sym (own-is cluster)) (all-greatest P (cluster_at cluster w).reports all)

  -- there are reports of each cluster
  pub as-many : length reports ≡ length w.clusters
  as-many = ap (λ (l : List (List Report)). length l) stand.reports ∙ length-map (reports_of w) greatest_of ∙ length-map w.clusters (λ (c : Cluster). c.reports)

  -- it comes to hold the greatest of other reports
  stands-put : (cluster : ClusterNo) (own all : List Report) → own ≡ greatest_of all → StandFor v (slice_set reports cluster.number own) (with_reports cluster all w)
  stands-put cluster own all e = record {
    clusters = stand.clusters ∙ ap (λ (l : List Cluster). record w { clusters = l }) (sym (put-bare w.clusters cluster.number all));
    reports = (λ i. slice_set (stand.reports i) cluster.number (e i)) ∙ sym (put-greatest w.clusters cluster.number (record (cluster_at cluster w) { reports = all }));
  }

  -- what it holds stays
  stands-still : (cluster : ClusterNo) → StandFor v (slice_set reports cluster.number (slice_index_or reports cluster.number [])) w
  stands-still cluster = subst (λ (l : List (List Report)). StandFor v l w) (sym (put-own reports cluster.number)) stand

  -- it holds the same of an activity
  held-is : (cluster : ClusterNo) (activity : ActivityRef) → held activity (slice_index_or reports cluster.number []) ≡ held activity (cluster_at cluster w).reports
  held-is cluster activity = ap (held activity) (own-is cluster) ∙ held_greatest activity (cluster_at cluster w).reports

  unless-left : (cluster : ClusterNo) (version : ℕ) (activity : ActivityRef) (details : Name) (o : Option ℕ)
      → IsLeftBy (beat_unless cluster version activity details w o) v (slice_set reports cluster.number (told_unless version activity details (slice_index_or reports cluster.number []) o).reports)
      (told_unless version activity details (slice_index_or reports cluster.number []) o).answer []
  unless-left cluster version activity details (Some stale) = record { stands = stands-still cluster; answer = refl; seen = refl }
  unless-left cluster version activity details None = record {
    stands = stands-put cluster (with_report own (next_report activity version details own)) (all ++ next_report activity version details all ∷ []) joined;
    answer = ap (λ o. ok (decimal version ∷ decimal (next_beat version o) ∷ [])) (held-is cluster activity);
    seen = refl;
  }
    where
      own : List Report
      own = slice_index_or reports cluster.number []

      all : List Report
      all = (cluster_at cluster w).reports

      joined : with_report own (next_report activity version details own) ≡ greatest_of (all ++ next_report activity version details all ∷ [])
      joined =
          ap (λ (l : List Report). with_report l (next_report activity version details l)) (own-is cluster)
          ∙ ap (with_report (greatest_of all)) (next_greatest activity version details all)
          ∙ sym (greatest_more all (next_report activity version details all))

  by-left : (cluster : ClusterNo) (details : Name) (r : Result (ℕ × ActivityRef) CommandError)
      → IsLeftBy (beat_by cluster details w r) v (slice_set reports cluster.number (told_by details (slice_index_or reports cluster.number []) r).reports) (told_by details (slice_index_or reports cluster.number []) r).answer []
  by-left cluster details (Err error) = record { stands = stands-still cluster; answer = refl; seen = refl }
  by-left cluster details (Ok told) =
      subst
      (λ (o : Option ℕ). IsLeftBy (beat_unless cluster told.0 told.1 details w o) v (slice_set reports cluster.number (told_unless told.0 told.1 details own (stale_by told.0 (held told.1 own))).reports)
      (told_unless told.0 told.1 details own (stale_by told.0 (held told.1 own))).answer [])
      (ap (stale_by told.0) (held-is cluster told.1))
      (unless-left cluster told.0 told.1 details (stale_by told.0 (held told.1 own)))
    where
      own : List Report
      own = slice_index_or reports cluster.number []

  module _ (header : Header) where
    told-is : (cluster : ClusterNo) (domain workflow id : Name) → told_at header cluster domain workflow id v ≡ told_at header cluster domain workflow id w
    told-is cluster domain workflow id =
        ap (told_at header cluster domain workflow id) stand.clusters
        ∙ same-at w (λ c. told_of (record { clusters = header.clusters; me = cluster; limit = header.limit; table = c.table }) domain workflow id (cell_for (shard_of domain workflow header.shards) c.cells)) cluster (λ c. refl)

    -- `beat`
    pub beat-left : (cluster : ClusterNo) (domain workflow id details : Name)
        → IsLeftBy (beat_step header cluster domain workflow id details w) v
        (slice_set reports cluster.number (told_by details (slice_index_or reports cluster.number []) (told_at header cluster domain workflow id v)).reports)
        (told_by details (slice_index_or reports cluster.number []) (told_at header cluster domain workflow id v)).answer []
    beat-left cluster domain workflow id details =
        subst
        (λ (r : Result (ℕ × ActivityRef) CommandError). IsLeftBy (beat_step header cluster domain workflow id details w) v
        (slice_set reports cluster.number (told_by details (slice_index_or reports cluster.number []) r).reports) (told_by details (slice_index_or reports cluster.number []) r).answer [])
        (sym (told-is cluster domain workflow id))
        (by-left cluster details (told_at header cluster domain workflow id w))

    -- `progress`
    pub progress-left : (cluster : ClusterNo) (domain workflow id : Name)
        → shown_of domain workflow id (slice_index_or reports cluster.number []) (learned_at header cluster domain workflow v) ≡ progress_answer header cluster domain workflow id w
    progress-left cluster domain workflow id =
        ap (λ u. shown_of domain workflow id own (learned_at header cluster domain workflow u)) stand.clusters
        ∙ same-at w (λ c. shown_of domain workflow id own (learned_of domain workflow (cell_for (shard_of domain workflow header.shards) c.cells))) cluster (λ c. refl)
        ∙ (λ i. read_answer (λ l. tip_answer (λ tip. same (pending_activity domain workflow id l tip) i) (workflow_tip l)) (learned_at header cluster domain workflow w))
      where
        own : List Report
        own = slice_index_or reports cluster.number []

        same : (r : Result ActivityRef CommandError) → activity_answer own r ≡ activity_answer (cluster_at cluster w).reports r
        same (Err error) = refl
        same (Ok activity) = ap report_answer (held-is cluster activity)

    -- a line that is not on reports
    pub line-left : (line : Act) → is_on_reports line ≡ false → IsLeftBy (act_step header line w) (act_step header line v).world reports (act_step header line v).answer (act_step header line v).seen
    line-left line other = record {
      stands = record {
        clusters = ap (λ (s : Stepped). s.world) same;
        reports = stand.reports ∙ ap (λ (l : List (List Report)). map greatest_of l) (sym (line-keeps header line w other));
      };
      answer = ap (λ (s : Stepped). s.answer) same;
      seen = ap (λ (s : Stepped). s.seen) same;
    }
      where
        same : act_step header line v ≡ bare_step (act_step header line w)
        same = ap (act_step header line) stand.clusters ∙ line-bare header line w other

  -- `sync`
  pub sync-left : (to from : ClusterNo)
      → IsLeftBy (sync_step to from w) v (slice_set reports to.number (merged (slice_index_or reports to.number []) (slice_index_or reports from.number [])))
      (ok (decimal (merge_count (slice_index_or reports to.number []) (slice_index_or reports from.number [])) ∷ [])) []
  sync-left to from = record {
    stands = stands-put to (merged (slice_index_or reports to.number []) (slice_index_or reports from.number [])) ((cluster_at to w).reports ++ (cluster_at from w).reports)
        ((λ i. merged (own-is to i) (own-is from i)) ∙ sym (greatest_joined (cluster_at to w).reports (cluster_at from w).reports));
    answer = ap (λ n. ok (decimal n ∷ [])) ((λ i. merge_count (own-is to i) (own-is from i)) ∙ count_greatest (cluster_at to w).reports (cluster_at from w).reports);
    seen = refl;
  }

-- lines that are not on reports, one after the other
pub lines-left : (header : Header) (lines : List Line) (v : World) (reports : List (List Report)) (w : World) → AllByRecursion (λ line. is_on_reports line.act ≡ false) lines → StandFor v reports w
    → AreLeftBy header lines v reports w
lines-left header [] v reports w others stand = record { stands = stand; answers = refl; seen = refl }
lines-left header (line ∷ lines) v reports w others stand =
    let first = line-left v reports w stand header line.act others.0 in
    let rest = lines-left header lines (act_step header line.act v).world reports (act_step header line.act w).world others.1 first.stands in
    record {
      stands = rest.stands;
      answers = λ i. answer_text (record { number = line.number; step = record { world = (act_step header line.act w).world; answer = first.answer i; seen = [] } }) ++ rest.answers i;
      seen = λ i. first.seen i ++ rest.seen i;
    }
