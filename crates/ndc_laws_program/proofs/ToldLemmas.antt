-- Each progress report was told by a line of the cluster that writes with its version.
use Rattle.std.proofs.Common.{◌≡◌, ℕ, zero, suc, ◌+◌, ◌<◌, ◌≤◌, List, [], ◌∷◌, ◌++◌, length, map, slice_index_or, Option, Some, None, Result, Ok, Err, ◌⊎◌, inl, inr, append-nil, append_assoc, refl, sym, ◌∙◌, subst, ap, arith}
use Rattle.std.specs.List.{AllByRecursion}
use Rattle.std.proofs.Math.ListN.{get_or-map}
use Rattle.std.proofs.lemmas.List.{get_or-set_same, length-append}
use Rattle.ndc_script_types.specs.Print.{body_lines, header_lines}
use Rattle.ndc_script_types.specs.WellFormed.{IsCluster, IsWellFormed, IsWellFormedAct, IsWellFormedHeader}
use Rattle.ndc_script_types.specs.declared.script.Act.{Act}
use Rattle.ndc_script_types.specs.declared.script.Act.TheVariants as act
use Rattle.ndc_script_types.specs.declared.script.Header.{Header}
use Rattle.ndc_script_types.specs.declared.script.Line.{Line}
use Rattle.ndc_command.specs.declared.refusal.CommandError.{CommandError}
use Rattle.ndc_domain.specs.Clusters.{writer_of}
use Rattle.ndc_domain.specs.declared.clusters.ClusterNo.{ClusterNo}
use Rattle.ndc_event.specs.declared.name.Name.{Name}
use Rattle.ndc_laws.specs.Grown.{IsWellFormedLine, world_after}
use Rattle.ndc_laws.specs.Promised.{world_before}
use Rattle.ndc_laws.proofs.FrontLemmas.{front-script}
use Rattle.ndc_laws.proofs.LinesBefore.{front-fits}
use Rattle.ndc_laws.proofs.ScriptLemmas.{after-both}
use Rattle.ndc_model.specs.Standing.{reports_of}
use Rattle.ndc_laws_jobs.proofs.KeepLemmas.{line-keeps}
use Rattle.ndc_laws_program.specs.Told.{Tells, WasTold}
use Rattle.ndc_laws_reached.proofs.BeatLemmas.{told-own}
use Rattle.ndc_laws_reached.proofs.HandoverLemmas.{writer-is}
use Rattle.ndc_laws_reached.proofs.ReachedLemmas.{line_reached}
use Rattle.ndc_laws_reached.proofs.ScriptLemmas.{lines-short}
use Rattle.ndc_model.specs.Facts.{IsReached}
use Rattle.ndc_model.specs.Laws.{script_of}
use Rattle.ndc_model.specs.Lines.{act_step, plain_lines}
use Rattle.ndc_model.specs.Progress.{beat_by, beat_unless, told_of, with_reports}
use Rattle.ndc_model.specs.World.{Cluster, World, all_clusters, cell_of, cluster_at, home_at, new_cluster, opening_world}
use Rattle.ndc_model.proofs.FairLemmas.{opening_reached}
use Rattle.ndc_model.proofs.ListLemmas.{all-listed}
use Rattle.ndc_model.proofs.WorldLemmas.{set-cases}
use Rattle.ndc_model_sets.proofs.ForkLemmas.{among-cases}
use Rattle.ndc_model_sets.proofs.Lists.{Among, all-from}
use Rattle.ndc_progress.specs.Reports.{held, next_report, stale_by}
use Rattle.ndc_progress.specs.declared.report.ActivityRef.{ActivityRef}
use Rattle.ndc_progress.specs.declared.report.Report.{Report}

-- a report stood at some cluster in a world
abbrev Stood : Header → World → Report → Type 0
Stood header w report = (cluster : ClusterNo) × IsCluster header cluster × Among report (cluster_at cluster w).reports

-- each report of a world stood in the one before, or is told by the line between
abbrev StoodOrIsTold : Header → Act → World → World → Type 0
StoodOrIsTold header asked w v = (cluster : ClusterNo) → IsCluster header cluster → (report : Report) → Among report (cluster_at cluster v).reports → Stood header w report ⊎ Tells header asked w v report

same-stood : (header : Header) (asked : Act) (w v : World) → reports_of v ≡ reports_of w → StoodOrIsTold header asked w v
same-stood header asked w v same cluster known report among = inl (cluster, known, subst (Among report) here among)
  where
    here : (cluster_at cluster v).reports ≡ (cluster_at cluster w).reports
    here =
        sym (get_or-map (λ (c : Cluster). c.reports) v.clusters cluster.number (new_cluster 0)) ∙ ap (λ (lists : List (List Report)). slice_index_or lists cluster.number []) same
        ∙ get_or-map (λ (c : Cluster). c.reports) w.clusters cluster.number (new_cluster 0)

-- where reports come to a cluster, each report stood there or is one of them
more-stood : (header : Header) (to : ClusterNo) (more : List Report) (w : World) → IsCluster header to → (cluster : ClusterNo) → IsCluster header cluster → (report : Report)
    → Among report (cluster_at cluster (with_reports to ((cluster_at to w).reports ++ more) w)).reports → Stood header w report ⊎ Among report more
more-stood header to more w here cluster known report =
    set-cases (λ (c : Cluster). Among report c.reports → Stood header w report ⊎ Among report more) w.clusters to.number cluster.number _ (new_cluster 0)
    (λ at among. by (among-cases report (cluster_at to w).reports more among)) (λ among. inl (cluster, known, among))
  where
    by : Among report (cluster_at to w).reports ⊎ Among report more → Stood header w report ⊎ Among report more
    by (inl among) = inl (to, here, among)
    by (inr among) = inr among

-- `sync`
sync-stood : (header : Header) (to from : ClusterNo) (w : World) → IsCluster header to → IsCluster header from → StoodOrIsTold header (act.Sync to from) w (with_reports to ((cluster_at to w).reports ++ (cluster_at from w).reports) w)
sync-stood header to from w here there cluster known report among = by (more-stood header to (cluster_at from w).reports w here cluster known report among)
  where
    by : Stood header w report ⊎ Among report (cluster_at from w).reports → Stood header w report ⊎ Tells header (act.Sync to from) w (with_reports to ((cluster_at to w).reports ++ (cluster_at from w).reports) w) report
    by (inl stood) = inl stood
    by (inr theirs) = inl (from, there, theirs)

-- `beat`
module _ (header : Header) (cluster : ClusterNo) (domain workflow id details : Name) (w : World) (known : IsCluster header cluster) (within : cluster.number < length w.clusters) where
  abbrev asked : Act
  asked = act.Beat cluster domain workflow id details

  one-told : (told : ℕ × ActivityRef) → writer_of header.clusters told.0 ≡ Some cluster
      → StoodOrIsTold header asked w (with_reports cluster ((cluster_at cluster w).reports ++ next_report told.1 told.0 details (cluster_at cluster w).reports ∷ []) w)
  one-told told writer other there report among = by (more-stood header cluster (new ∷ []) w known other there report among)
    where
      new : Report
      new = next_report told.1 told.0 details (cluster_at cluster w).reports

      v : World
      v = with_reports cluster ((cluster_at cluster w).reports ++ next_report told.1 told.0 details (cluster_at cluster w).reports ∷ []) w

      tells : Tells header asked w v new
      tells = record {
        cluster = cluster;
        domain = domain;
        workflow = workflow;
        id = id;
        details = details;
        asks = refl;
        writes = writer;
        puts = ap (λ (c : Cluster). c.reports) (get_or-set_same w.clusters cluster.number (record (cluster_at cluster w) { reports = (cluster_at cluster w).reports ++ new ∷ [] }) (new_cluster 0) within);
      }

      by : Stood header w report ⊎ Among report (new ∷ []) → Stood header w report ⊎ Tells header asked w v report
      by (inl stood) = inl stood
      by (inr (inl same)) = inr (subst (Tells header asked w v) (sym same) tells)
      by (inr (inr none)) = absurd none

  beat-stood : StoodOrIsTold header asked w (beat_by cluster details w (told_of (home_at header cluster w) domain workflow id (cell_of header cluster domain workflow w))).world
  beat-stood = by (told_of (home_at header cluster w) domain workflow id (cell_of header cluster domain workflow w)) refl
    where
      by : (r : Result (ℕ × ActivityRef) CommandError) → told_of (home_at header cluster w) domain workflow id (cell_of header cluster domain workflow w) ≡ r → StoodOrIsTold header asked w (beat_by cluster details w r).world
      by (Err error) e = same-stood header asked w w refl
      by (Ok told) e = unless (stale_by told.0 (held told.1 (cluster_at cluster w).reports))
        where
          unless : (o : Option ℕ) → StoodOrIsTold header asked w (beat_unless cluster told.0 told.1 details w o).world
          unless (Some stale) = same-stood header asked w w refl
          unless None = one-told told (writer-is cluster (writer_of header.clusters told.0) (told-own (home_at header cluster w) domain workflow id (cell_of header cluster domain workflow w) told e))

-- every line
line-stood : (header : Header) (lines : ℕ) (asked : Act) (w : World) → IsWellFormedAct header asked → IsReached header lines w → StoodOrIsTold header asked w (act_step header asked w).world
unfolding act_step
line-stood header lines (act.Beat cluster domain workflow id details) w fit is =
    let known : IsCluster header cluster = fit.0.known in
    beat-stood header cluster domain workflow id details w known (omega (arith, known, is.shaped.clusters))
line-stood header lines (act.Sync to from) w fit is = sync-stood header to from w fit.first fit.second
line-stood header lines (act.ProgressOf cluster domain workflow id) w fit is = same-stood header (act.ProgressOf cluster domain workflow id) w w refl
line-stood header lines other w fit is = same-stood header other w (act_step header other w).world (line-keeps header other w refl)

-- a report that some of the lines told was told by more of them
told-still : (header : Header) (lines more : List Line) (report : Report) → WasTold header lines report → WasTold header (lines ++ more) report
told-still header lines more report was = record {
  front = was.front;
  back = was.back ++ more;
  told = was.told;
  parts = ap (λ (l : List Line). l ++ more) was.parts ∙ append_assoc was.front (was.told ∷ was.back) more;
  tells = was.tells;
}

abbrev EachWasTold : Header → List Line → World → Type 0
EachWasTold header lines w = (cluster : ClusterNo) → IsCluster header cluster → (report : Report) → Among report (cluster_at cluster w).reports → WasTold header lines report

next-told : (header : Header) (lines : ℕ) (done : List Line) (line : Line) (w : World) → IsWellFormedAct header line.act → IsReached header lines w → world_after header done (opening_world header) ≡ w
    → EachWasTold header done w → EachWasTold header (done ++ line ∷ []) (act_step header line.act w).world
next-told header lines done line w fit is there each cluster known report among = by (line-stood header lines line.act w fit is cluster known report among)
  where
    by : Stood header w report ⊎ Tells header line.act w (act_step header line.act w).world report → WasTold header (done ++ line ∷ []) report
    by (inl (c, here, at)) = told-still header done (line ∷ []) report (each c here report at)
    by (inr tells) = record {
      front = done;
      back = [];
      told = line;
      parts = refl;
      tells = subst (λ (v : World). Tells header line.act v (act_step header line.act v).world report) (sym there) tells;
    }

all-told : (header : Header) → IsWellFormedHeader header → (rest done : List Line) (lines : ℕ) (w : World) → AllByRecursion (IsWellFormedLine header) rest → lines + length rest ≤ 100000 → IsReached header lines w
    → world_after header done (opening_world header) ≡ w → EachWasTold header done w → EachWasTold header (done ++ rest) (world_after header rest w)
all-told header sound [] done lines w fit short is there each = subst (λ (l : List Line). EachWasTold header l w) (sym (append-nil done)) each
all-told header sound (line ∷ rest) done lines w fit short is there each =
    subst (λ (l : List Line). EachWasTold header l (world_after header rest (act_step header line.act w).world)) (append_assoc done (line ∷ []) rest)
    (all-told header sound rest (done ++ line ∷ []) (lines + 1) (act_step header line.act w).world fit.1 (omega (arith, short)) (line_reached header lines line.act w sound fit.0 (omega (arith, short)) is)
    (after-both header done (line ∷ []) (opening_world header) ∙ ap (λ (v : World). (act_step header line.act v).world) there) (next-told header lines done line w fit.0 is there each))

-- nothing was told in the opening world
none-told : (clusters : List ClusterNo) (shards i : ℕ) → (slice_index_or (map (λ _. new_cluster shards) clusters) i (new_cluster 0)).reports ≡ []
none-told [] shards i = refl
none-told (c ∷ clusters) shards zero = refl
none-told (c ∷ clusters) shards (suc i) = none-told clusters shards i

pub reports-told : (header : Header) (front back : List Line) → IsWellFormed (script_of header (front ++ back)) → (cluster : ClusterNo) → IsCluster header cluster
    → AllByRecursion (WasTold header (plain_lines front)) (cluster_at cluster (world_before header front)).reports
reports-told header front back is cluster known =
    all-from (WasTold header (plain_lines front)) (cluster_at cluster (world_before header front)).reports
    (all-told header is.header (plain_lines front) [] 0 (opening_world header) (front-fits header front back (all-listed (IsWellFormedLine header) (front ++ back) is.lines))
    (omega (arith, alone.short, lines-short header front, length-append (header_lines header) (body_lines header front))) (opening_reached header) refl
    (λ c there report among. absurd (subst (Among report) (none-told (all_clusters header) header.shards c.number) among)) cluster known)
  where
    alone : IsWellFormed (script_of header front)
    alone = front-script header front back is
