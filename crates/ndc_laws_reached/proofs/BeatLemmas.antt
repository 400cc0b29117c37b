-- A cluster tells of an activity.
use Rattle.std.proofs.Common.{◌≡◌, ℕ, ◌+◌, ◌<◌, ◌≤◌, Bool, true, false, ◌&&◌, ◌||◌, cond, not, nat_lt, List, [], ◌∷◌, Option, Some, None, Result, Ok, Err, IfSome, ◌⊎◌, inl, inr, refl, sym, ◌∙◌, subst, ap, arith, true≢false}
use Rattle.std.specs.Prelude.{◌==◌, IsSomeAnd}
use Rattle.std.specs.List.{AllByRecursion, IsAmong}
use Rattle.std.proofs.lemmas.Bool.Decides.{nat_tests}
use Rattle.ndc_script_types.specs.WellFormed.{IsCluster}
use Rattle.ndc_script_types.specs.declared.script.Header.{Header}
use Rattle.ndc_model_cells.specs.Cells.{Cell, learned_of}
use Rattle.ndc_model_cells.specs.Writing.{Desk, as_command_error, greatest_version, is_writer, may_write, may_write_by, may_write_with}
use Rattle.ndc_command.specs.declared.refusal.CommandError.{CommandError}
use Rattle.ndc_command.specs.declared.refusal.Refusal.{Refusal}
use Rattle.ndc_command.specs.declared.refusal.Refusal.TheVariants.{Behind, NotActive}
use Rattle.ndc_domain.specs.Clusters.{writer_of}
use Rattle.ndc_domain.specs.Records.{record_of}
use Rattle.ndc_domain.specs.declared.clusters.ClusterNo.{ClusterNo}
use Rattle.ndc_domain.specs.declared.record.DomainRecord.{DomainRecord}
use Rattle.ndc_event.specs.Outcome.{◌>>=◌}
use Rattle.ndc_event.specs.declared.batch.Batch.{Batch}
use Rattle.ndc_event.specs.declared.name.Name.{Name}
use Rattle.ndc_model.specs.Facts.{IsReached}
use Rattle.ndc_model.specs.Progress.{beat_by, beat_step, beat_unless, started_activity, told_of}
use Rattle.ndc_model.specs.World.{World, cell_of, cluster_at, home_at}
use Rattle.ndc_laws_cells.proofs.Lists.{among-is, is-among}
use Rattle.ndc_progress.specs.Reports.{greater_report, held, next_beat, next_report, report_lt, same_activity, stale_by}
use Rattle.ndc_progress.specs.declared.report.ActivityRef.{ActivityRef}
use Rattle.ndc_progress.specs.declared.report.Report.{Report}
use Rattle.ndc_progress.proofs.HeldLemmas.{held-cases, self_same}
use Rattle.ndc_model_sets.specs.Branches.{workflow_tip}
use Rattle.ndc_model_sets.proofs.Lists.{Among, all-among}
use Rattle.ndc_laws_reached.proofs.HandoverLemmas.{writer-is}
use Rattle.ndc_laws_reached.proofs.PutLemmas.{lines_pass}
use Rattle.ndc_laws_reached.proofs.ReportLemmas.{AreOne, IsTold, comes, reports-more, v}

-- the version with which a home may write is one of its own
may-write-own : (home : Desk) (version : ℕ) (batches : List Batch) (answer : ℕ) → may_write_with home version batches ≡ Ok answer → is_writer home.me (writer_of home.clusters answer) ≡ true
may-write-own home version batches answer = by (is_writer home.me (writer_of home.clusters version)) refl (nat_lt version (greatest_version batches)) (NotActive version) (Behind (greatest_version batches))
  where
    by : (mine : Bool) → is_writer home.me (writer_of home.clusters version) ≡ mine → (behind : Bool) (one two : Refusal)
        → cond (not mine) (Err one) (cond behind (Err two) (Ok version)) ≡ Ok answer → is_writer home.me (writer_of home.clusters answer) ≡ true
    by true mine true one two e = absurd (cc)
    by true mine false one two e = let same : version ≡ answer = cc in subst (λ (n : ℕ). is_writer home.me (writer_of home.clusters n) ≡ true) same mine
    by false mine behind one two e = absurd (cc)

may-by-own : (home : Desk) (one : Option DomainRecord) (batches : List Batch) (answer : ℕ) → may_write_by home one batches ≡ Ok answer → is_writer home.me (writer_of home.clusters answer) ≡ true
may-by-own home None batches answer e = absurd (cc)
may-by-own home (Some one) batches answer e = may-write-own home one.version batches answer e

pub may-own : (home : Desk) (domain workflow : Name) (cell : Cell) (answer : ℕ) → may_write home domain workflow cell ≡ Ok answer → is_writer home.me (writer_of home.clusters answer) ≡ true
unfolding may_write
may-own home domain workflow cell answer e = may-by-own home (record_of home.table domain) (learned_of domain workflow cell) answer e

-- what a cluster tells is of a version of its own
pub told-own : (home : Desk) (domain workflow id : Name) (cell : Cell) (told : ℕ × ActivityRef) → told_of home domain workflow id cell ≡ Ok told → is_writer home.me (writer_of home.clusters told.0) ≡ true
told-own home domain workflow id cell told =
    by (may_write home domain workflow cell) refl (started_activity domain workflow id (learned_of domain workflow cell) (workflow_tip (learned_of domain workflow cell)))
  where
    by : (may : Result ℕ Refusal) → may_write home domain workflow cell ≡ may → (activity : Result ActivityRef CommandError)
        → (as_command_error may >>= λ version. activity >>= λ one. Ok (version, one)) ≡ Ok told → is_writer home.me (writer_of home.clusters told.0) ≡ true
    by (Ok version) may (Ok one) e =
        let same : version ≡ told.0 = cc in subst (λ (n : ℕ). is_writer home.me (writer_of home.clusters n) ≡ true) same (may-own home domain workflow cell version may)
    by (Ok version) may (Err error) e = absurd (cc)
    by (Err why) may activity e = absurd (cc)

-- what holds of all reports holds of the held one
held-all : (P : Report → Type 0) (activity : ActivityRef) (reports : List Report) → AllByRecursion P reports → IfSome (held activity reports) P
held-all P activity [] all = tt
held-all P activity (report ∷ reports) all =
    held-cases (λ o. IfSome o P) activity report reports (λ same. greater (held activity reports) (held-all P activity reports all.1)) (λ other. held-all P activity reports all.1)
  where
    greater : (o : Option Report) → IfSome o P → P (greater_report report o)
    greater None none = all.0
    greater (Some two) some = by (report_lt report two)
      where
        by : (t : Bool) → P (cond t two report)
        by true = some
        by false = all.0

-- what is held of an activity is not below any report of it
step-below : (a b c d e f : ℕ) → (nat_lt a c || ((a == c) && nat_lt b d)) ≡ false → (nat_lt c e || ((c == e) && nat_lt d f)) ≡ false → (nat_lt a e || ((a == e) && nat_lt b f)) ≡ false
step-below a b c d e f one two = grind (arith, nat_tests)

turn-below : (a b c d : ℕ) → (nat_lt a c || ((a == c) && nat_lt b d)) ≡ true → (nat_lt c a || ((c == a) && nat_lt d b)) ≡ false
turn-below a b c d one = grind (arith, nat_tests)

self-below : (a b : ℕ) → (nat_lt a a || ((a == a) && nat_lt b b)) ≡ false
self-below a b = grind (arith, nat_tests)

greater-than : (one report : Report) (o : Option Report) → (one ≡ report) ⊎ ((h : Report) × (o ≡ Some h) × (report_lt h report ≡ false)) → report_lt (greater_report one o) report ≡ false
greater-than one report None (inl same) = subst (λ (r : Report). report_lt one r ≡ false) same (self-below one.version one.beat)
greater-than one report None (inr found) = absurd (let none : None ≡ Some found.0 = found.1 in cc)
greater-than one report (Some two) from = by (report_lt one two) refl from
  where
    by : (t : Bool) → report_lt one two ≡ t → (one ≡ report) ⊎ ((h : Report) × (Some two ≡ Some h) × (report_lt h report ≡ false)) → report_lt (cond t two one) report ≡ false
    by true e (inl same) = subst (λ (r : Report). report_lt two r ≡ false) same (turn-below one.version one.beat two.version two.beat e)
    by true e (inr found) = let same : found.0 ≡ two = cc (found.1) in subst (λ (r : Report). report_lt r report ≡ false) same found.2
    by false e (inl same) = subst (λ (r : Report). report_lt one r ≡ false) same (self-below one.version one.beat)
    by false e (inr found) =
        let same : found.0 ≡ two = cc (found.1) in
        step-below one.version one.beat two.version two.beat report.version report.beat e (subst (λ (r : Report). report_lt r report ≡ false) same found.2)

held-greatest : (activity : ActivityRef) (report : Report) (reports : List Report) → Among report reports → activity ≡ report.activity → (h : Report) × (held activity reports ≡ Some h) × (report_lt h report ≡ false)
held-greatest activity report [] none own = absurd none
held-greatest activity report (one ∷ reports) (inl same) own =
    held-cases (λ o. (h : Report) × (o ≡ Some h) × (report_lt h report ≡ false)) activity one reports
    (λ here. (greater_report one (held activity reports), refl, greater-than one report (held activity reports) (inl (sym same))))
    (λ other. absurd (true≢false (sym (subst (λ (a : ActivityRef). same_activity activity a ≡ true) (own ∙ ap (λ (r : Report). r.activity) same) (self_same activity)) ∙ other)))
held-greatest activity report (one ∷ reports) (inr among) own = by (held-greatest activity report reports among own)
  where
    by : (h : Report) × (held activity reports ≡ Some h) × (report_lt h report ≡ false) → (h : Report) × (held activity (one ∷ reports) ≡ Some h) × (report_lt h report ≡ false)
    by rest =
        held-cases (λ o. (h : Report) × (o ≡ Some h) × (report_lt h report ≡ false)) activity one reports
        (λ here. (greater_report one (held activity reports), refl, greater-than one report (held activity reports) (inr rest))) (λ other. rest)

-- the next beat is at most one more than any
next-small : (lines version : ℕ) (o : Option Report) → IfSome o (λ report. report.beat ≤ lines) → next_beat version o ≤ lines + 1
next-small lines version None none = omega arith
next-small lines version (Some report) some = by (report.version == version)
  where
    by : (t : Bool) → cond t (report.beat + 1) 1 ≤ lines + 1
    by true = omega (arith, some)
    by false = omega arith

-- no report of the version has the next beat
next-new : (version : ℕ) (h other : Report) → stale_by version (Some h) ≡ None → report_lt h other ≡ false → version ≡ other.version → next_beat version (Some h) ≡ other.beat → ⊥
next-new version h other stale below versions = by (nat_lt version h.version) refl stale (h.version == version) refl
  where
    by : (t : Bool) → nat_lt version h.version ≡ t → cond t (Some h.version) None ≡ None → (s : Bool) → (h.version == version) ≡ s → cond s (h.beat + 1) 1 ≡ other.beat → ⊥
    by true less none s e beats = absurd (cc)
    by false less none true e beats = same h.version h.beat other.version other.beat version below versions e beats
      where
        same : (a b c d n : ℕ) → (nat_lt a c || ((a == c) && nat_lt b d)) ≡ false → n ≡ c → (a == n) ≡ true → b + 1 ≡ d → ⊥
        same a b c d n one two three four = grind (arith, nat_tests)
    by false less none false e beats = apart h.version h.beat other.version other.beat version below versions e less
      where
        apart : (a b c d n : ℕ) → (nat_lt a c || ((a == c) && nat_lt b d)) ≡ false → n ≡ c → (a == n) ≡ false → nat_lt n a ≡ false → ⊥
        apart a b c d n one two three four = grind (arith, nat_tests)

-- one report is told, where the held one is of no greater version
module _ (header : Header) (lines : ℕ) (cluster : ClusterNo) (w : World) (is : IsReached header lines w) (known : IsCluster header cluster) (version : ℕ) (activity : ActivityRef) (details : Name) where
  abbrev reports : List Report
  reports = (cluster_at cluster w).reports

  abbrev new : Report
  new = next_report activity version details reports

  -- a report that is of the activity, the version and the next beat is none of those that were told
  fresh : stale_by version (held activity reports) ≡ None → writer_of header.clusters version ≡ Some cluster → (other : Report) (c : ClusterNo) → IsCluster header c → Among other (cluster_at c w).reports
      → activity ≡ other.activity → version ≡ other.version → new.beat ≡ other.beat → ⊥
  fresh stale writer other c there among own versions beats =
      let told : IsTold header w other = all-among (IsTold header w) (cluster_at c w).reports other (is.reports.told c there) among in
      let wrote : writer_of header.clusters other.version ≡ Some cluster = subst (λ (n : ℕ). writer_of header.clusters n ≡ Some cluster) versions writer in
      let here : IsAmong reports other = subst (λ (o : Option ClusterNo). IsSomeAnd o (λ at. IsAmong (cluster_at at w).reports other)) wrote told in
      let top = held-greatest activity other reports (is-among reports other here) own in
      next-new version top.0 other (subst (λ (o : Option Report). stale_by version o ≡ None) top.1 stale) top.2 versions (subst (λ (o : Option Report). next_beat version o ≡ other.beat) top.1 beats)

  pub one-told : lines < 100000 → stale_by version (held activity reports) ≡ None → writer_of header.clusters version ≡ Some cluster → IsReached header (lines + 1) (v header lines cluster (new ∷ []) w is known)
  one-told below stale writer =
      reports-more header lines cluster (new ∷ []) w is known (lines + 1) (next-small lines version (held activity reports) (held-all (λ report. report.beat ≤ lines) activity reports (is.beats cluster known)), tt)
      (lines_pass header lines (lines + 1) w (omega arith) (omega (arith, below)) is) (
        subst (λ (o : Option ClusterNo). IsSomeAnd o (λ at. IsAmong (cluster_at at (v header lines cluster (new ∷ []) w is known)).reports new)) (sym writer)
            (among-is (cluster_at cluster (v header lines cluster (new ∷ []) w is known)).reports new (comes header lines cluster (new ∷ []) w is known new (inl refl))),
        tt,
      )
      them others
    where
      them : (one other : Report) → Among one (new ∷ []) → Among other (new ∷ []) → AreOne one other
      them one other (inl first) (inl second) = λ activities versions beats. first ∙ sym second
      them one other first (inr none) = absurd none
      them one other (inr none) second = absurd none

      others : (one other : Report) → Among one (new ∷ []) → (c : ClusterNo) → IsCluster header c → Among other (cluster_at c w).reports → AreOne one other
      others one other (inr none) c there among = absurd none
      others one other (inl same) c there among = λ own versions beats.
          absurd (fresh stale writer other c there among (sym (ap (λ (r : Report). r.activity) same) ∙ own) (sym (ap (λ (r : Report). r.version) same) ∙ versions) (sym (ap (λ (r : Report). r.beat) same) ∙ beats))

-- a cluster may tell of an activity
pub beat_kept : (header : Header) (lines : ℕ) (cluster : ClusterNo) (domain workflow id details : Name) (w : World) → IsCluster header cluster → lines < 100000 → IsReached header lines w
    → IsReached header (lines + 1) (beat_step header cluster domain workflow id details w).world
beat_kept header lines cluster domain workflow id details w known below is = by (told_of (home_at header cluster w) domain workflow id (cell_of header cluster domain workflow w)) refl
  where
    after : IsReached header (lines + 1) w
    after = lines_pass header lines (lines + 1) w (omega arith) (omega (arith, below)) is

    by : (r : Result (ℕ × ActivityRef) CommandError) → told_of (home_at header cluster w) domain workflow id (cell_of header cluster domain workflow w) ≡ r → IsReached header (lines + 1) (beat_by cluster details w r).world
    by (Err error) e = after
    by (Ok told) e = unless (stale_by told.0 (held told.1 (cluster_at cluster w).reports)) refl
      where
        writer : writer_of header.clusters told.0 ≡ Some cluster
        writer = writer-is cluster (writer_of header.clusters told.0) (told-own (home_at header cluster w) domain workflow id (cell_of header cluster domain workflow w) told e)

        unless : (o : Option ℕ) → stale_by told.0 (held told.1 (cluster_at cluster w).reports) ≡ o → IsReached header (lines + 1) (beat_unless cluster told.0 told.1 details w o).world
        unless (Some stale) s = after
        unless None s = one-told header lines cluster w is known told.0 told.1 details below s writer
