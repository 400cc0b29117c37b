-- Merging: what is put are the reports that take the place of what is held, and the others change nothing.
use Rattle.std.proofs.Common.{◌≡◌, ◌+◌, arith, ℕ, Bool, true, false, cond, not, List, [], ◌∷◌, map, length, Option, Some, None, if◌then◌else◌, refl, sym, ap, subst, ◌∙◌, true≢false, count_by, IfSome, ◌≤◌, ◌<◌, ◌^◌, ◌==◌, nat_lt}
use Rattle.std.specs.List.{filter, AllByRecursion}
use Rattle.std.specs.Map.{values_of}
use Rattle.std.proofs.lemmas.Bool.{eqb-false, lt-ltb, ltb-false}
use Rattle.std.proofs.lemmas.List.Sums.{sum_by-cons}
use Rattle.ndc_event.specs.declared.name.Name.{Name}
use Rattle.indexmap.specs.IndexMap.{insert_all, insert_entry}
use Rattle.ndc_progress.specs.Keyed.{AreKeyed, AreOnce, keyed, news}
use Rattle.ndc_progress.specs.Reports.{activities_of, greater_report, held, merge_count, merged, next_beat, replaces, report_lt, same_activity, with_report}
use Rattle.ndc_progress.specs.declared.report.ActivityRef.{ActivityRef}
use Rattle.ndc_progress.specs.declared.report.Report.{Report}
use Rattle.ndc_progress.proofs.HeldLemmas.{other_flip, put_joins, put_keyed, put_stays, same_is_one, self_same}

-- the reports of a map are of different activities
pub once : (es : List (ActivityRef × Report)) → AreKeyed es → AreOnce (values_of es)
once [] h = tt
once (e ∷ es) h = (subst (λ k. held k (values_of es) ≡ None) h.0 h.1, once es h.2)

-- where nothing is held of an activity, no report is of it
pub none_of : (a : ActivityRef) (rs : List Report) → held a rs ≡ None → AllByRecursion (λ r. same_activity a r.activity ≡ false) rs
none_of a [] h = tt
none_of a (r ∷ rs) h = by (same_activity a r.activity) refl (none_of a rs)
  where
    by : (t : Bool) → same_activity a r.activity ≡ t → (held a rs ≡ None → AllByRecursion (λ r. same_activity a r.activity ≡ false) rs)
        → AllByRecursion (λ r. same_activity a r.activity ≡ false) (r ∷ rs)
    by true p more = absurd (cc)
    by false p more = (p, more (subst (λ t. cond t (Some (greater_report r (held a rs))) (held a rs) ≡ None) p h))

-- a report that does not take the place of what is held changes nothing
pub no_news : (rs : List Report) (r : Report) → AreOnce rs → replaces (held r.activity rs) (Some r) ≡ false → with_report rs r ≡ rs
no_news [] r h g = absurd (true≢false g)
no_news (first ∷ rs) r h g = by (same_activity r.activity first.activity) refl (no_news rs r h.1)
  where
    by : (t : Bool) → same_activity r.activity first.activity ≡ t → (replaces (held r.activity rs) (Some r) ≡ false → with_report rs r ≡ rs)
        → with_report (first ∷ rs) r ≡ first ∷ rs
    by true p more =
        let none : held r.activity rs ≡ None = subst (λ k. held k rs ≡ None) (sym (same_is_one r.activity first.activity p)) h.0 in
        let found : held r.activity (first ∷ rs) ≡ Some first = rw (p, none) refl in
        let lesser : report_lt first r ≡ false = subst (λ s. replaces s (Some r) ≡ false) found g in
        rw (p, lesser) refl
    by false p more =
        let found : held r.activity (first ∷ rs) ≡ held r.activity rs = rw p refl in
        rw p (ap (λ rest. first ∷ rest) (more (subst (λ s. replaces s (Some r) ≡ false) found g)))

-- what takes the place of what is held stays so, where another activity's report is put
news_stay : (es : List (ActivityRef × Report)) (r : Report) (rs : List Report) → AreKeyed es → AllByRecursion (λ other. same_activity r.activity other.activity ≡ false) rs
    → news (values_of (insert_entry same_activity es r.activity r)) rs ≡ news (values_of es) rs
news_stay es r [] h others = refl
news_stay es r (first ∷ rs) h others =
    let stays = put_stays first.activity es r h (other_flip r.activity first.activity others.0) in
    rw stays (ap (λ rest. cond (replaces (held first.activity (values_of es)) (Some first)) (first ∷ rest) rest) (news_stay es r rs h others.1))

-- putting the reports that take the place of what is held is merging all of them
pub put_merges : (es : List (ActivityRef × Report)) (rs : List Report) → AreKeyed es → AreOnce rs
    → values_of (insert_all same_activity es (keyed (news (values_of es) rs))) ≡ merged (values_of es) rs
put_merges es [] h o = refl
put_merges es (r ∷ rs) h o =
    by (replaces (held r.activity (values_of es)) (Some r)) refl (put_merges (insert_entry same_activity es r.activity r) rs (put_keyed es r h) o.1) (put_merges es rs h o.1)
  where
    by : (t : Bool) → replaces (held r.activity (values_of es)) (Some r) ≡ t
        → values_of (insert_all same_activity (insert_entry same_activity es r.activity r) (keyed (news (values_of (insert_entry same_activity es r.activity r)) rs)))
        ≡ merged (values_of (insert_entry same_activity es r.activity r)) rs
        → values_of (insert_all same_activity es (keyed (news (values_of es) rs))) ≡ merged (values_of es) rs
        → values_of (insert_all same_activity es (keyed (news (values_of es) (r ∷ rs)))) ≡ merged (values_of es) (r ∷ rs)
    by true p put same =
        let stay = news_stay es r rs h (none_of r.activity rs o.0) in
        rw p (subst (λ list. values_of (insert_all same_activity (insert_entry same_activity es r.activity r) (keyed list)) ≡ merged (values_of (insert_entry same_activity es r.activity r)) rs) stay put
        ∙ ap (λ own. merged own rs) (put_joins es r h p))
    by false p put same = rw p (same ∙ ap (λ own. merged own rs) (sym (no_news (values_of es) r (once es h) p)))

-- a map of reports stays one where reports are put
pub all_keyed : (es : List (ActivityRef × Report)) (rs : List Report) → AreKeyed es → AreKeyed (insert_all same_activity es (keyed rs))
all_keyed es [] h = h
all_keyed es (r ∷ rs) h = all_keyed (insert_entry same_activity es r.activity r) rs (put_keyed es r h)

-- the activities that are not this one are all of these, where no report is of it
all_others : (a : ActivityRef) (list : List ActivityRef) → AllByRecursion (λ other. same_activity a other ≡ false) list → filter (λ other. not (same_activity a other)) list ≡ list
all_others a [] h = refl
all_others a (other ∷ list) h = rw h.0 (ap (λ rest. other ∷ rest) (all_others a list h.1))

-- reports of different activities have each activity once
activities_once : (rs : List Report) → AreOnce rs → activities_of rs ≡ map (λ r. r.activity) rs
activities_once [] h = refl
activities_once (r ∷ rs) h =
    ap (λ rest. r.activity ∷ rest)
    (ap (λ list. filter (λ other. not (same_activity r.activity other)) list) (activities_once rs h.1)
    ∙ all_others r.activity (map (λ other. other.activity) rs) (of_reports rs (none_of r.activity rs h.0)))
  where
    of_reports : (list : List Report) → AllByRecursion (λ other. same_activity r.activity other.activity ≡ false) list
        → AllByRecursion (λ other. same_activity r.activity other ≡ false) (map (λ other. other.activity) list)
    of_reports [] h = tt
    of_reports (first ∷ list) h = (h.0, of_reports list h.1)

-- counting goes on after the first
count-cons : (test : ActivityRef → Bool) (a : ActivityRef) (list : List ActivityRef) → count_by test (a ∷ list) ≡ (if test a then 1 else 0) + count_by test list
count-cons test a list = sum_by-cons (λ activity. if test activity then 1 else 0) a list

-- how many of these reports take the place of what is held, where of each activity this is the one that is brought
count_news : (own others rs : List Report) → AllByRecursion (λ r. held r.activity others ≡ Some r) rs
    → count_by (λ activity. replaces (held activity own) (held activity others)) (map (λ r. r.activity) rs) ≡ length (keyed (news own rs))
count_news own others [] h = refl
count_news own others (r ∷ rs) h =
    count-cons (λ activity. replaces (held activity own) (held activity others)) r.activity (map (λ r. r.activity) rs)
    ∙ ap (λ brought. (if replaces (held r.activity own) brought then 1 else 0) + count_by (λ activity. replaces (held activity own) (held activity others)) (map (λ r. r.activity) rs)) h.0
    ∙ by (replaces (held r.activity own) (Some r)) (count_news own others rs h.1)
  where
    by : (t : Bool) → count_by (λ activity. replaces (held activity own) (held activity others)) (map (λ r. r.activity) rs) ≡ length (keyed (news own rs))
        → (if t then 1 else 0) + count_by (λ activity. replaces (held activity own) (held activity others)) (map (λ r. r.activity) rs)
        ≡ length (keyed (cond t (r ∷ news own rs) (news own rs)))
    by true more = omega (arith, more)
    by false more = omega (arith, more)

-- of reports of different activities each is held
pub each_held : (rs : List Report) → AreOnce rs → AllByRecursion (λ r. held r.activity rs ≡ Some r) rs
each_held [] h = tt
each_held (r ∷ rs) h =
    (rw (self_same r.activity, h.0) refl, later rs (each_held rs h.1) (none_of r.activity rs h.0))
  where
    later : (list : List Report) → AllByRecursion (λ other. held other.activity rs ≡ Some other) list → AllByRecursion (λ other. same_activity r.activity other.activity ≡ false) list
        → AllByRecursion (λ other. held other.activity (r ∷ rs) ≡ Some other) list
    later [] found others = tt
    later (first ∷ list) found others = (rw (other_flip r.activity first.activity others.0) found.0, later list found.1 others.1)

-- the reports that stand under their activities
pub values_keyed : (rs : List Report) → map (λ (entry : ActivityRef × Report). entry.1) (keyed rs) ≡ rs
values_keyed [] = refl
values_keyed (r ∷ rs) = ap (λ rest. r ∷ rest) (values_keyed rs)

-- as many activities come to have another held report as there are reports that take the place of what is held
pub count_merged : (own others : List Report) → AreOnce others → length (keyed (news own others)) ≡ merge_count own others
count_merged own others o =
    sym (ap (λ list. count_by (λ activity. replaces (held activity own) (held activity others)) list) (activities_once others o) ∙ count_news own others others (each_held others o))

-- the beat of what is held
pub held_beat : (version : ℕ) (found : Option Report) → IfSome found (λ report. (report.version ≤ version) × (report.beat < 10 ^ 12)) → IfSome found (λ report. report.beat < 10 ^ 12)
held_beat version None h = h
held_beat version (Some report) h = h.1

-- the next report of an activity takes the place of what is held, where this has no greater version
pub next_replaces : (version : ℕ) (activity : ActivityRef) (details : Name) (found : Option Report)
    → IfSome found (λ report. (report.version ≤ version) × (report.beat < 10 ^ 12))
    → replaces found (Some (record { activity = activity; version = version; beat = next_beat version found; details = details })) ≡ true
next_replaces version activity details None h = refl
next_replaces version activity details (Some report) h = by (nat_lt report.version version) refl (report.version == version) refl
  where
    by : (less : Bool) → nat_lt report.version version ≡ less → (same : Bool) → (report.version == version) ≡ same
        → report_lt report (record { activity = activity; version = version; beat = next_beat version (Some report); details = details }) ≡ true
    by true p same q = rw p refl
    by false p true q = rw (p, q) (lt-ltb _ _ (omega arith))
    by false p false q =
        let least = ltb-false _ _ p in
        absurd (eqb-false _ _ q (omega (arith, h.0, least)))
