-- What is held of an activity, in a map of reports and in lists that grow.
use Rattle.std.proofs.Common.{◌≡◌, Bool, true, false, cond, ◌&&◌, List, [], ◌∷◌, ◌++◌, Option, Some, None, refl, sym, ap, subst, ◌∙◌, true≢false}
use Rattle.std.specs.Map.{lookup, values_of}
use Rattle.std.proofs.lemmas.Slice.Eq.{bytes_eq-Decides}
use Rattle.std.proofs.lemmas.Bool.{eqb-true, eq-eqb}
use Rattle.indexmap.specs.IndexMap.{insert_all, insert_entry}
use Rattle.ndc_progress.specs.Keyed.{AreKeyed, keyed, news}
use Rattle.ndc_progress.specs.Reports.{greater_report, held, replaces, report_lt, same_activity, with_report}
use Rattle.ndc_progress.specs.declared.report.ActivityRef.{ActivityRef}
use Rattle.ndc_progress.specs.declared.report.Report.{Report}

-- the first of two tests that hold together
first_of : (one two : Bool) → (one && two) ≡ true → one ≡ true
first_of true two h = refl
first_of false two h = h

-- the second of them
second_of : (one two : Bool) → (one && two) ≡ true → two ≡ true
second_of true two h = h
second_of false two h = absurd (true≢false (sym h))

-- what holds of an activity holds of one that is the same
pub same_is_one : (one two : ActivityRef) → same_activity one two ≡ true → one ≡ two
same_is_one one two h =
    let rest = second_of _ _ h in
    let later = second_of _ _ rest in
    let last = second_of _ _ later in
    let domains = (bytes_eq-Decides one.domain two.domain).0 (first_of _ _ h) in
    let workflows = (bytes_eq-Decides one.workflow two.workflow).0 (first_of _ _ rest) in
    let runs = eqb-true one.run.value two.run.value (first_of _ _ later) in
    let scheduled = eqb-true one.scheduled two.scheduled (first_of _ _ last) in
    let versions = eqb-true one.version two.version (second_of _ _ last) in
    λ i. record { domain = domains i; workflow = workflows i; run = record { value = runs i }; scheduled = scheduled i; version = versions i }

-- an activity is the same as itself
pub self_same : (one : ActivityRef) → same_activity one one ≡ true
self_same one =
    rw (
      (bytes_eq-Decides one.domain one.domain).1 refl,
      (bytes_eq-Decides one.workflow one.workflow).1 refl,
      eq-eqb one.run.value one.run.value refl,
      eq-eqb one.scheduled one.scheduled refl,
      eq-eqb one.version one.version refl,
    ) refl

-- sameness goes both ways
pub other_flip : (one two : ActivityRef) → same_activity one two ≡ false → same_activity two one ≡ false
other_flip one two h = by (same_activity two one) refl
  where
    by : (t : Bool) → same_activity two one ≡ t → t ≡ false
    by false p = refl
    by true p = absurd (true≢false (sym (self_same one) ∙ (ap (same_activity one) (sym (same_is_one two one p))) ∙ h))

-- what is held, by cases on the first report
pub held-cases : (P : Option Report → Type 0) (a : ActivityRef) (r : Report) (rs : List Report)
    → (a ≡ r.activity → P (Some (greater_report r (held a rs)))) → (same_activity a r.activity ≡ false → P (held a rs)) → P (held a (r ∷ rs))
held-cases P a r rs here there = by (same_activity a r.activity) refl
  where
    by : (t : Bool) → same_activity a r.activity ≡ t → P (cond t (Some (greater_report r (held a rs))) (held a rs))
    by true p = here (same_is_one a r.activity p)
    by false p = there p

-- what a map of reports has under an activity is what is held of it
pub lookup_held : (a : ActivityRef) (es : List (ActivityRef × Report)) → AreKeyed es → lookup (same_activity a) es ≡ held a (values_of es)
lookup_held a [] h = refl
lookup_held a (e ∷ es) h = by (same_activity a e.0) refl (lookup_held a es h.2)
  where
    by : (t : Bool) → same_activity a e.0 ≡ t → lookup (same_activity a) es ≡ held a (values_of es)
        → lookup (same_activity a) (e ∷ es) ≡ held a (values_of (e ∷ es))
    by true p more =
        let none : held a (values_of es) ≡ None = subst (λ k. held k (values_of es) ≡ None) (sym (same_is_one a e.0 p)) h.1 in
        rw (sym h.0, p, none) refl
    by false p more = rw (sym h.0, p) more

-- a report that is put under its activity, where it is greater than what is held, joins what is held
pub put_joins : (es : List (ActivityRef × Report)) (r : Report) → AreKeyed es → replaces (held r.activity (values_of es)) (Some r) ≡ true
    → values_of (insert_entry same_activity es r.activity r) ≡ with_report (values_of es) r
put_joins [] r h g = refl
put_joins (e ∷ es) r h g = by (same_activity r.activity e.0) refl (put_joins es r h.2)
  where
    by : (t : Bool) → same_activity r.activity e.0 ≡ t
        → (replaces (held r.activity (values_of es)) (Some r) ≡ true → values_of (insert_entry same_activity es r.activity r) ≡ with_report (values_of es) r)
        → values_of (insert_entry same_activity (e ∷ es) r.activity r) ≡ with_report (values_of (e ∷ es)) r
    by true p more =
        let none : held r.activity (values_of es) ≡ None = subst (λ k. held k (values_of es) ≡ None) (sym (same_is_one r.activity e.0 p)) h.1 in
        let found : held r.activity (values_of (e ∷ es)) ≡ Some e.1 = rw (sym h.0, p, none) refl in
        let lesser : report_lt e.1 r ≡ true = subst (λ s. replaces s (Some r) ≡ true) found g in
        rw (sym h.0, p, lesser) refl
    by false p more =
        let found : held r.activity (values_of (e ∷ es)) ≡ held r.activity (values_of es) = rw (sym h.0, p) refl in
        let skips : same_activity r.activity e.1.activity ≡ false = subst (λ k. same_activity r.activity k ≡ false) h.0 p in
        rw (p, skips) (ap (λ rest. e.1 ∷ rest) (more (subst (λ s. replaces s (Some r) ≡ true) found g)))

-- what is held of other activities stays where a report is put
pub put_stays : (a : ActivityRef) (es : List (ActivityRef × Report)) (r : Report) → AreKeyed es → same_activity a r.activity ≡ false
    → held a (values_of (insert_entry same_activity es r.activity r)) ≡ held a (values_of es)
put_stays a [] r h other = rw other refl
put_stays a (e ∷ es) r h other = by (same_activity r.activity e.0) refl (put_stays a es r h.2 other)
  where
    by : (t : Bool) → same_activity r.activity e.0 ≡ t → held a (values_of (insert_entry same_activity es r.activity r)) ≡ held a (values_of es)
        → held a (values_of (insert_entry same_activity (e ∷ es) r.activity r)) ≡ held a (values_of (e ∷ es))
    by true p more =
        let skips : same_activity a e.1.activity ≡ false = subst (λ k. same_activity a k ≡ false) (same_is_one r.activity e.0 p ∙ h.0) other in
        rw (p, other, skips) refl
    by false p more = rw p (ap (λ rest. cond (same_activity a e.1.activity) (Some (greater_report e.1 rest)) rest) more)

-- a map of reports is one still where a report is put under its activity
pub put_keyed : (es : List (ActivityRef × Report)) (r : Report) → AreKeyed es → AreKeyed (insert_entry same_activity es r.activity r)
put_keyed [] r h = (refl, refl, tt)
put_keyed (e ∷ es) r h = by (same_activity r.activity e.0) refl (put_keyed es r h.2)
  where
    by : (t : Bool) → same_activity r.activity e.0 ≡ t → AreKeyed (insert_entry same_activity es r.activity r)
        → AreKeyed (cond t ((e.0, r) ∷ es) (e ∷ insert_entry same_activity es r.activity r))
    by true p more = (sym (same_is_one r.activity e.0 p), h.1, h.2)
    by false p more = (h.0, put_stays e.0 es r h.2 (other_flip r.activity e.0 p) ∙ h.1, more)

-- one pair more is put
pub insert_all_more : (es xs : List (ActivityRef × Report)) (x : ActivityRef × Report)
    → insert_all same_activity es (xs ++ x ∷ []) ≡ insert_entry same_activity (insert_all same_activity es xs) x.0 x.1
insert_all_more es [] x = refl
insert_all_more es (y ∷ ys) x = insert_all_more (insert_entry same_activity es y.0 y.1) ys x

-- one report more that takes the place of what is held
pub news_more : (own rs : List Report) (r : Report) → replaces (held r.activity own) (Some r) ≡ true
    → keyed (news own (rs ++ r ∷ [])) ≡ keyed (news own rs) ++ (r.activity, r) ∷ []
news_more own [] r g = rw g refl
news_more own (first ∷ rs) r g = by (replaces (held first.activity own) (Some first)) refl (news_more own rs r g)
  where
    by : (t : Bool) → replaces (held first.activity own) (Some first) ≡ t → keyed (news own (rs ++ r ∷ [])) ≡ keyed (news own rs) ++ (r.activity, r) ∷ []
        → keyed (news own (first ∷ rs ++ r ∷ [])) ≡ keyed (news own (first ∷ rs)) ++ (r.activity, r) ∷ []
    by true p more = rw p (ap (λ rest. (first.activity, first) ∷ rest) more)
    by false p more = rw p more

-- one report more that does not
pub news_same : (own rs : List Report) (r : Report) → replaces (held r.activity own) (Some r) ≡ false → keyed (news own (rs ++ r ∷ [])) ≡ keyed (news own rs)
news_same own [] r g = rw g refl
news_same own (first ∷ rs) r g = by (replaces (held first.activity own) (Some first)) refl (news_same own rs r g)
  where
    by : (t : Bool) → replaces (held first.activity own) (Some first) ≡ t → keyed (news own (rs ++ r ∷ [])) ≡ keyed (news own rs)
        → keyed (news own (first ∷ rs ++ r ∷ [])) ≡ keyed (news own (first ∷ rs))
    by true p more = rw p (ap (λ rest. (first.activity, first) ∷ rest) more)
    by false p more = rw p more
