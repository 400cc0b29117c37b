-- The order of reports, the greater of several, and what is held after merges.
use Rattle.std.proofs.Common.{◌≡◌, ℕ, Bool, true, false, cond, not, List, [], ◌∷◌, Option, Some, None, IfSome, if◌then◌else◌, refl, sym, ap, subst, ◌∙◌, true≢false, nat_lt, ◌==◌, ◌||◌, ◌&&◌, arith}
use Rattle.std.specs.List.{AllByRecursion}
use Rattle.std.proofs.lemmas.Bool.Decides.{nat_tests}
use Rattle.ndc_progress.specs.Holdings.{covers}
use Rattle.ndc_progress.specs.Keyed.{AreOnce}
use Rattle.ndc_progress.specs.Laws.{Agree, AllAgree}
use Rattle.ndc_progress.specs.Reports.{greater_report, greatest_of, held, merged, report_lt, same_activity, with_report}
use Rattle.ndc_progress.specs.declared.report.ActivityRef.{ActivityRef}
use Rattle.ndc_progress.specs.declared.report.Report.{Report}
use Rattle.ndc_progress.proofs.HeldLemmas.{other_flip, same_is_one, self_same}

-- whether numbers come before others: a version and a beat
abbrev pub before : ℕ → ℕ → ℕ → ℕ → Bool
before v b w c = nat_lt v w || ((v == w) && nat_lt b c)

-- what comes before what comes before another comes before that
pub before-before : (v b w c x d : ℕ) → before v b w c ≡ true → before w c x d ≡ true → before v b x d ≡ true
before-before v b w c x d h g = grind (arith, nat_tests)

-- what does not come before what does not come before another does not come before that
pub not-before : (v b w c x d : ℕ) → before v b w c ≡ false → before w c x d ≡ false → before v b x d ≡ false
not-before v b w c x d h g = grind (arith, nat_tests)

-- what comes before another does not come after it
before-flip : (v b w c : ℕ) → before v b w c ≡ true → before w c v b ≡ false
before-flip v b w c h = grind (arith, nat_tests)

-- where neither comes before the other the versions are equal
neither-version : (v b w c : ℕ) → before v b w c ≡ false → before w c v b ≡ false → v ≡ w
neither-version v b w c h g = grind (arith, nat_tests)

-- and the beats
neither-beat : (v b w c : ℕ) → before v b w c ≡ false → before w c v b ≡ false → b ≡ c
neither-beat v b w c h g = grind (arith, nat_tests)

-- the greater of two reports that may be there
abbrev pub joined : Option Report → Option Report → Option Report
joined None two = two
joined (Some one) two = Some (greater_report one two)

-- the report of an activity, where it is of it
abbrev pub own : ActivityRef → Report → Option Report
own a r = if same_activity a r.activity then Some r else None

-- nothing is not greater
pub joined-none : (one : Option Report) → joined one None ≡ one
joined-none None = refl
joined-none (Some one) = refl

-- the greatest of three reports
pub greater-of_three : (x y z : Report) → greater_report (greater_report x (Some y)) (Some z) ≡ greater_report x (Some (greater_report y (Some z)))
greater-of_three x y z = by (report_lt x y) refl (report_lt y z) refl
  where
    by : (s : Bool) → report_lt x y ≡ s → (t : Bool) → report_lt y z ≡ t
        → greater_report (cond s y x) (Some z) ≡ greater_report x (Some (cond t z y))
    by true p true q = rw (q, before-before x.version x.beat y.version y.beat z.version z.beat p q) refl
    by true p false q = rw (p, q) refl
    by false p true q = refl
    by false p false q = rw (p, not-before x.version x.beat y.version y.beat z.version z.beat p q) refl

-- the greatest of three that may be there
joined-of_three : (x y z : Option Report) → joined (joined x y) z ≡ joined x (joined y z)
joined-of_three None y z = refl
joined-of_three (Some x) None z = refl
joined-of_three (Some x) (Some y) None = refl
joined-of_three (Some x) (Some y) (Some z) = ap Some (greater-of_three x y z)

-- what is held where a report joins
pub held_with : (a : ActivityRef) (list : List Report) (r : Report) → AreOnce list → held a (with_report list r) ≡ joined (held a list) (own a r)
held_with a [] r h = refl
held_with a (f ∷ list) r h = by (same_activity r.activity f.activity) refl (held_with a list r h.1)
  where
    -- where it is of the first report's activity
    here : r.activity ≡ f.activity → (t : Bool) → report_lt f r ≡ t → held a (cond t r f ∷ list) ≡ joined (held a (f ∷ list)) (own a r)
    here same t p = of (same_activity a f.activity) refl t p
      where
        of : (s : Bool) → same_activity a f.activity ≡ s → (t : Bool) → report_lt f r ≡ t → held a (cond t r f ∷ list) ≡ joined (held a (f ∷ list)) (own a r)
        of true q true p =
            let none : held a list ≡ None = subst (λ k. held k list ≡ None) (sym (same_is_one a f.activity q)) h.0 in
            let also : same_activity a r.activity ≡ true = subst (λ k. same_activity a k ≡ true) (sym same) q in
            rw (q, also, none, p) refl
        of true q false p =
            let none : held a list ≡ None = subst (λ k. held k list ≡ None) (sym (same_is_one a f.activity q)) h.0 in
            let also : same_activity a r.activity ≡ true = subst (λ k. same_activity a k ≡ true) (sym same) q in
            rw (q, also, none, p) refl
        of false q true p =
            let also : same_activity a r.activity ≡ false = subst (λ k. same_activity a k ≡ false) (sym same) q in
            rw (q, also) (sym (joined-none (held a list)))
        of false q false p =
            let also : same_activity a r.activity ≡ false = subst (λ k. same_activity a k ≡ false) (sym same) q in
            rw (q, also) (sym (joined-none (held a list)))

    -- where it is not
    there : same_activity r.activity f.activity ≡ false → held a (with_report list r) ≡ joined (held a list) (own a r)
        → (s : Bool) → same_activity a f.activity ≡ s → held a (f ∷ with_report list r) ≡ joined (held a (f ∷ list)) (own a r)
    there other more true q =
        let one = same_is_one a f.activity q in
        let none : held a list ≡ None = subst (λ k. held k list ≡ None) (sym one) h.0 in
        let also : same_activity a r.activity ≡ false = other_flip r.activity a (subst (λ k. same_activity r.activity k ≡ false) (sym one) other) in
        let still : held a (with_report list r) ≡ None = more ∙ (λ i. joined (none i) (cond (also i) (Some r) None)) in
        rw (q, also, none, still) refl
    there other more false q = rw q more

    by : (t : Bool) → same_activity r.activity f.activity ≡ t → held a (with_report list r) ≡ joined (held a list) (own a r)
        → held a (cond t (greater_report f (Some r) ∷ list) (f ∷ with_report list r)) ≡ joined (held a (f ∷ list)) (own a r)
    by true p more = here (same_is_one r.activity f.activity p) (report_lt f r) refl
    by false p more = there p more (same_activity a f.activity) refl

-- reports of different activities stay so, where a report joins
pub with_once : (list : List Report) (r : Report) → AreOnce list → AreOnce (with_report list r)
with_once [] r h = (refl, tt)
with_once (f ∷ list) r h = by (same_activity r.activity f.activity) refl (with_once list r h.1)
  where
    here : r.activity ≡ f.activity → (t : Bool) → AreOnce (cond t r f ∷ list)
    here same true = (subst (λ k. held k list ≡ None) (sym same) h.0, h.1)
    here same false = h

    by : (t : Bool) → same_activity r.activity f.activity ≡ t → AreOnce (with_report list r) → AreOnce (cond t (greater_report f (Some r) ∷ list) (f ∷ with_report list r))
    by true p more = here (same_is_one r.activity f.activity p) (report_lt f r)
    by false p more =
        let also : own f.activity r ≡ None = ap (λ t. cond t (Some r) None) (other_flip r.activity f.activity p) in
        (held_with f.activity list r h.1 ∙ (λ i. joined (h.0 i) (also i)), more)

-- the same after a merge
pub merged_once : (list others : List Report) → AreOnce list → AreOnce (merged list others)
merged_once list [] h = h
merged_once list (r ∷ others) h = merged_once (with_report list r) others (with_once list r h)

-- what is held of the first report and the rest
held-first : (a : ActivityRef) (r : Report) (rs : List Report) → held a (r ∷ rs) ≡ joined (own a r) (held a rs)
held-first a r rs = by (same_activity a r.activity)
  where
    by : (t : Bool) → cond t (Some (greater_report r (held a rs))) (held a rs) ≡ joined (cond t (Some r) None) (held a rs)
    by true = refl
    by false = refl

-- what is held after a merge is the greater of both
pub held_merged : (a : ActivityRef) (list others : List Report) → AreOnce list → held a (merged list others) ≡ joined (held a list) (held a others)
held_merged a list [] h = sym (joined-none (held a list))
held_merged a list (r ∷ others) h =
    held_merged a (with_report list r) others (with_once list r h)
    ∙ ap (λ one. joined one (held a others)) (held_with a list r h)
    ∙ joined-of_three (held a list) (own a r) (held a others)
    ∙ ap (joined (held a list)) (sym (held-first a r others))

-- what is held of the greatest reports is what is held of all
pub held_greatest : (a : ActivityRef) (reports : List Report) → held a (greatest_of reports) ≡ held a reports
held_greatest a reports = held_merged a [] reports tt

-- a report that is covered changes nothing
covered-joins : (list : List Report) (r : Report) → covers list r ≡ true → with_report list r ≡ list
covered-joins [] r h = absurd (true≢false (sym h))
covered-joins (f ∷ list) r h = by (same_activity r.activity f.activity) refl (report_lt f r) refl (covered-joins list r)
  where
    by : (t : Bool) → same_activity r.activity f.activity ≡ t → (l : Bool) → report_lt f r ≡ l → (covers list r ≡ true → with_report list r ≡ list)
        → with_report (f ∷ list) r ≡ f ∷ list
    by true p true q more = absurd (true≢false (sym h ∙ (λ i. cond (p i) (not (q i)) (covers list r))))
    by true p false q more = rw (p, q) refl
    by false p l q more = rw p (ap (λ rest. f ∷ rest) (more (sym (ap (λ t. cond t (not (report_lt f r)) (covers list r)) p) ∙ h)))

-- no report comes before itself
pub not-itself : (r : Report) → report_lt r r ≡ false
not-itself r = itself r.version r.beat
  where
    itself : (v b : ℕ) → before v b v b ≡ false
    itself v b = grind (arith, nat_tests)

-- a report that has joined is covered
joined-covers : (list : List Report) (r : Report) → covers (with_report list r) r ≡ true
joined-covers [] r = rw (self_same r.activity, not-itself r) refl
joined-covers (f ∷ list) r = by (same_activity r.activity f.activity) refl (report_lt f r) refl (joined-covers list r)
  where
    by : (t : Bool) → same_activity r.activity f.activity ≡ t → (l : Bool) → report_lt f r ≡ l → covers (with_report list r) r ≡ true
        → covers (cond t (cond l r f ∷ list) (f ∷ with_report list r)) r ≡ true
    by true p true q more = rw (self_same r.activity, not-itself r) refl
    by true p false q more = rw (p, q) refl
    by false p l q more = rw p more

-- what is covered stays so, where another report joins
still-covers : (list : List Report) (r g : Report) → covers list r ≡ true → covers (with_report list g) r ≡ true
still-covers [] r g h = absurd (true≢false (sym h))
still-covers (f ∷ list) r g h =
    by (same_activity g.activity f.activity) refl (report_lt f g) refl (same_activity r.activity f.activity) refl (report_lt f r) refl (still-covers list r g)
  where
    by : (t : Bool) → same_activity g.activity f.activity ≡ t → (l : Bool) → report_lt f g ≡ l
        → (s : Bool) → same_activity r.activity f.activity ≡ s → (k : Bool) → report_lt f r ≡ k
        → (covers list r ≡ true → covers (with_report list g) r ≡ true)
        → covers (cond t (cond l g f ∷ list) (f ∷ with_report list g)) r ≡ true
    by t p l e true q true u more = absurd (true≢false (sym h ∙ (λ i. cond (q i) (not (u i)) (covers list r))))
    by true p true e true q false u more =
        let also : same_activity r.activity g.activity ≡ true = subst (λ a. same_activity r.activity a ≡ true) (sym (same_is_one g.activity f.activity p)) q in
        let least : report_lt g r ≡ false = beyond f.version f.beat g.version g.beat r.version r.beat e u in
        rw (also, least) refl
      where
        beyond : (v b w c x d : ℕ) → before v b w c ≡ true → before v b x d ≡ false → before w c x d ≡ false
        beyond v b w c x d h g = grind (arith, nat_tests)
    by true p false e true q false u more = rw (q, u) refl
    by true p true e false q k u more =
        let also : same_activity r.activity g.activity ≡ false = subst (λ a. same_activity r.activity a ≡ false) (sym (same_is_one g.activity f.activity p)) q in
        rw also (sym (ap (λ t. cond t (not (report_lt f r)) (covers list r)) q) ∙ h)
    by true p false e false q k u more = rw q (sym (ap (λ t. cond t (not (report_lt f r)) (covers list r)) q) ∙ h)
    by false p l e true q false u more = rw (q, u) refl
    by false p l e false q k u more = rw q (more (sym (ap (λ t. cond t (not (report_lt f r)) (covers list r)) q) ∙ h))

-- the same after a merge
pub merged-covers : (list others : List Report) (r : Report) → covers list r ≡ true → covers (merged list others) r ≡ true
merged-covers list [] r h = h
merged-covers list (g ∷ others) r h = merged-covers (with_report list g) others r (still-covers list r g h)

-- what was merged is covered
pub all-covered : (list others : List Report) → AllByRecursion (λ r. covers (merged list others) r ≡ true) others
all-covered list [] = tt
all-covered list (r ∷ others) = (merged-covers (with_report list r) others r (joined-covers list r), all-covered (with_report list r) others)

-- merging what is covered changes nothing
pub covered-merged : (list others : List Report) → AllByRecursion (λ r. covers list r ≡ true) others → merged list others ≡ list
covered-merged list [] h = refl
covered-merged list (r ∷ others) h = ap (λ start. merged start others) (covered-joins list r h.0) ∙ covered-merged list others h.1

-- merging twice is merging once
pub merged_twice : (list others : List Report) → merged (merged list others) others ≡ merged list others
merged_twice list others = covered-merged (merged list others) others (all-covered list others)

-- what is held is one of the reports, and of the activity
held-among : (P : Report → Type 0) (a : ActivityRef) (rs : List Report) → AllByRecursion P rs → IfSome (held a rs) (λ r. P r × (a ≡ r.activity))
held-among P a [] h = tt
held-among P a (r ∷ rs) h = by (same_activity a r.activity) refl (held a rs) (held-among P a rs h.1)
  where
    of : a ≡ r.activity → (found : Option Report) → IfSome found (λ r. P r × (a ≡ r.activity)) → IfSome (Some (greater_report r found)) (λ r. P r × (a ≡ r.activity))
    of same None more = (h.0, same)
    of same (Some other) more = choose (report_lt r other)
      where
        choose : (t : Bool) → P (cond t other r) × (a ≡ (cond t other r).activity)
        choose true = more
        choose false = (h.0, same)

    by : (t : Bool) → same_activity a r.activity ≡ t → (found : Option Report) → IfSome found (λ r. P r × (a ≡ r.activity))
        → IfSome (cond t (Some (greater_report r found)) found) (λ r. P r × (a ≡ r.activity))
    by true p found more = of (same_is_one a r.activity p) found more
    by false p found more = more

-- the greater of two reports that agree, either way round
greater-flip : (x y : Report) → x.activity ≡ y.activity → Agree x y → greater_report x (Some y) ≡ greater_report y (Some x)
greater-flip x y same agree = by (report_lt x y) refl (report_lt y x) refl
  where
    by : (s : Bool) → report_lt x y ≡ s → (t : Bool) → report_lt y x ≡ t → cond s y x ≡ cond t x y
    by true p true q = absurd (true≢false (sym q ∙ before-flip x.version x.beat y.version y.beat p))
    by true p false q = refl
    by false p true q = refl
    by false p false q =
        agree same (neither-version x.version x.beat y.version y.beat p q) (neither-beat x.version x.beat y.version y.beat p q)

-- the greater of what two lists hold, either way round, where their reports agree
joined-flip : (a : ActivityRef) (one two : List Report) → AllAgree one two → joined (held a one) (held a two) ≡ joined (held a two) (held a one)
joined-flip a one two agree = by (held a one) (held-among (λ x. AllByRecursion (Agree x) two) a one agree)
  where
    other : (x : Report) → AllByRecursion (Agree x) two → a ≡ x.activity → (found : Option Report) → IfSome found (λ y. Agree x y × (a ≡ y.activity))
        → joined (Some x) found ≡ joined found (Some x)
    other x agrees same None h = refl
    other x agrees same (Some y) h = ap Some (greater-flip x y (sym same ∙ h.1) h.0)

    by : (found : Option Report) → IfSome found (λ x. AllByRecursion (Agree x) two × (a ≡ x.activity)) → joined found (held a two) ≡ joined (held a two) found
    by None h = sym (joined-none (held a two))
    by (Some x) h = other x h.0 h.1 (held a two) (held-among (Agree x) a two h.0)

-- the order of two merges does not matter, where their reports agree
pub merged_either_way : (a : ActivityRef) (list one two : List Report) → AreOnce list → AllAgree one two
    → held a (merged (merged list one) two) ≡ held a (merged (merged list two) one)
merged_either_way a list one two h agree =
    held_merged a (merged list one) two (merged_once list one h) ∙ ap (λ o. joined o (held a two)) (held_merged a list one h)
    ∙ joined-of_three (held a list) (held a one) (held a two) ∙ ap (joined (held a list)) (joined-flip a one two agree)
    ∙ sym (joined-of_three (held a list) (held a two) (held a one)) ∙ sym (ap (λ o. joined o (held a one)) (held_merged a list two h))
    ∙ sym (held_merged a (merged list two) one (merged_once list two h))
