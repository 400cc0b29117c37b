-- What is held of activities by the greatest report of each, where more reports are told or taken over.
use Rattle.std.proofs.Common.{◌≡◌, Bool, true, false, cond, not, List, [], ◌∷◌, ◌++◌, append-nil, append_assoc, map, count_by, Some, None, refl, sym, ap, subst, ◌∙◌, true≢false, ℕ, ◌&&◌, if◌then◌else◌}
use Rattle.std.specs.List.{AllByRecursion, filter}
use Rattle.ndc_event.specs.declared.name.Name.{Name}
use Rattle.ndc_progress.specs.Keyed.{AreOnce}
use Rattle.ndc_progress.specs.Reports.{activities_of, greater_report, greatest_of, held, merge_count, merged, next_beat, next_report, replaces, report_lt, same_activity, with_report}
use Rattle.ndc_progress.specs.declared.report.ActivityRef.{ActivityRef}
use Rattle.ndc_progress.specs.declared.report.Report.{Report}
use Rattle.ndc_progress.proofs.HeldLemmas.{other_flip, same_is_one, self_same}
use Rattle.ndc_progress.proofs.OrderLemmas.{held_greatest, merged_once, with_once, greater-of_three}

-- the greater of two reports of an activity is of it
of-both : (a : ActivityRef) (x y : Report) → a ≡ x.activity → a ≡ y.activity → a ≡ (greater_report x (Some y)).activity
of-both a x y e f = by (report_lt x y)
  where
    by : (t : Bool) → a ≡ (cond t y x).activity
    by true = f
    by false = e

-- a report that joins, by cases on the first one
with-cases : (P : List Report → Type 0) (f : Report) (list : List Report) (r : Report) → (r.activity ≡ f.activity → P (greater_report f (Some r) ∷ list))
    → (same_activity r.activity f.activity ≡ false → P (f ∷ with_report list r)) → P (with_report (f ∷ list) r)
with-cases P f list r here there = by (same_activity r.activity f.activity) refl
  where
    by : (t : Bool) → same_activity r.activity f.activity ≡ t → P (cond t (greater_report f (Some r) ∷ list) (f ∷ with_report list r))
    by true p = here (same_is_one r.activity f.activity p)
    by false p = there p

-- where it is of the first one's activity, and where it is not
with-here : (f : Report) (list : List Report) (r : Report) → r.activity ≡ f.activity → with_report (f ∷ list) r ≡ greater_report f (Some r) ∷ list
with-here f list r e = ap (λ t. cond t (greater_report f (Some r) ∷ list) (f ∷ with_report list r)) (subst (λ a. same_activity r.activity a ≡ true) e (self_same r.activity))

with-there : (f : Report) (list : List Report) (r : Report) → same_activity r.activity f.activity ≡ false → with_report (f ∷ list) r ≡ f ∷ with_report list r
with-there f list r p = ap (λ t. cond t (greater_report f (Some r) ∷ list) (f ∷ with_report list r)) p

-- two reports of one activity join as the greater one of both
with-both : (list : List Report) (f r : Report) → r.activity ≡ f.activity → with_report (with_report list f) r ≡ with_report list (greater_report f (Some r))
with-both [] f r e = with-here f [] r e
with-both (x ∷ list) f r e = with-cases (λ l. with_report l r ≡ with_report (x ∷ list) top) x list f here (there (with-both list f r e))
  where
    top : Report
    top = greater_report f (Some r)

    here : f.activity ≡ x.activity → with_report (greater_report x (Some f) ∷ list) r ≡ with_report (x ∷ list) top
    here g =
        with-here (greater_report x (Some f)) list r (of-both r.activity x f (e ∙ g) e)
        ∙ ap (λ y. y ∷ list) (greater-of_three x f r)
        ∙ sym (with-here x list top (sym (of-both x.activity f r (sym g) (sym (e ∙ g)))))

    there : with_report (with_report list f) r ≡ with_report list top → same_activity f.activity x.activity ≡ false → with_report (x ∷ with_report list f) r ≡ with_report (x ∷ list) top
    there more p =
        with-there x (with_report list f) r (subst (λ a. same_activity a x.activity ≡ false) (sym e) p)
        ∙ ap (λ l. x ∷ l) more
        ∙ sym (with-there x list top (subst (λ a. same_activity a x.activity ≡ false) (of-both f.activity f r refl (sym e)) p))

-- whether one of these reports is of an activity
abbrev pub has : ActivityRef → List Report → Bool
has a [] = false
has a (r ∷ rs) = if same_activity a r.activity then true else has a rs

-- reports of two activities join in either order, where one of the first one's is there
with-swapped : (list : List Report) (x r : Report) → has r.activity list ≡ true → same_activity r.activity x.activity ≡ false → with_report (with_report list x) r ≡ with_report (with_report list r) x
with-swapped [] x r h p = absurd (true≢false (sym h))
with-swapped (f ∷ list) x r h p = by (same_activity r.activity f.activity) refl (same_activity x.activity f.activity) refl (λ more. with-swapped list x r more p)
  where
    by : (s : Bool) → same_activity r.activity f.activity ≡ s → (t : Bool) → same_activity x.activity f.activity ≡ t
        → (has r.activity list ≡ true → with_report (with_report list x) r ≡ with_report (with_report list r) x) → with_report (with_report (f ∷ list) x) r ≡ with_report (with_report (f ∷ list) r) x
    by true e true g more = absurd (true≢false (sym (subst (λ a. same_activity r.activity a ≡ true) (sym (same_is_one x.activity f.activity g)) e) ∙ p))
    by true e false g more =
        let one = same_is_one r.activity f.activity e in
        ap (λ l. with_report l r) (with-there f list x g)
        ∙ with-here f (with_report list x) r one
        ∙ sym (ap (λ l. with_report l x) (with-here f list r one)
        ∙ with-there (greater_report f (Some r)) list x (subst (λ a. same_activity x.activity a ≡ false) (of-both f.activity f r refl (sym one)) g))
    by false e true g more =
        let one = same_is_one x.activity f.activity g in
        ap (λ l. with_report l r) (with-here f list x one)
        ∙ with-there (greater_report f (Some x)) list r (subst (λ a. same_activity r.activity a ≡ false) (of-both f.activity f x refl (sym one)) e)
        ∙ sym (ap (λ l. with_report l x) (with-there f list r e) ∙ with-here f (with_report list r) x one)
    by false e false g more =
        ap (λ l. with_report l r) (with-there f list x g)
        ∙ with-there f (with_report list x) r e
        ∙ ap (λ l. f ∷ l) (more (sym (ap (λ t. cond t true (has r.activity list)) e) ∙ h))
        ∙ sym (ap (λ l. with_report l x) (with-there f list r e) ∙ with-there f (with_report list r) x g)

-- of which activities there are reports, where one joins
has-with : (a : ActivityRef) (list : List Report) (r : Report) → has a (with_report list r) ≡ (if has a list then true else same_activity a r.activity)
has-with a [] r = by (same_activity a r.activity)
  where
    by : (t : Bool) → cond t true false ≡ t
    by true = refl
    by false = refl
has-with a (f ∷ list) r = with-cases (λ l. has a l ≡ (if has a (f ∷ list) then true else same_activity a r.activity)) f list r here (there (has-with a list r))
  where
    here : r.activity ≡ f.activity → has a (greater_report f (Some r) ∷ list) ≡ (if has a (f ∷ list) then true else same_activity a r.activity)
    here e =
        ap (λ b. cond (same_activity a b) true (has a list)) (sym (of-both f.activity f r refl (sym e)))
        ∙ by (same_activity a f.activity) (has a list) (same_activity a r.activity) (ap (same_activity a) e)
      where
        by : (s t u : Bool) → u ≡ s → cond s true t ≡ cond (cond s true t) true u
        by true t u g = refl
        by false true u g = refl
        by false false u g = sym g

    there : has a (with_report list r) ≡ (if has a list then true else same_activity a r.activity) → same_activity r.activity f.activity ≡ false
        → has a (f ∷ with_report list r) ≡ (if has a (f ∷ list) then true else same_activity a r.activity)
    there more p = ap (λ t. cond (same_activity a f.activity) true t) more ∙ by (same_activity a f.activity)
      where
        by : (s : Bool) → cond s true (cond (has a list) true (same_activity a r.activity)) ≡ cond (cond s true (has a list)) true (same_activity a r.activity)
        by true = refl
        by false = refl

-- what is held of an activity of which there is no report
none-has : (a : ActivityRef) (rs : List Report) → held a rs ≡ None → has a rs ≡ false
none-has a [] e = refl
none-has a (r ∷ rs) e = by (same_activity a r.activity) refl (none-has a rs)
  where
    by : (t : Bool) → same_activity a r.activity ≡ t → (held a rs ≡ None → has a rs ≡ false) → cond t true (has a rs) ≡ false
    by true p more = absurd (cc)
    by false p more = more (sym (ap (λ t. cond t (Some (greater_report r (held a rs))) (held a rs)) p) ∙ e)

first-apart : (a : ActivityRef) (x : Report) (rs : List Report) → has a (x ∷ rs) ≡ false → (same_activity a x.activity ≡ false) × (has a rs ≡ false)
first-apart a x rs e = by (same_activity a x.activity) refl
  where
    by : (t : Bool) → same_activity a x.activity ≡ t → (same_activity a x.activity ≡ false) × (has a rs ≡ false)
    by true p = absurd (true≢false (sym (ap (λ t. cond t true (has a rs)) p) ∙ e))
    by false p = (p, sym (ap (λ t. cond t true (has a rs)) p) ∙ e)

-- a report joins after a merge as before it, where one of its activity was there and none is taken over
with-before : (list rest : List Report) (r : Report) → has r.activity list ≡ true → has r.activity rest ≡ false → with_report (merged list rest) r ≡ merged (with_report list r) rest
with-before list [] r h none = refl
with-before list (x ∷ rest) r h none =
    let apart = first-apart r.activity x rest none in
    with-before (with_report list x) rest r (has-with r.activity list x ∙ ap (λ t. cond t true (same_activity r.activity x.activity)) h) apart.1
    ∙ ap (λ l. merged l rest) (with-swapped list x r h apart.0)

-- taking over reports to which one has joined
merged-with : (list g : List Report) (r : Report) → AreOnce g → merged list (with_report g r) ≡ with_report (merged list g) r
merged-with list [] r once = refl
merged-with list (f ∷ g) r once = with-cases (λ l. merged list l ≡ with_report (merged (with_report list f) g) r) f g r here (λ p. merged-with (with_report list f) g r once.1)
  where
    here : r.activity ≡ f.activity → merged (with_report list (greater_report f (Some r))) g ≡ with_report (merged (with_report list f) g) r
    here e =
        sym (with-before (with_report list f) g r (has-with r.activity list f ∙ there (has r.activity list) (subst (λ a. same_activity r.activity a ≡ true) e (self_same r.activity)))
        (subst (λ a. has a g ≡ false) (sym e) (none-has f.activity g once.0))
        ∙ ap (λ l. merged l g) (with-both list f r e))
      where
        there : (t : Bool) → same_activity r.activity f.activity ≡ true → cond t true (same_activity r.activity f.activity) ≡ true
        there true p = refl
        there false p = p

-- taking over what was merged is merging twice
merged-merged : (list g others : List Report) → AreOnce g → merged list (merged g others) ≡ merged (merged list g) others
merged-merged list g [] once = refl
merged-merged list g (r ∷ others) once = merged-merged list (with_report g r) others (with_once g r once) ∙ ap (λ l. merged l others) (merged-with list g r once)

-- what is taken over of the greatest reports is what is taken over of all
pub merged_greatest : (list others : List Report) → merged list (greatest_of others) ≡ merged list others
merged_greatest list others = merged-merged list [] others tt

-- taking over reports and then others
pub merged_joined : (list one two : List Report) → merged list (one ++ two) ≡ merged (merged list one) two
merged_joined list [] two = refl
merged_joined list (r ∷ one) two = merged_joined (with_report list r) one two

-- the greatest of reports after others
pub greatest_joined : (one two : List Report) → greatest_of (one ++ two) ≡ merged (greatest_of one) (greatest_of two)
greatest_joined one two = merged_joined [] one two ∙ sym (merged_greatest (greatest_of one) two)

-- one report more
pub greatest_more : (reports : List Report) (r : Report) → greatest_of (reports ++ r ∷ []) ≡ with_report (greatest_of reports) r
greatest_more reports r = merged_joined [] reports (r ∷ [])

-- the next report goes by what is held
pub next_greatest : (activity : ActivityRef) (version : ℕ) (details : Name) (reports : List Report) → next_report activity version details (greatest_of reports) ≡ next_report activity version details reports
next_greatest activity version details reports = λ i. record { activity = activity; version = version; beat = next_beat version (held_greatest activity reports i); details = details }

-- the activities of reports of which no two are of one, where one joins
acts : List Report → List ActivityRef
acts reports = map (λ r. r.activity) reports

acts-with : (list : List Report) (r : Report) → acts (with_report list r) ≡ (if has r.activity list then acts list else acts list ++ r.activity ∷ [])
unfolding acts
acts-with [] r = refl
acts-with (f ∷ list) r = by (same_activity r.activity f.activity) refl (acts-with list r)
  where
    by : (t : Bool) → same_activity r.activity f.activity ≡ t → acts (with_report list r) ≡ (if has r.activity list then acts list else acts list ++ r.activity ∷ [])
        → acts (cond t (greater_report f (Some r) ∷ list) (f ∷ with_report list r)) ≡ cond (cond t true (has r.activity list)) (acts (f ∷ list)) (acts (f ∷ list) ++ r.activity ∷ [])
    by true p more = ap (λ a. a ∷ acts list) (sym (of-both f.activity f r refl (sym (same_is_one r.activity f.activity p))))
    by false p more = ap (λ l. f.activity ∷ l) more ∙ of (has r.activity list)
      where
        of : (t : Bool) → f.activity ∷ cond t (acts list) (acts list ++ r.activity ∷ []) ≡ cond t (f.activity ∷ acts list) (f.activity ∷ acts list ++ r.activity ∷ [])
        of true = refl
        of false = refl

-- filtering by two tests, where one drops all that the other does
filter-both : (p q s : ActivityRef → Bool) → ((a : ActivityRef) → s a ≡ (p a && q a)) → (list : List ActivityRef) → filter p (filter q list) ≡ filter s list
filter-both p q s same [] = refl
filter-both p q s same (a ∷ list) = by (p a) refl (q a) refl (s a) (same a) (filter-both p q s same list)
  where
    by : (t : Bool) → p a ≡ t → (u : Bool) → q a ≡ u → (v : Bool) → v ≡ (t && u) → filter p (filter q list) ≡ filter s list → filter p (cond u (a ∷ filter q list) (filter q list)) ≡ cond v (a ∷ filter s list) (filter s list)
    by true e true f v g rest = rw (e, g) (ap (λ l. a ∷ l) rest)
    by true e false f v g rest = rw g rest
    by false e true f v g rest = rw (e, g) rest
    by false e false f v g rest = rw g rest

-- the test for each activity of which there is no report, and for each other one
abbrev lacks : List Report → ActivityRef → Bool
lacks list a = not (has a list)

abbrev differs : ActivityRef → ActivityRef → Bool
differs a other = not (same_activity a other)

same-flip : (a b : ActivityRef) → same_activity a b ≡ same_activity b a
same-flip a b = of (same_activity a b) refl (same_activity b a) refl
  where
    of : (s : Bool) → same_activity a b ≡ s → (t : Bool) → same_activity b a ≡ t → s ≡ t
    of true p true q = refl
    of true p false q = absurd (true≢false (sym p ∙ other_flip b a q))
    of false p true q = absurd (true≢false (sym q ∙ other_flip a b p))
    of false p false q = refl

lacks-with : (list : List Report) (r : Report) (a : ActivityRef) → lacks (with_report list r) a ≡ (lacks list a && differs r.activity a)
lacks-with list r a = ap not (has-with a list r ∙ ap (λ t. cond (has a list) true t) (same-flip a r.activity)) ∙ of (has a list) (same_activity r.activity a)
  where
    of : (s t : Bool) → not (cond s true t) ≡ (not s && not t)
    of true t = refl
    of false t = refl

-- the activities of what was merged: those that were there, and then the others as they come
acts-merged : (list others : List Report) → acts (merged list others) ≡ acts list ++ filter (lacks list) (activities_of others)
acts-merged list [] = sym (append-nil (acts list))
acts-merged list (r ∷ others) = acts-merged (with_report list r) others ∙ by (has r.activity list) refl
  where
    here : filter (lacks list) (filter (differs r.activity) (activities_of others)) ≡ filter (lacks (with_report list r)) (activities_of others)
    here = filter-both (lacks list) (differs r.activity) (lacks (with_report list r)) (lacks-with list r) (activities_of others)

    by : (t : Bool) → has r.activity list ≡ t
        → acts (with_report list r) ++ filter (lacks (with_report list r)) (activities_of others) ≡ acts list ++ filter (lacks list) (r.activity ∷ filter (differs r.activity) (activities_of others))
    by true p = rw (acts-with list r, p) (ap (λ l. acts list ++ l) (sym here))
    by false p = rw (acts-with list r, p) (append_assoc (acts list) (r.activity ∷ []) (filter (lacks (with_report list r)) (activities_of others)) ∙ ap (λ l. acts list ++ r.activity ∷ l) (sym here))

all-pass : (list : List ActivityRef) → filter (lacks []) list ≡ list
all-pass [] = refl
all-pass (a ∷ list) = ap (λ l. a ∷ l) (all-pass list)

apart-pass : (a : ActivityRef) (reports : List Report) → has a reports ≡ false → filter (differs a) (acts reports) ≡ acts reports
unfolding acts
apart-pass a [] e = refl
apart-pass a (r ∷ reports) e =
    let apart = first-apart a r reports e in
    ap (λ t. if not t then r.activity ∷ filter (differs a) (acts reports) else filter (differs a) (acts reports)) apart.0 ∙ ap (λ l. r.activity ∷ l) (apart-pass a reports apart.1)

-- the activities of reports of which no two are of one
acts-once : (reports : List Report) → AreOnce reports → activities_of reports ≡ acts reports
unfolding acts
acts-once [] once = refl
acts-once (r ∷ reports) once = ap (λ l. r.activity ∷ filter (differs r.activity) l) (acts-once reports once.1) ∙ ap (λ l. r.activity ∷ l) (apart-pass r.activity reports (none-has r.activity reports once.0))

-- the activities of the greatest reports are those of all
activities-greatest : (reports : List Report) → activities_of (greatest_of reports) ≡ activities_of reports
unfolding acts
activities-greatest reports = acts-once (greatest_of reports) (merged_once [] reports tt) ∙ acts-merged [] reports ∙ all-pass (activities_of reports)

-- how many activities come to have another report
pub count_greatest : (own others : List Report) → merge_count (greatest_of own) (greatest_of others) ≡ merge_count own others
count_greatest own others = λ i. count_by (λ activity. replaces (held_greatest activity own i) (held_greatest activity others i)) (activities-greatest others i)

-- what holds of all reports holds of the greatest ones
all-with : (P : Report → Type 0) (list : List Report) (r : Report) → AllByRecursion P list → P r → AllByRecursion P (with_report list r)
all-with P [] r all one = (one, tt)
all-with P (f ∷ list) r all one = with-cases (AllByRecursion P) f list r (λ e. (by (report_lt f r), all.1)) (λ e. (all.0, all-with P list r all.1 one))
  where
    by : (t : Bool) → P (cond t r f)
    by true = one
    by false = all.0

all-merged : (P : Report → Type 0) (list others : List Report) → AllByRecursion P list → AllByRecursion P others → AllByRecursion P (merged list others)
all-merged P list [] all more = all
all-merged P list (r ∷ others) all more = all-merged P (with_report list r) others (all-with P list r all more.0) more.1

pub all-greatest : (P : Report → Type 0) (reports : List Report) → AllByRecursion P reports → AllByRecursion P (greatest_of reports)
all-greatest P reports all = all-merged P [] reports tt all
