-- Clusters that have the same reports hold the same.
use Rattle.std.proofs.Common.{◌≡◌, ℕ, Bool, true, false, List, [], ◌∷◌, ◌⊎◌, inl, inr, Option, Some, None, refl, sym, ◌∙◌, subst, ap, arith, true≢false, if◌then◌else◌}
use Rattle.std.proofs.lemmas.Bool.Decides.{nat_tests}
use Rattle.ndc_script_types.specs.WellFormed.{IsCluster}
use Rattle.ndc_script_types.specs.declared.script.Header.{Header}
use Rattle.ndc_domain.specs.declared.clusters.ClusterNo.{ClusterNo}
use Rattle.ndc_model.specs.Facts.{IsReached}
use Rattle.ndc_model.specs.World.{World, cluster_at}
use Rattle.ndc_laws_cells.proofs.Lists.{among-is, is-among}
use Rattle.ndc_laws.specs.Promised.{HaveTheSameReports}
use Rattle.ndc_progress.proofs.HeldLemmas.{same_is_one}
use Rattle.ndc_progress.proofs.OrderLemmas.{not-before, before}
use Rattle.ndc_progress.specs.Reports.{greater_report, held, report_lt, same_activity}
use Rattle.ndc_progress.specs.declared.report.ActivityRef.{ActivityRef}
use Rattle.ndc_progress.specs.declared.report.Report.{Report}
use Rattle.ndc_model_sets.proofs.Lists.{Among}

not-itself : (v b : ℕ) → before v b v b ≡ false
not-itself v b = grind (arith, nat_tests)

not-back : (v b w c : ℕ) → before v b w c ≡ true → before w c v b ≡ false
not-back v b w c h = grind (arith, nat_tests)

one-version : (v b w c : ℕ) → before v b w c ≡ false → before w c v b ≡ false → v ≡ w
one-version v b w c h k = grind (arith, nat_tests)

one-beat : (v b w c : ℕ) → before v b w c ≡ false → before w c v b ≡ false → b ≡ c
one-beat v b w c h k = grind (arith, nat_tests)

-- the report that is held of an activity: one of them, and none of them is greater
record IsHeld (activity : ActivityRef) (list : List Report) (r : Report) : Type 0 where
  among : Among r list
  own : same_activity activity r.activity ≡ true
  most : (x : Report) → Among x list → same_activity activity x.activity ≡ true → report_lt r x ≡ false

-- what is held of an activity: nothing, where no report is of it, or the greatest
abbrev Known : ActivityRef → List Report → Option Report → Type 0
Known activity list o = ((o ≡ None) × ((x : Report) → Among x list → same_activity activity x.activity ≡ false)) ⊎ ((r : Report) × (o ≡ Some r) × IsHeld activity list r)

held-is : (activity : ActivityRef) (list : List Report) → Known activity list (held activity list)
held-is activity [] = inl (refl, λ x h. absurd h)
held-is activity (y ∷ ys) = by (same_activity activity y.activity) refl (held-is activity ys)
  where
    -- the first one, where none after it is greater
    first : same_activity activity y.activity ≡ true → ((x : Report) → Among x ys → same_activity activity x.activity ≡ true → report_lt y x ≡ false) → IsHeld activity (y ∷ ys) y
    first mine rest = record { among = inl refl; own = mine; most = each }
      where
        each : (x : Report) → Among x (y ∷ ys) → same_activity activity x.activity ≡ true → report_lt y x ≡ false
        each x (inl e) own = subst (λ (z : Report). report_lt y z ≡ false) (sym e) (not-itself y.version y.beat)
        each x (inr h) own = rest x h own

    -- one after it, where the first is not greater
    behind : (r : Report) → IsHeld activity ys r → (same_activity activity y.activity ≡ true → report_lt r y ≡ false) → IsHeld activity (y ∷ ys) r
    behind r is less = record { among = inr is.among; own = is.own; most = each }
      where
        each : (x : Report) → Among x (y ∷ ys) → same_activity activity x.activity ≡ true → report_lt r x ≡ false
        each x (inl e) own = subst (λ (z : Report). report_lt r z ≡ false) (sym e) (less (subst (λ (z : Report). same_activity activity z.activity ≡ true) e own))
        each x (inr h) own = is.most x h own

    greater : same_activity activity y.activity ≡ true → (r : Report) → IsHeld activity ys r → (t : Bool) → report_lt y r ≡ t → (z : Report) × (Some (if t then r else y) ≡ Some z) × IsHeld activity (y ∷ ys) z
    greater mine r is true e = (r, refl, behind r is (λ _. not-back y.version y.beat r.version r.beat e))
    greater mine r is false e = (y, refl, first mine (λ x h own. not-before y.version y.beat r.version r.beat x.version x.beat e (is.most x h own)))

    by : (t : Bool) → same_activity activity y.activity ≡ t
        → Known activity ys (held activity ys)
        → Known activity (y ∷ ys) (if t then Some (greater_report y (held activity ys)) else held activity ys)
    by true mine (inl (none, other)) = inr (y, ap (λ o. Some (greater_report y o)) none, first mine (λ x h own. absurd (true≢false (sym own ∙ other x h))))
    by true mine (inr (r, e, is)) = let g = greater mine r is (report_lt y r) refl in inr (g.0, ap (λ o. Some (greater_report y o)) e ∙ g.1, g.2)
    by false apart (inl (none, other)) = inl (none, each)
      where
        each : (x : Report) → Among x (y ∷ ys) → same_activity activity x.activity ≡ false
        each x (inl e) = subst (λ (z : Report). same_activity activity z.activity ≡ false) (sym e) apart
        each x (inr h) = other x h
    by false apart (inr (r, e, is)) = inr (r, e, behind r is (λ mine. absurd (true≢false (sym mine ∙ apart))))

-- lists of the same reports, in which equal activity, version and beat mean equal reports, hold the same
pub held-alike : (activity : ActivityRef) (one two : List Report) → ((x y : Report) → Among x one → Among y two → same_activity activity x.activity ≡ true → same_activity activity y.activity ≡ true → x.version ≡ y.version → x.beat ≡ y.beat → x ≡ y)
    → ((x : Report) → Among x one → Among x two) → ((x : Report) → Among x two → Among x one) → held activity one ≡ held activity two
held-alike activity one two agree there back = by (held-is activity one) (held-is activity two)
  where
    by : Known activity one (held activity one) → Known activity two (held activity two) → held activity one ≡ held activity two
    by (inl (none, _)) (inl (nothing, _)) = none ∙ sym nothing
    by (inl (none, other)) (inr (r, e, is)) = absurd (true≢false (sym is.own ∙ other r (back r is.among)))
    by (inr (r, e, is)) (inl (none, other)) = absurd (true≢false (sym is.own ∙ other r (there r is.among)))
    by (inr (r, e, is)) (inr (s, f, held_is)) =
        let right = is.most s (back s held_is.among) held_is.own in
        let left = held_is.most r (there r is.among) is.own in
        e ∙ ap Some (agree r s is.among held_is.among is.own held_is.own (one-version r.version r.beat s.version s.beat right left) (one-beat r.version r.beat s.version s.beat right left)) ∙ sym f

module _ (header : Header) (lines : ℕ) (w : World) (is : IsReached header lines w) where
  abbrev pub reports-of : ClusterNo → List Report
  reports-of cluster = (cluster_at cluster w).reports

  -- a report of some cluster
  abbrev pub IsTold : Report → Type 0
  IsTold r = (cluster : ClusterNo) × IsCluster header cluster × Among r (reports-of cluster)

  pub agree : (activity : ActivityRef) (x y : Report) → IsTold x → IsTold y → same_activity activity x.activity ≡ true → same_activity activity y.activity ≡ true → x.version ≡ y.version → x.beat ≡ y.beat → x ≡ y
  agree activity x y (c, known, here) (d, other, there) own mine version beat =
      is.reports.one c d x y known other (among-is (reports-of c) x here) (among-is (reports-of d) y there) (sym (same_is_one activity x.activity own) ∙ same_is_one activity y.activity mine) version beat

  pub same-held : (one two : ClusterNo) (activity : ActivityRef) → IsCluster header one → IsCluster header two → HaveTheSameReports one two w → held activity (reports-of one) ≡ held activity (reports-of two)
  same-held one two activity first second same =
      held-alike activity (reports-of one) (reports-of two) (λ x y h k. agree activity x y (one, first, h) (two, second, k))
      (λ x h. is-among (reports-of two) x (same.there x (among-is (reports-of one) x h))) (λ x h. is-among (reports-of one) x (same.back x (among-is (reports-of two) x h)))
