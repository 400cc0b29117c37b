-- The reports that take the place of what is held: merging them alone is merging all, and how many they are is told by what is held after the merge.
use Rattle.std.proofs.Common.{◌≡◌, ◌+◌, Bool, true, false, cond, List, [], ◌∷◌, length, Some, None, if◌then◌else◌, refl, sym, ap, subst, ◌∙◌, arith}
use Rattle.std.specs.List.{AllByRecursion}
use Rattle.std.proofs.lemmas.List.{length-map}
use Rattle.ndc_progress.specs.Keyed.{AreOnce, keyed, news}
use Rattle.ndc_progress.specs.Reports.{greater_report, held, merge_count, merged, replaces, report_lt, same_activity, with_report}
use Rattle.ndc_progress.specs.declared.report.Report.{Report}
use Rattle.ndc_progress.proofs.HeldLemmas.{other_flip, same_is_one}
use Rattle.ndc_progress.proofs.MergeLemmas.{count_merged, each_held, no_news, none_of}
use Rattle.ndc_progress.proofs.OrderLemmas.{held_with, joined, joined-none, not-itself, with_once}

-- of the activities of these reports the same is held in two lists
abbrev AreAlike : List Report → List Report → List Report → Type 0
AreAlike base list others = AllByRecursion (λ r. held r.activity list ≡ held r.activity base) others

-- it is so in a list and itself
alike-itself : (base others : List Report) → AreAlike base base others
alike-itself base [] = tt
alike-itself base (r ∷ others) = (refl, alike-itself base others)

-- and stays so, where a report of another activity joins
alike-with : (base list others : List Report) (r : Report) → AreOnce list → AllByRecursion (λ other. same_activity r.activity other.activity ≡ false) others
    → AreAlike base list others → AreAlike base (with_report list r) others
alike-with base list [] r once apart same = tt
alike-with base list (x ∷ others) r once apart same = (
  held_with x.activity list r once
      ∙ ap (λ t. joined (held x.activity list) (cond t (Some r) None)) (other_flip r.activity x.activity apart.0)
      ∙ joined-none (held x.activity list)
      ∙ same.0,
  alike-with base list others r once apart.1 same.1,
)

-- merging the reports that take the place of what is held is merging all of them
news-merged : (base list others : List Report) → AreOnce list → AreOnce others → AreAlike base list others → merged list (news base others) ≡ merged list others
news-merged base list [] once each same = refl
news-merged base list (r ∷ others) once each same =
    by (replaces (held r.activity base) (Some r)) refl
    (news-merged base (with_report list r) others (with_once list r once) each.1 (alike-with base list others r once (none_of r.activity others each.0) same.1))
    (news-merged base list others once each.1 same.1)
  where
    by : (t : Bool) → replaces (held r.activity base) (Some r) ≡ t
        → merged (with_report list r) (news base others) ≡ merged (with_report list r) others
        → merged list (news base others) ≡ merged list others
        → merged list (cond t (r ∷ news base others) (news base others)) ≡ merged (with_report list r) others
    by true p put stay = put
    by false p put stay = stay ∙ ap (λ l. merged l others) (sym (no_news list r once (ap (λ o. replaces o (Some r)) same.0 ∙ p)))

pub merged_news : (own others : List Report) → AreOnce own → AreOnce others → merged own (news own others) ≡ merged own others
merged_news own others once each = news-merged own own others once each (alike-itself own others)

-- where a report joins, it is one of those above what is held in another list, where it is above what is held of its activity there
news-with : (base list : List Report) (r : Report) → AreOnce list → held r.activity list ≡ held r.activity base
    → length (news base (with_report list r)) ≡ length (news base list) + (if replaces (held r.activity base) (Some r) then 1 else 0)
news-with base [] r once same =
    let none : held r.activity base ≡ None = sym same in
    rw none refl
news-with base (f ∷ list) r once same = by (same_activity r.activity f.activity) refl (report_lt f r) refl (news-with base list r once.1)
  where
    by : (t : Bool) → same_activity r.activity f.activity ≡ t → (l : Bool) → report_lt f r ≡ l
        → (held r.activity list ≡ held r.activity base → length (news base (with_report list r)) ≡ length (news base list) + (if replaces (held r.activity base) (Some r) then 1 else 0))
        → length (news base (cond t (cond l r f ∷ list) (f ∷ with_report list r))) ≡ length (news base (f ∷ list)) + (if replaces (held r.activity base) (Some r) then 1 else 0)
    by true p l q more = here l q
      where
        one : r.activity ≡ f.activity
        one = same_is_one r.activity f.activity p

        none : held r.activity list ≡ None
        none = subst (λ k. held k list ≡ None) (sym one) once.0

        found : held r.activity base ≡ Some f
        found = sym same ∙ (λ i. cond (p i) (Some (greater_report f (none i))) (none i))

        there : held f.activity base ≡ Some f
        there = subst (λ k. held k base ≡ Some f) one found

        here : (l : Bool) → report_lt f r ≡ l
            → length (news base (cond l r f ∷ list)) ≡ length (news base (f ∷ list)) + (if replaces (held r.activity base) (Some r) then 1 else 0)
        here true q = rw (found, there, q, not-itself f) (omega arith)
        here false q = rw (found, there, q, not-itself f) (omega arith)
    by false p l q more =
        of (replaces (held f.activity base) (Some f)) (more (sym (ap (λ t. cond t (Some (greater_report f (held r.activity list))) (held r.activity list)) p) ∙ same))
      where
        of : (s : Bool) → length (news base (with_report list r)) ≡ length (news base list) + (if replaces (held r.activity base) (Some r) then 1 else 0)
            → length (cond s (f ∷ news base (with_report list r)) (news base (with_report list r)))
            ≡ length (cond s (f ∷ news base list) (news base list)) + (if replaces (held r.activity base) (Some r) then 1 else 0)
        of true more = omega (arith, more)
        of false more = more

-- the same after a merge
news-behind : (base list others : List Report) → AreOnce list → AreOnce others → AreAlike base list others
    → length (news base (merged list others)) ≡ length (news base list) + length (news base others)
news-behind base list [] once each same = omega arith
news-behind base list (r ∷ others) once each same =
    by (replaces (held r.activity base) (Some r)) (news-with base list r once same.0)
    (news-behind base (with_report list r) others (with_once list r once) each.1 (alike-with base list others r once (none_of r.activity others each.0) same.1))
  where
    by : (t : Bool) → length (news base (with_report list r)) ≡ length (news base list) + (if t then 1 else 0)
        → length (news base (merged (with_report list r) others)) ≡ length (news base (with_report list r)) + length (news base others)
        → length (news base (merged (with_report list r) others)) ≡ length (news base list) + length (cond t (r ∷ news base others) (news base others))
    by true one more = omega (arith, one, more)
    by false one more = omega (arith, one, more)

-- nothing that is held takes the place of it
none-new : (base list : List Report) → AllByRecursion (λ r. held r.activity base ≡ Some r) list → news base list ≡ []
none-new base [] h = refl
none-new base (r ∷ list) h = rw (h.0, not-itself r) (none-new base list h.1)

-- as many activities come to have another report as there are reports above what is held, where the others were taken over
count-behind : (own others : List Report) → AreOnce own → AreOnce others → merge_count own others ≡ length (news own (merged own others))
count-behind own others once each =
    let keys : length (keyed (news own others)) ≡ length (news own others) = length-map (news own others) (λ r. (r.activity, r)) in
    let behind : length (news own (merged own others)) ≡ length (news own own) + length (news own others) = news-behind own own others once each (alike-itself own others) in
    let none : length (news own own) ≡ 0 = ap (λ (l : List Report). length l) (none-new own own (each_held own once)) in
    sym (count_merged own others each) ∙ keys ∙ omega (arith, behind, none)

-- reports that leave the same held are of as many activities that come to have another one
pub count_same : (own one two : List Report) → AreOnce own → AreOnce one → AreOnce two → merged own one ≡ merged own two → merge_count own one ≡ merge_count own two
count_same own one two once first second same =
    count-behind own one once first ∙ ap (λ l. length (news own l)) same ∙ sym (count-behind own two once second)
