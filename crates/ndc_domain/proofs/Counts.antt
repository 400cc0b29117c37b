-- What another table brings, counted side by side.
use Rattle.std.proofs.Common.{◌≡◌, ◌<◌, ◌+◌, ℕ, suc, cond, List, [], ◌∷◌, drop, length, get_or, drop-cons, Some, None, refl, sym, ◌∙◌, subst, arith}
use Rattle.std.specs.declared.cmp.Ordering.TheVariants.{Less, Equal, Greater}
use Rattle.std.proofs.lemmas.List.Sums.{sum_by-cons}
use Rattle.ndc_domain.specs.declared.record.DomainRecord.{DomainRecord}
use Rattle.ndc_domain.specs.Merge.{brings, is_news, merge_count}
use Rattle.ndc_domain.specs.Records.{AllLater, Rise, names_cmp, record_of}
use Rattle.ndc_domain.proofs.BothTables.{later_absent}
use Rattle.ndc_domain.proofs.Order.{eq_by_cmp, greater_flip, names_equal}
use Rattle.ndc_domain.proofs.Tables.{later_trans}

-- one for a record that is news, and those of the others
count-more : (records : List DomainRecord) (other : DomainRecord) (others : List DomainRecord)
    → merge_count records (other ∷ others) ≡ cond (is_news (record_of records other.name) other) 1 0 + merge_count records others
count-more records other others = sum_by-cons (λ r. cond (is_news (record_of records r.name) r) 1 0) other others

-- a record of ours before all of theirs does not count
count-rest : (first : DomainRecord) (records others : List DomainRecord) → AllLater first.name others → merge_count (first ∷ records) others ≡ merge_count records others
count-rest first records [] later = refl
count-rest first records (other ∷ others) later =
    let head : record_of (first ∷ records) other.name ≡ record_of records other.name = rw (eq_by_cmp first.name other.name Less later.0) refl in
    let tail = count-rest first records others later.1 in
    count-more (first ∷ records) other others ∙ (λ i. cond (is_news (head i) other) 1 0 + tail i) ∙ sym (count-more records other others)

-- the first of ours comes before the first of theirs
count-less : (first other : DomainRecord) (records others : List DomainRecord) → names_cmp first.name other.name ≡ Less → Rise (other ∷ others)
    → merge_count (first ∷ records) (other ∷ others) ≡ merge_count records (other ∷ others)
count-less first other records others less rise = count-rest first records (other ∷ others) (less, later_trans first.name other.name others less rise.0)

-- both have one name
count-equal : (first other : DomainRecord) (records others : List DomainRecord) → names_cmp first.name other.name ≡ Equal → Rise (other ∷ others)
    → merge_count (first ∷ records) (other ∷ others) ≡ cond (brings first other) 1 0 + merge_count records others
count-equal first other records others equal rise =
    let head : record_of (first ∷ records) other.name ≡ Some first = rw (eq_by_cmp first.name other.name Equal equal) refl in
    let later : AllLater first.name others = subst (λ (name : List ℕ). AllLater name others) (sym (names_equal first.name other.name equal)) rise.0 in
    let tail = count-rest first records others later in
    count-more (first ∷ records) other others ∙ (λ i. cond (is_news (head i) other) 1 0 + tail i)

-- the first of theirs comes before the first of ours
count-greater : (first other : DomainRecord) (records others : List DomainRecord) → names_cmp first.name other.name ≡ Greater → Rise (first ∷ records)
    → merge_count (first ∷ records) (other ∷ others) ≡ 1 + merge_count (first ∷ records) others
count-greater first other records others greater rise =
    let before : names_cmp other.name first.name ≡ Less = greater_flip first.name other.name greater in
    let none : record_of (first ∷ records) other.name ≡ None = later_absent (first ∷ records) other.name (before, later_trans other.name first.name records before rise.0) in
    count-more (first ∷ records) other others ∙ (λ i. cond (is_news (none i) other) 1 0 + merge_count (first ∷ records) others)

-- all of theirs count where none of ours is left
count-all : (others : List DomainRecord) → merge_count [] others ≡ length others
count-all [] = refl
count-all (other ∷ others) = count-more [] other others ∙ omega (arith, count-all others)

-- what is left of a list begins with the item at the place
at-first : {X : Type 0} (xs : List X) (i : ℕ) (x : X) → i < length xs → x ≡ get_or xs i x → drop i xs ≡ x ∷ drop (i + 1) xs
at-first xs i x below is =
    let one : suc i ≡ i + 1 = omega arith in
    drop-cons xs i x below ∙ (λ k. sym is k ∷ drop (one k) xs)

-- the first of ours and the first of theirs that are left
module _ (records others : List DomainRecord) (i j : ℕ) (one other : DomainRecord)
    (below : i < length records) (below' : j < length others) (is : one ≡ get_or records i one) (is' : other ≡ get_or others j other)
    (rise : Rise (drop i records)) (rise' : Rise (drop j others)) where
  ours : Rise (one ∷ drop (i + 1) records)
  ours = subst Rise (at-first records i one below is) rise

  theirs : Rise (other ∷ drop (j + 1) others)
  theirs = subst Rise (at-first others j other below' is') rise'

  pub ours_left : Rise (drop (i + 1) records)
  ours_left = ours.1

  pub theirs_left : Rise (drop (j + 1) others)
  theirs_left = theirs.1

  pub step_less : names_cmp one.name other.name ≡ Less → merge_count (drop i records) (drop j others) ≡ merge_count (drop (i + 1) records) (drop j others)
  step_less less =
      (λ k. merge_count (at-first records i one below is k) (at-first others j other below' is' k))
      ∙ count-less one other (drop (i + 1) records) (drop (j + 1) others) less theirs
      ∙ (λ k. merge_count (drop (i + 1) records) (sym (at-first others j other below' is') k))

  pub step_equal : names_cmp one.name other.name ≡ Equal
      → merge_count (drop i records) (drop j others) ≡ cond (brings one other) 1 0 + merge_count (drop (i + 1) records) (drop (j + 1) others)
  step_equal equal =
      (λ k. merge_count (at-first records i one below is k) (at-first others j other below' is' k))
      ∙ count-equal one other (drop (i + 1) records) (drop (j + 1) others) equal theirs

  pub step_greater : names_cmp one.name other.name ≡ Greater → merge_count (drop i records) (drop j others) ≡ 1 + merge_count (drop i records) (drop (j + 1) others)
  step_greater greater =
      (λ k. merge_count (at-first records i one below is k) (at-first others j other below' is' k))
      ∙ count-greater one other (drop (i + 1) records) (drop (j + 1) others) greater ours
      ∙ (λ k. 1 + merge_count (sym (at-first records i one below is) k) (drop (j + 1) others))

-- no record of ours is left, or none of theirs
pub end_ours : (records others : List DomainRecord) (i j : ℕ) → drop i records ≡ [] → merge_count (drop i records) (drop j others) ≡ length (drop j others)
end_ours records others i j none = (λ k. merge_count (none k) (drop j others)) ∙ count-all (drop j others)

pub end_theirs : (records others : List DomainRecord) (i j : ℕ) → drop j others ≡ [] → merge_count (drop i records) (drop j others) ≡ 0
end_theirs records others i j none = (λ k. merge_count (drop i records) (none k))
