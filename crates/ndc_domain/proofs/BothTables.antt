-- Merged tables: they are tables, and what is found in them.
use Rattle.std.proofs.Common.{◌≡◌, ℕ, ◌≤◌, ◌^◌, Bool, true, false, cond, List, [], ◌∷◌, ◌++◌, Option, Some, None, refl, sym, ◌∙◌, ap, subst, arith, ◌⊎◌, inl, inr}
use Rattle.std.specs.Str.{bytes_eq}
use Rattle.std.specs.declared.cmp.Ordering.{Ordering}
use Rattle.std.specs.declared.cmp.Ordering.TheVariants.{Less, Equal, Greater}
use Rattle.std.specs.Ordering.{match_ordering}
use Rattle.std.specs.List.{AllByRecursion}
use Rattle.std.proofs.lemmas.List.{append-nil}
use Rattle.std.proofs.lemmas.Slice.Eq.{bytes_eq-Decides}
use Rattle.ndc_domain.specs.declared.record.DomainRecord.{DomainRecord}
use Rattle.ndc_domain.specs.Records.{names_cmp, AllLater, Rise, IsRecord, IsTable, record_of}
use Rattle.ndc_domain.specs.Merge.{merged_record, merged_behind, merged, merged_option}
use Rattle.ndc_domain.specs.Flags.{where_AreMembers}
use Rattle.ndc_domain.proofs.Order.{names_equal, less_flip, greater_flip, eq_by_cmp}
use Rattle.ndc_domain.proofs.Tables.{later_trans}

-- merging with the first of ours, by how its name compares with the first of theirs
pub merge_cases : (P : List DomainRecord → Type 0) (first : DomainRecord) (rest : List DomainRecord → List DomainRecord) (other : DomainRecord) (others : List DomainRecord) →
    (names_cmp first.name other.name ≡ Less → P (first ∷ rest (other ∷ others))) →
    (names_cmp first.name other.name ≡ Equal → P (merged_record first other ∷ rest others)) →
    (names_cmp first.name other.name ≡ Greater → P (other ∷ merged_behind first rest others)) →
    P (merged_behind first rest (other ∷ others))
merge_cases P first rest other others less equal greater = by_order (names_cmp first.name other.name) refl
  where
    by_order : (o : Ordering) → names_cmp first.name other.name ≡ o →
        P (match_ordering o (first ∷ rest (other ∷ others)) (merged_record first other ∷ rest others) (other ∷ merged_behind first rest others))
    by_order Less e = less e
    by_order Equal e = equal e
    by_order Greater e = greater e

-- with no record of theirs ours stay
pub merged_nil : (records : List DomainRecord) → merged records [] ≡ records
merged_nil [] = refl
merged_nil (first ∷ records) = ap (λ (rs : List DomainRecord). first ∷ rs) (merged_nil records)

-- where one of the lists is at its end, the other is left
pub merged_end : (records others : List DomainRecord) → (records ≡ []) ⊎ (others ≡ []) → merged records others ≡ records ++ others
merged_end records others (inl e) = rw e refl
merged_end records others (inr e) = rw e (merged_nil records ∙ sym (append-nil records))

-- what holds of all records of both, and of merged ones
module _ (P : DomainRecord → Type 0) (both : (one two : DomainRecord) → P one → P two → P (merged_record one two)) where
  All-behind : (first : DomainRecord) (rest : List DomainRecord → List DomainRecord) → P first →
      ((others : List DomainRecord) → AllByRecursion P others → AllByRecursion P (rest others)) →
      (others : List DomainRecord) → AllByRecursion P others → AllByRecursion P (merged_behind first rest others)
  All-behind first rest p further [] all = (p, further [] tt)
  All-behind first rest p further (other ∷ others) all =
      merge_cases (AllByRecursion P) first rest other others
      (λ e. (p, further (other ∷ others) all))
      (λ e. (both first other p all.0, further others all.1))
      (λ e. (all.0, All-behind first rest p further others all.1))

  pub All-merged : (records others : List DomainRecord) → AllByRecursion P records → AllByRecursion P others → AllByRecursion P (merged records others)
  All-merged [] others ours theirs = theirs
  All-merged (first ∷ records) others ours theirs =
      All-behind first (merged records) ours.0 (λ os all. All-merged records os ours.1 all) others theirs

-- records that are later stay so
later_merged : (name : List ℕ) (records others : List DomainRecord) → AllLater name records → AllLater name others → AllLater name (merged records others)
later_merged name records others ours theirs = All-merged (λ later. names_cmp name later.name ≡ Less) (λ one two p q. p) records others ours theirs

-- what is later than the first of a list is later than an earlier name
later_list : (name : List ℕ) (first : DomainRecord) (records : List DomainRecord) → names_cmp name first.name ≡ Less → Rise (first ∷ records) → AllLater name (first ∷ records)
later_list name first records l rise = (l, later_trans name first.name records l rise.0)

same_later : (one two : List ℕ) (records : List DomainRecord) → names_cmp one two ≡ Equal → AllLater two records → AllLater one records
same_later one two records e later = subst (λ (name : List ℕ). AllLater name records) (sym (names_equal one two e)) later

-- merged records stand in order
Rise-behind : (first : DomainRecord) (records : List DomainRecord) → Rise (first ∷ records) →
    ((others : List DomainRecord) → Rise others → Rise (merged records others)) →
    (others : List DomainRecord) → Rise others → Rise (merged_behind first (merged records) others)
Rise-behind first records rise further [] theirs = (later_merged first.name records [] rise.0 tt, further [] tt)
Rise-behind first records rise further (other ∷ others) theirs =
    merge_cases Rise first (merged records) other others
    (λ e. (later_merged first.name records (other ∷ others) rise.0 (later_list first.name other others e theirs), further (other ∷ others) theirs))
    (λ e. (later_merged first.name records others rise.0 (same_later first.name other.name others e theirs.0), further others theirs.1))
    (λ e. (
      later_merged other.name (first ∷ records) others (later_list other.name first records (greater_flip first.name other.name e) rise) theirs.0,
      Rise-behind first records rise further others theirs.1,
    ))

pub Rise-merged : (records others : List DomainRecord) → Rise records → Rise others → Rise (merged records others)
Rise-merged [] others ours theirs = theirs
Rise-merged (first ∷ records) others ours theirs =
    Rise-behind first records ours (λ os rise. Rise-merged records os ours.1 rise) others theirs

-- a merged record is sound
merged_sound : (one two : DomainRecord) → IsRecord one → IsRecord two → IsRecord (merged_record one two)
merged_sound one two p q = let a : one.version ≤ 10 ^ 13 = p.0 in let b : two.version ≤ 10 ^ 13 = q.0 in (omega arith, where_AreMembers _)

-- two tables merged are a table
pub IsTable-merged : (records others : List DomainRecord) → IsTable records → IsTable others → IsTable (merged records others)
IsTable-merged records others ours theirs = record {
  ordered = Rise-merged records others ours.ordered theirs.ordered;
  sound = All-merged IsRecord merged_sound records others ours.sound theirs.sound;
}

-- a name that all records come after is none of theirs
pub later_absent : (records : List DomainRecord) (name : List ℕ) → AllLater name records → record_of records name ≡ None
later_absent [] name later = refl
later_absent (first ∷ records) name later =
    rw (eq_by_cmp first.name name Greater (less_flip name first.name later.0)) (later_absent records name later.1)

-- the names told by a test
told : (one two : List ℕ) → bytes_eq one two ≡ true → one ≡ two
told one two e = (bytes_eq-Decides one two).0 e

-- what is found after the first of ours
found_behind : (first : DomainRecord) (records : List DomainRecord) (name : List ℕ) → Rise (first ∷ records) →
    ((others : List DomainRecord) → Rise others → record_of (merged records others) name ≡ merged_option (record_of records name) (record_of others name)) →
    (others : List DomainRecord) → Rise others →
    record_of (merged_behind first (merged records) others) name ≡ merged_option (record_of (first ∷ records) name) (record_of others name)
found_behind first records name rise further [] theirs =
    by_test (bytes_eq first.name name) refl
  where
    by_test : (t : Bool) → bytes_eq first.name name ≡ t →
        cond t (Some first) (record_of (merged records []) name) ≡ merged_option (cond t (Some first) (record_of records name)) None
    by_test true e = refl
    by_test false e = further [] tt
found_behind first records name rise further (other ∷ others) theirs =
    merge_cases (λ all. record_of all name ≡ merged_option (record_of (first ∷ records) name) (record_of (other ∷ others) name)) first (merged records) other others
    (λ e. less e (bytes_eq first.name name) refl)
    (λ e. equal e (bytes_eq first.name name) refl)
    (λ e. greater e (bytes_eq other.name name) refl (found_behind first records name rise further others theirs.1))
  where
    less : names_cmp first.name other.name ≡ Less → (t : Bool) → bytes_eq first.name name ≡ t →
        record_of (first ∷ merged records (other ∷ others)) name ≡ merged_option (record_of (first ∷ records) name) (record_of (other ∷ others) name)
    less e true t =
        let none : record_of (other ∷ others) name ≡ None =
        subst (λ (n : List ℕ). record_of (other ∷ others) n ≡ None) (told first.name name t)
        (later_absent (other ∷ others) first.name (later_list first.name other others e theirs)) in
        ap (λ (b : Bool). cond b (Some first) (record_of (merged records (other ∷ others)) name)) t
        ∙ sym (ap (λ (b : Bool). merged_option (cond b (Some first) (record_of records name)) (record_of (other ∷ others) name)) t
        ∙ ap (λ (o : Option DomainRecord). merged_option (Some first) o) none)
    less e false t =
        ap (λ (b : Bool). cond b (Some first) (record_of (merged records (other ∷ others)) name)) t
        ∙ further (other ∷ others) theirs
        ∙ sym (ap (λ (b : Bool). merged_option (cond b (Some first) (record_of records name)) (record_of (other ∷ others) name)) t)

    equal : names_cmp first.name other.name ≡ Equal → (t : Bool) → bytes_eq first.name name ≡ t →
        record_of (merged_record first other ∷ merged records others) name ≡ merged_option (record_of (first ∷ records) name) (record_of (other ∷ others) name)
    equal e true t =
        let s : bytes_eq other.name name ≡ true = ap (λ (n : List ℕ). bytes_eq n name) (sym (names_equal first.name other.name e)) ∙ t in
        rw (t, s) refl
    equal e false t =
        let s : bytes_eq other.name name ≡ false = ap (λ (n : List ℕ). bytes_eq n name) (sym (names_equal first.name other.name e)) ∙ t in
        rw (t, s) (further others theirs.1)

    greater : names_cmp first.name other.name ≡ Greater → (t : Bool) → bytes_eq other.name name ≡ t →
        record_of (merged_behind first (merged records) others) name ≡ merged_option (record_of (first ∷ records) name) (record_of others name) →
        record_of (other ∷ merged_behind first (merged records) others) name ≡ merged_option (record_of (first ∷ records) name) (record_of (other ∷ others) name)
    greater e true t again =
        let none : record_of (first ∷ records) name ≡ None =
        subst (λ (n : List ℕ). record_of (first ∷ records) n ≡ None) (told other.name name t)
        (later_absent (first ∷ records) other.name (later_list other.name first records (greater_flip first.name other.name e) rise)) in
        ap (λ (b : Bool). cond b (Some other) (record_of (merged_behind first (merged records) others) name)) t
        ∙ sym (ap (λ (b : Bool). merged_option (record_of (first ∷ records) name) (cond b (Some other) (record_of others name))) t
        ∙ ap (λ (o : Option DomainRecord). merged_option o (Some other)) none)
    greater e false t again =
        ap (λ (b : Bool). cond b (Some other) (record_of (merged_behind first (merged records) others) name)) t
        ∙ again
        ∙ sym (ap (λ (b : Bool). merged_option (record_of (first ∷ records) name) (cond b (Some other) (record_of others name))) t)

-- under each name stands what both have under it
pub record_of-merged : (records others : List DomainRecord) (name : List ℕ) → Rise records → Rise others →
    record_of (merged records others) name ≡ merged_option (record_of records name) (record_of others name)
record_of-merged [] others name ours theirs = refl
record_of-merged (first ∷ records) others name ours theirs =
    found_behind first records name ours (λ os rise. record_of-merged records os name ours.1 rise) others theirs
