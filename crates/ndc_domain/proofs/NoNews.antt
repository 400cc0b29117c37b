-- A table that brings nothing.
use Rattle.std.proofs.Common.{◌≡◌, ℕ, ◌+◌, ◌<◌, Bool, true, false, cond, List, [], ◌∷◌, get_or, Option, Some, None, refl, sym, ◌∙◌, ap, subst, arith}
use Rattle.std.specs.Prelude.{count_by, All, Any, ◌==◌, filter}
use Rattle.std.specs.List.{AllByRecursion, list_any}
use Rattle.std.specs.declared.cmp.Ordering.TheVariants.{Less}
use Rattle.std.specs.Str.{bytes_eq}
use Rattle.std.proofs.lemmas.Bool.{eqb-true}
use Rattle.std.proofs.lemmas.Slice.Eq.{bytes_eq-Decides}
use Rattle.std.proofs.lemmas.List.Elements.{filter_passes}
use Rattle.std.proofs.lemmas.List.Sums.{sum_by-cons}
use Rattle.std.proofs.lemmas.List.Folds.{Any-from_list_any}
use Rattle.ndc_domain.specs.declared.clusters.ClusterNo.{ClusterNo}
use Rattle.ndc_domain.specs.declared.record.DomainRecord.{DomainRecord}
use Rattle.ndc_domain.specs.Members.{numbers, numbers_where, members_of}
use Rattle.ndc_domain.specs.Records.{IsRecord, IsTable, Rise, names_cmp, record_of}
use Rattle.ndc_domain.specs.Merge.{merged, merged_option, merged_record, is_news, merge_count}
use Rattle.ndc_domain.proofs.Tables.{find_cases, found_has}
use Rattle.ndc_domain.proofs.BothTables.{record_of-merged, Rise-merged}
use Rattle.ndc_domain.proofs.MergeLaws.{same_by_finding}
use Rattle.ndc_domain.proofs.Order.{eq_by_cmp}
use Rattle.ndc_domain.proofs.Unions.{brings_nothing, brings_where_changed}

-- where none passes, the first does not, and none of the others
none_counted : (p : DomainRecord → Bool) (first : DomainRecord) (records : List DomainRecord) → count_by p (first ∷ records) ≡ 0 →
    (p first ≡ false) × (count_by p records ≡ 0)
none_counted p first records h = by_test (p first) refl h
  where
    by_test : (t : Bool) → p first ≡ t → count_by p (first ∷ records) ≡ 0 → (p first ≡ false) × (count_by p records ≡ 0)
    by_test true e h =
        let sum : count_by p (first ∷ records) ≡ cond (p first) 1 0 + count_by p records = sum_by-cons (λ r. cond (p r) 1 0) first records in
        let one : cond {A = ℕ} (p first) 1 0 ≡ 1 = ap (λ (t : Bool). cond {A = ℕ} t 1 0) e in
        absurd (omega arith)
    by_test false e h =
        let sum : count_by p (first ∷ records) ≡ cond (p first) 1 0 + count_by p records = sum_by-cons (λ r. cond (p r) 1 0) first records in
        let zero : cond {A = ℕ} (p first) 1 0 ≡ 0 = ap (λ (t : Bool). cond {A = ℕ} t 1 0) e in
        (e, omega arith)

-- so none that is found passes
none_found : (p : DomainRecord → Bool) (records : List DomainRecord) (name : List ℕ) (one : DomainRecord) →
    count_by p records ≡ 0 → record_of records name ≡ Some one → p one ≡ false
none_found p [] name one none = λ found. absurd (cc)
none_found p (first ∷ records) name one none =
    let parts : (p first ≡ false) × (count_by p records ≡ 0) = none_counted p first records none in
    find_cases (λ o. o ≡ Some one → p one ≡ false) first records name
    (λ e found. let same : first ≡ one = cc in ap p (sym same) ∙ parts.0)
    (λ _ found. none_found p records name one parts.1 found)

-- where the count is 0, merging changes nothing
pub merge_nothing : (records others : List DomainRecord) → IsTable records → IsTable others → merge_count records others ≡ 0 → merged records others ≡ records
merge_nothing records others table table' none =
    same_by_finding (merged records others) records (Rise-merged records others table.ordered table'.ordered) table.ordered
    (λ name. record_of-merged records others name table.ordered table'.ordered ∙ stays name (record_of others name) refl)
  where
    quiet : (ours : Option DomainRecord) (theirs : DomainRecord) → is_news ours theirs ≡ false → merged_option ours (Some theirs) ≡ ours
    quiet None theirs h = absurd (cc)
    quiet (Some ours) theirs h = ap Some (brings_nothing ours theirs h)

    stays : (name : List ℕ) (theirs : Option DomainRecord) → record_of others name ≡ theirs → merged_option (record_of records name) theirs ≡ record_of records name
    stays name None e = alone (record_of records name)
      where
        alone : (ours : Option DomainRecord) → merged_option ours None ≡ ours
        alone None = refl
        alone (Some ours) = refl
    stays name (Some theirs) e =
        let told : is_news (record_of records theirs.name) theirs ≡ false = none_found (λ other. is_news (record_of records other.name) other) others name theirs none e in
        let named : theirs.name ≡ name = (found_has IsRecord others name theirs table'.sound e).1 in
        quiet (record_of records name) theirs (subst (λ (n : List ℕ). is_news (record_of records n) theirs ≡ false) named told)

-- where none passes, none is counted
nothing_counted : (p : DomainRecord → Bool) (records : List DomainRecord) → AllByRecursion (λ r. p r ≡ false) records → count_by p records ≡ 0
nothing_counted p [] none = refl
nothing_counted p (first ∷ records) none =
    let sum : count_by p (first ∷ records) ≡ cond (p first) 1 0 + count_by p records = sum_by-cons (λ r. cond (p r) 1 0) first records in
    let zero : cond {A = ℕ} (p first) 1 0 ≡ 0 = ap (λ (t : Bool). cond {A = ℕ} t 1 0) none.0 in
    let rest : count_by p records ≡ 0 = nothing_counted p records none.1 in
    omega arith

-- each record of a table is found by its name, after a first one that comes before them too
found_behind : (all records : List DomainRecord) → Rise records
    → ((one : DomainRecord) → record_of records one.name ≡ Some one → record_of all one.name ≡ Some one) → AllByRecursion (λ one. record_of all one.name ≡ Some one) records
found_behind all [] rise more = tt
found_behind all (first ∷ records) rise more =
    let itself : bytes_eq first.name first.name ≡ true = (bytes_eq-Decides first.name first.name).1 refl in (
      more first (ap (λ (t : Bool). cond t (Some first) (record_of records first.name)) itself),
      found_behind all records rise.1 (λ one found. more one (past one found (found_has (λ later. names_cmp first.name later.name ≡ Less) records one.name one rise.0 found).0)),
    )
  where
    past : (one : DomainRecord) → record_of records one.name ≡ Some one → names_cmp first.name one.name ≡ Less → record_of (first ∷ records) one.name ≡ Some one
    past one found less = ap (λ (t : Bool). cond t (Some first) (record_of records one.name)) (eq_by_cmp first.name one.name Less less) ∙ found

-- and where merging changes nothing, the count is 0
pub nothing_merged : (records others : List DomainRecord) → IsTable records → IsTable others → merged records others ≡ records → merge_count records others ≡ 0
nothing_merged records others table table' same =
    nothing_counted (λ other. is_news (record_of records other.name) other) others
    (each others (found_behind others others table'.ordered (λ one found. found)))
  where
    quiet : (ours : Option DomainRecord) (theirs : DomainRecord) → merged_option ours (Some theirs) ≡ ours → is_news ours theirs ≡ false
    quiet None theirs h = absurd (cc)
    quiet (Some ours) theirs h = let same : merged_record ours theirs ≡ ours = cc in brings_where_changed ours theirs same

    told : (theirs : DomainRecord) → record_of others theirs.name ≡ Some theirs → is_news (record_of records theirs.name) theirs ≡ false
    told theirs found =
        quiet (record_of records theirs.name) theirs
        (ap (merged_option (record_of records theirs.name)) (sym found) ∙ sym (record_of-merged records others theirs.name table.ordered table'.ordered)
        ∙ ap (λ (rs : List DomainRecord). record_of rs theirs.name) same)

    each : (list : List DomainRecord) → AllByRecursion (λ one. record_of others one.name ≡ Some one) list → AllByRecursion (λ one. is_news (record_of records one.name) one ≡ false) list
    each [] all = tt
    each (first ∷ list) all = (told first all.0, each list all.1)

-- members that are made of clusters below a count are below it
pub members_below : (clusters : List ClusterNo) (count : ℕ) → All (λ cluster. cluster.number < count) clusters → All (λ member. member < count) (members_of clusters)
unfolding numbers_where
members_below clusters count all k d l =
    let member : ℕ = get_or (filter (λ number. list_any (λ cluster. cluster.number == number) clusters) numbers) k d in
    let passes : list_any (λ cluster. cluster.number == member) clusters ≡ true =
    filter_passes (λ number. list_any (λ cluster. cluster.number == number) clusters) numbers k d l in
    let some : Any (λ cluster. (cluster.number == member) ≡ true) clusters = Any-from_list_any (λ cluster. cluster.number == member) clusters passes in
    let below : (get_or clusters (some.0) (some.1)).number < count = all (some.0) (some.1) (some.2) in
    let same : some.1.number ≡ member = eqb-true _ _ (some.4) in
    subst (λ (n : ℕ). n < count) (ap (λ (cluster : ClusterNo). cluster.number) (some.3) ∙ same) below
