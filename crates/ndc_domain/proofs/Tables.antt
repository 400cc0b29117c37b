-- Tables stay tables when a record is put, and what is found in them.
use Rattle.std.proofs.Common.{◌≡◌, ℕ, Bool, true, false, cond, List, [], ◌∷◌, Option, Some, refl, sym, subst}
use Rattle.std.specs.Str.{bytes_eq}
use Rattle.std.specs.declared.cmp.Ordering.{Ordering}
use Rattle.std.specs.declared.cmp.Ordering.TheVariants.{Less, Equal, Greater}
use Rattle.std.specs.Ordering.{match_ordering}
use Rattle.std.specs.List.{AllByRecursion}
use Rattle.std.proofs.lemmas.Slice.Eq.{bytes_eq-Decides}
use Rattle.ndc_domain.specs.declared.record.DomainRecord.{DomainRecord}
use Rattle.ndc_domain.specs.Records.{names_cmp, AllLater, Rise, IsRecord, IsTable, record_of, put_record}
use Rattle.ndc_domain.proofs.Order.{names_equal, greater_flip, less_trans}

-- putting a record, by how its name compares with the first
pub put_cases : (P : List DomainRecord → Type 0) (new first : DomainRecord) (records : List DomainRecord) →
    (names_cmp new.name first.name ≡ Less → P (new ∷ first ∷ records)) →
    (names_cmp new.name first.name ≡ Equal → P (new ∷ records)) →
    (names_cmp new.name first.name ≡ Greater → P (first ∷ put_record new records)) →
    P (put_record new (first ∷ records))
put_cases P new first records less equal greater = by_order (names_cmp new.name first.name) refl
  where
    by_order : (o : Ordering) → names_cmp new.name first.name ≡ o → P (match_ordering o (new ∷ first ∷ records) (new ∷ records) (first ∷ put_record new records))
    by_order Less e = less e
    by_order Equal e = equal e
    by_order Greater e = greater e

-- what holds of each record and of the new one holds of each then
pub All-put : (P : DomainRecord → Type 0) (new : DomainRecord) (records : List DomainRecord) →
    P new → AllByRecursion P records → AllByRecursion P (put_record new records)
All-put P new [] p all = (p, tt)
All-put P new (first ∷ records) p all =
    put_cases (AllByRecursion P) new first records (λ e. (p, all)) (λ e. (p, all.1)) (λ e. (all.0, All-put P new records p all.1))

-- what is later than a later name is later
pub later_trans : (a b : List ℕ) (records : List DomainRecord) → names_cmp a b ≡ Less → AllLater b records → AllLater a records
later_trans a b [] l all = tt
later_trans a b (first ∷ records) l all = (less_trans a b first.name l all.0, later_trans a b records l all.1)

-- records stay in order
pub Rise-put : (new : DomainRecord) (records : List DomainRecord) → Rise records → Rise (put_record new records)
Rise-put new [] rise = (tt, tt)
Rise-put new (first ∷ records) rise =
    put_cases Rise new first records
    (λ e. ((e, later_trans new.name first.name records e rise.0), rise))
    (λ e. (subst (λ (name : List ℕ). AllLater name records) (sym (names_equal new.name first.name e)) rise.0, rise.1))
    (λ e. (All-put (λ later. names_cmp first.name later.name ≡ Less) new records (greater_flip new.name first.name e) rise.0, Rise-put new records rise.1))

-- a table with a sound record put is a table
pub IsTable-put : (new : DomainRecord) (records : List DomainRecord) → IsTable records → IsRecord new → IsTable (put_record new records)
IsTable-put new records table sound =
    record { ordered = Rise-put new records table.ordered; sound = All-put IsRecord new records sound table.sound }

-- looking a name up, by whether the first record has it
pub find_cases : (P : Option DomainRecord → Type 0) (first : DomainRecord) (records : List DomainRecord) (name : List ℕ) →
    (first.name ≡ name → P (Some first)) → (bytes_eq first.name name ≡ false → P (record_of records name)) → P (record_of (first ∷ records) name)
find_cases P first records name here further = by_test (bytes_eq first.name name) refl
  where
    by_test : (t : Bool) → bytes_eq first.name name ≡ t → P (cond t (Some first) (record_of records name))
    by_test true e = here ((bytes_eq-Decides first.name name).0 e)
    by_test false e = further e

-- a record that is found has the name, and what all have
pub found_has : (P : DomainRecord → Type 0) (records : List DomainRecord) (name : List ℕ) (one : DomainRecord) →
    AllByRecursion P records → record_of records name ≡ Some one → P one × (one.name ≡ name)
found_has P [] name one all = λ found. absurd (cc)
found_has P (first ∷ records) name one all =
    find_cases (λ o. o ≡ Some one → P one × (one.name ≡ name)) first records name
    (λ e found. let same : first ≡ one = cc in (subst P same all.0, subst (λ (r : DomainRecord). r.name ≡ name) same e))
    (λ _ found. found_has P records name one all.1 found)
