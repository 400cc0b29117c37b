-- The order of names, and the records of a name in a list that rises.
use Rattle.std.proofs.Common.{◌≡◌, ℕ, zero, suc, ◌<◌, ◌≤◌, true, List, [], ◌∷◌, length, get_or, set, None, Result, Ok, Err, IfOk, IfErr, slice_get, refl, sym, ◌∙◌, ap, subst, inl, inr, arith}
use Rattle.std.specs.Prelude.{insert}
use Rattle.std.specs.Str.{bytes_eq}
use Rattle.std.specs.declared.cmp.Ordering.{Ordering}
use Rattle.std.specs.declared.cmp.Ordering.TheVariants.{Less, Equal, Greater}
use Rattle.std.specs.Ordering.{is_eq, ordering_index, ordering_reverse}
use Rattle.std.specs.Cmp.Lexicographic.{nat_list_cmp_total}
use Rattle.std.specs.List.{AllByRecursion}
use Rattle.std.specs.List.Sorted.{IsSearchInRange, IsBinarySearchResult, IsNonDecreasingBy}
use Rattle.std.proofs.lemmas.Bool.{cases_eq}
use Rattle.std.proofs.lemmas.Map.Text.{is_eq-slice_cmp}
use Rattle.std.proofs.lemmas.Slice.Eq.{bytes_eq-Decides}
use Rattle.std.proofs.lemmas.List.Sorted.{IsNonDecreasingBy-from_default}
use Rattle.ndc_domain.specs.declared.record.DomainRecord.{DomainRecord}
use Rattle.ndc_domain.specs.Records.{names_cmp, Rise, record_of, put_record}
use Rattle.ndc_domain.specs.Places.{IsAt, IsGap}

-- names that compare as equal are
pub names_equal : (a b : List ℕ) → names_cmp a b ≡ Equal → a ≡ b
names_equal a b h = (bytes_eq-Decides a b).0 (sym (is_eq-slice_cmp a b) ∙ ap is_eq h)

pub names_same : (a : List ℕ) → names_cmp a a ≡ Equal
names_same a = from_test (names_cmp a a) (is_eq-slice_cmp a a ∙ (bytes_eq-Decides a a).1 refl)
  where
    from_test : (o : Ordering) → is_eq o ≡ true → o ≡ Equal
    from_test Less h = absurd (cc)
    from_test Equal h = refl
    from_test Greater h = absurd (cc)

-- an earlier name turned round
pub less_flip : (a b : List ℕ) → names_cmp a b ≡ Less → names_cmp b a ≡ Greater
less_flip a b h = nat_list_cmp_total.antisymm b a ∙ ap ordering_reverse h

pub greater_flip : (a b : List ℕ) → names_cmp a b ≡ Greater → names_cmp b a ≡ Less
greater_flip a b h = nat_list_cmp_total.antisymm b a ∙ ap ordering_reverse h

pub less_trans : (a b c : List ℕ) → names_cmp a b ≡ Less → names_cmp b c ≡ Less → names_cmp a c ≡ Less
less_trans a b c = nat_list_cmp_total.trans a b c

-- the test of two names by how they compare
pub eq_by_cmp : (a b : List ℕ) (o : Ordering) → names_cmp a b ≡ o → bytes_eq a b ≡ is_eq o
eq_by_cmp a b o h = sym (is_eq-slice_cmp a b) ∙ ap is_eq h

-- no name is before itself
pub less_irrefl : (a : List ℕ) → names_cmp a a ≡ Less → ⊥
less_irrefl a h = let e : names_cmp a a ≡ Equal = names_same a in absurd (cc)

-- later names compare later with any name
cmp_rises : (a b n : List ℕ) → names_cmp a b ≡ Less → ordering_index (names_cmp a n) ≤ ordering_index (names_cmp b n)
cmp_rises a b n h = by_case (names_cmp b n) refl
  where
    most : (o : Ordering) → ordering_index o ≤ 2
    most Less = omega arith
    most Equal = omega arith
    most Greater = omega arith

    by_case : (o : Ordering) → names_cmp b n ≡ o → ordering_index (names_cmp a n) ≤ ordering_index o
    by_case Less e = let l : names_cmp a n ≡ Less = less_trans a b n h e in rw l (omega arith)
    by_case Equal e = let l : names_cmp a n ≡ Less = subst (λ (x : List ℕ). names_cmp a x ≡ Less) (names_equal b n e) h in rw l (omega arith)
    by_case Greater e = most (names_cmp a n)

-- what holds of each holds at each place
pub all_at : {X : Type 0} (P : X → Type 0) (xs : List X) (i : ℕ) (d : X) → AllByRecursion P xs → i < length xs → P (get_or xs i d)
all_at P [] i d all l = absurd (omega arith)
all_at P (x ∷ xs) zero d all l = all.0
all_at P (x ∷ xs) (suc i) d all l = all_at P xs i d all.1 (omega arith)

-- in a list that rises, later places have later names
rise_at : (records : List DomainRecord) → Rise records → (i j : ℕ) (d : DomainRecord) → i < j → j < length records →
    names_cmp (get_or records i d).name (get_or records j d).name ≡ Less
rise_at [] rise i j d l m = absurd (omega arith)
rise_at (r ∷ rs) rise i zero d l m = absurd (omega arith)
rise_at (r ∷ rs) rise zero (suc j) d l m = all_at (λ later. names_cmp r.name later.name ≡ Less) rs j d rise.0 (omega arith)
rise_at (r ∷ rs) rise (suc i) (suc j) d l m = rise_at rs rise.1 i j d (omega arith) (omega arith)

-- a record that says nothing
pub no_record : DomainRecord
no_record = record { name = []; version = 0; config = 0; days = 0; members = [] }

-- the comparisons with a name rise, as a binary search asks
comparisons_rise : (records : List DomainRecord) → Rise records → (n : List ℕ) → IsNonDecreasingBy (λ r. ordering_index (names_cmp r.name n)) records
comparisons_rise records rise n =
    IsNonDecreasingBy-from_default (λ r. ordering_index (names_cmp r.name n)) records no_record (λ i j le l.
    elim (cases_eq i j) as (λ _. ordering_index (names_cmp (get_or records i no_record).name n) ≤ ordering_index (names_cmp (get_or records j no_record).name n)) [
      | inl e ↦ rw e (omega arith)
      | inr ne ↦ cmp_rises (get_or records i no_record).name (get_or records j no_record).name n (rise_at records rise i j no_record (omega arith) l)
    ])

-- the records before a place have earlier names
BeforeAre : List DomainRecord → List ℕ → ℕ → Type 0
BeforeAre records n place = (k : ℕ) → k < place → names_cmp (get_or records k no_record).name n ≡ Less

-- those from it on have later names
AfterAre : List DomainRecord → List ℕ → ℕ → Type 0
AfterAre records n place = (k : ℕ) → place ≤ k → k < length records → names_cmp (get_or records k no_record).name n ≡ Greater

-- the tail of a list, one place lower
before_tail : (r : DomainRecord) (rs : List DomainRecord) (n : List ℕ) (place : ℕ) → BeforeAre (r ∷ rs) n (suc place) → BeforeAre rs n place
unfolding BeforeAre
before_tail r rs n place before k l = before (suc k) (omega arith)

after_tail : (r : DomainRecord) (rs : List DomainRecord) (n : List ℕ) (place : ℕ) → AfterAre (r ∷ rs) n (suc place) → AfterAre rs n place
unfolding AfterAre
after_tail r rs n place after k le l = after (suc k) (omega arith) (omega arith)

-- the first of the records before a place
before_first : (r : DomainRecord) (rs : List DomainRecord) (n : List ℕ) (place : ℕ) → BeforeAre (r ∷ rs) n (suc place) → names_cmp r.name n ≡ Less
unfolding BeforeAre
before_first r rs n place before = before 0 (omega arith)

after_first : (r : DomainRecord) (rs : List DomainRecord) (n : List ℕ) → AfterAre (r ∷ rs) n zero → names_cmp r.name n ≡ Greater
unfolding AfterAre
after_first r rs n after = after 0 (omega arith) (omega arith)

after_rest : (r : DomainRecord) (rs : List DomainRecord) (n : List ℕ) → AfterAre (r ∷ rs) n zero → AfterAre rs n zero
unfolding AfterAre
after_rest r rs n after k le l = after (suc k) (omega arith) (omega arith)

none_before : (rs : List DomainRecord) (n : List ℕ) → BeforeAre rs n zero
unfolding BeforeAre
none_before rs n k l = absurd (omega arith)

-- the record at a place after earlier names is the one that is found
at_found : (records : List DomainRecord) (n : List ℕ) (place : ℕ) → place < length records → BeforeAre records n place →
    names_cmp (get_or records place no_record).name n ≡ Equal → record_of records n ≡ slice_get records place
at_found [] n place l before here = absurd (omega arith)
at_found (r ∷ rs) n zero l before here = rw (eq_by_cmp r.name n Equal here) refl
at_found (r ∷ rs) n (suc place) l before here =
    rw (eq_by_cmp r.name n Less (before_first r rs n place before)) (at_found rs n place (omega arith) (before_tail r rs n place before) here)

-- and a new one is written there
at_put : (records : List DomainRecord) (n : List ℕ) (place : ℕ) → place < length records → BeforeAre records n place →
    names_cmp (get_or records place no_record).name n ≡ Equal → (new : DomainRecord) → new.name ≡ n → put_record new records ≡ set records place new
at_put [] n place l before here new e = absurd (omega arith)
at_put (r ∷ rs) n zero l before here new e =
    let c : names_cmp new.name r.name ≡ Equal =
    ap (λ (x : List ℕ). names_cmp new.name x) (names_equal r.name n here ∙ sym e) ∙ names_same new.name in
    rw c refl
at_put (r ∷ rs) n (suc place) l before here new e =
    let c : names_cmp new.name r.name ≡ Greater =
    ap (λ (x : List ℕ). names_cmp x r.name) e ∙ less_flip r.name n (before_first r rs n place before) in
    rw c (ap (λ (xs : List DomainRecord). r ∷ xs) (at_put rs n place (omega arith) (before_tail r rs n place before) here new e))

-- between earlier and later names none is found
gap_absent : (records : List DomainRecord) (n : List ℕ) (place : ℕ) → place ≤ length records → BeforeAre records n place → AfterAre records n place →
    record_of records n ≡ None
gap_absent [] n place l before after = refl
gap_absent (r ∷ rs) n zero l before after =
    rw (eq_by_cmp r.name n Greater (after_first r rs n after)) (gap_absent rs n zero (omega arith) (none_before rs n) (after_rest r rs n after))
gap_absent (r ∷ rs) n (suc place) l before after =
    rw (eq_by_cmp r.name n Less (before_first r rs n place before))
    (gap_absent rs n place (omega arith) (before_tail r rs n place before) (after_tail r rs n place after))

-- and a new one goes in there
gap_put : (records : List DomainRecord) (n : List ℕ) (place : ℕ) → place ≤ length records → BeforeAre records n place → AfterAre records n place →
    (new : DomainRecord) → new.name ≡ n → put_record new records ≡ insert records place new
gap_put [] n zero l before after new e = refl
gap_put [] n (suc place) l before after new e = absurd (omega arith)
gap_put (r ∷ rs) n zero l before after new e =
    let c : names_cmp new.name r.name ≡ Less =
    ap (λ (x : List ℕ). names_cmp x r.name) e ∙ greater_flip r.name n (after_first r rs n after) in
    rw c refl
gap_put (r ∷ rs) n (suc place) l before after new e =
    let c : names_cmp new.name r.name ≡ Greater =
    ap (λ (x : List ℕ). names_cmp x r.name) e ∙ less_flip r.name n (before_first r rs n place before) in
    rw c (ap (λ (xs : List DomainRecord). r ∷ xs) (gap_put rs n place (omega arith) (before_tail r rs n place before) (after_tail r rs n place after) new e))

-- a binary search by name ends at the record, or at the gap for it
pub searched : (records : List DomainRecord) → Rise records → (n : List ℕ) (r : Result ℕ ℕ) → IsSearchInRange r (length records) →
    IsBinarySearchResult (λ one. names_cmp one.name n) records r → record { found : IfOk r (IsAt records n); absent : IfErr r (IsGap records n) }
unfolding BeforeAre AfterAre
searched records rise n (Ok place) in_range equal =
    let here : names_cmp (get_or records place no_record).name n ≡ Equal = equal no_record in
    let before : BeforeAre records n place = λ k l.
    subst (λ (x : List ℕ). names_cmp (get_or records k no_record).name x ≡ Less) (names_equal (get_or records place no_record).name n here)
    (rise_at records rise k place no_record l in_range) in
    record {
      found = record {
        in_range = in_range;
        found = at_found records n place in_range before here;
        put = at_put records n place in_range before here;
      };
      absent = tt;
    }
searched records rise n (Err place) in_range parted =
    let both = parted (comparisons_rise records rise n) in
    let before : BeforeAre records n place = λ k l. both.0 k no_record (omega arith) l in
    let after : AfterAre records n place = λ k le l. both.1 k no_record le l in
    record {
      found = tt;
      absent = record {
        in_range = in_range;
        absent = gap_absent records n place in_range before after;
        put = gap_put records n place in_range before after;
      };
    }
