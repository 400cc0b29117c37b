-- Seats that are told one after the other, and the lines that they show.
use Rattle.std.proofs.Common.{◌≡◌, ℕ, zero, suc, ◌+◌, ◌<◌, arith, below_more, true, false, List, [], ◌∷◌, ◌++◌, Option, Some, None, refl, map, take, drop, length, get_or, set, ap, sym, subst, ◌∙◌}
use Rattle.std.proofs.Math.ListN.{get_or-map as get_or-mapped}
use Rattle.std.proofs.lemmas.List.{get_or-map}
use Rattle.std.proofs.lemmas.List.{map-set}
use Rattle.std.proofs.lemmas.List.Edits.{map_over_more}
use Rattle.std.proofs.lemmas.List.{length-map, append_assoc}
use Rattle.std.specs.List.{remove}
use Rattle.std.specs.Option.{option_map}
use Rattle.std.specs.Str.{bytes_eq}
use Rattle.ndc_event.specs.declared.name.Name.{Name}
use Rattle.ndc_index.specs.Seats.{IndexerValue, SeatValue, Seated, new_seat, seat_before, seated, seated_of, taken_of, taken_out}

-- one item more of a list is changed, as it is seen
pub changed_more : {X Y : Type 0} (view : X → Y) (change : Y → Y) (old now : List X) (i : ℕ) (x new : X) → i < length old
    → map view now ≡ map change (take i (map view old)) ++ drop i (map view old) → x ≡ get_or now i x → view new ≡ change (view x)
    → map view (set now i new) ≡ map change (take (i + 1) (map view old)) ++ drop (i + 1) (map view old)
changed_more view change old now i x new below kept is step =
    map-set view now i new ∙ ap (λ z. set (map view now) i z) step
    ∙ map_over_more change (map view old) (map view now) i (view x) (subst (λ n. i < n) (sym (length-map old view)) below) kept (ap view is ∙ sym (get_or-mapped view now i x))

-- what is taken out of a list, by the place of the first that has the name
module _ {X : Type 0} (title : X → List ℕ) (view : X → IndexerValue) (name : Name) (titled : (x : X) → (view x).title ≡ title x) where
  pub taken_first : (all : List X) (i : ℕ) (d : X) → i < length all → ((k : ℕ) → k < i → bytes_eq (get_or (map title all) k []) name ≡ false) → bytes_eq (get_or (map title all) i []) name ≡ true
      → taken_out name (map view all) ≡ Some (taken_of (view (get_or all i d)) (map view (remove all i)))
  taken_first [] i d below before is = absurd (omega (arith, below))
  taken_first (x ∷ all) zero d below before is =
      let first : bytes_eq (view x).title name ≡ true = ap (λ t. bytes_eq t name) (titled x) ∙ is in rw first refl
  taken_first (x ∷ all) (suc i) d below before is =
      let first : bytes_eq (view x).title name ≡ false = ap (λ t. bytes_eq t name) (titled x) ∙ before 0 (omega arith) in
      let rest = taken_first all i d (omega (arith, below)) (λ k lt. before (suc k) (omega (arith, lt))) is in
      rw (first, rest) refl

  -- nothing is taken out where none has the name
  pub taken_never : (all : List X) → ((k : ℕ) → k < length all → bytes_eq (get_or (map title all) k []) name ≡ false) → taken_out name (map view all) ≡ None
  taken_never [] none = refl
  taken_never (x ∷ all) none =
      let first : bytes_eq (view x).title name ≡ false = ap (λ t. bytes_eq t name) (titled x) ∙ none 0 (omega arith) in
      let rest = taken_never all (λ k lt. none (suc k) (omega (arith, lt))) in
      rw (first, rest) refl

  -- the same of a list that is another one's
  pub taken_first_in : (seen all rest : List X) (i : ℕ) (x : X) → seen ≡ all → i < length seen → ((k : ℕ) → k < i → bytes_eq (get_or (map title seen) k []) name ≡ false) → bytes_eq (get_or (map title seen) i []) name ≡ true
      → x ≡ get_or all i x → rest ≡ remove all i → taken_out name (map view all) ≡ Some (taken_of (view x) (map view rest))
  taken_first_in seen all rest i x same below before here is left =
      subst (λ xs. taken_out name (map view xs) ≡ Some (taken_of (view (get_or xs i x)) (map view (remove xs i)))) same (taken_first seen i x below before here)
      ∙ ap (λ y. Some (taken_of (view y) (map view (remove all i)))) (sym is) ∙ ap (λ ys. Some (taken_of (view x) (map view ys))) (sym left)

  pub taken_never_in : (seen all : List X) → seen ≡ all → ((k : ℕ) → k < length seen → bytes_eq (get_or (map title seen) k []) name ≡ false) → taken_out name (map view all) ≡ None
  taken_never_in seen all same none = subst (λ xs. taken_out name (map view xs) ≡ None) same (taken_never seen none)

-- one more that has another name
pub none_more : {X : Type 0} (title : X → List ℕ) (name : Name) (all : List X) (i : ℕ) (x : X) → i < length all → ((k : ℕ) → k < i → bytes_eq (get_or (map title all) k []) name ≡ false)
    → x ≡ get_or all i x → bytes_eq (title x) name ≡ false → (k : ℕ) → k < i + 1 → bytes_eq (get_or (map title all) k []) name ≡ false
none_more title name all i x below before is other =
    below_more (λ k. bytes_eq (get_or (map title all) k []) name ≡ false) i before (ap (λ t. bytes_eq t name) (get_or-map title all i x [] below ∙ ap title (sym is)) ∙ other)

-- seats after others
abbrev pub seated_behind : List SeatValue → Option Seated → Option Seated
seated_behind front seated = option_map (λ (s : Seated). seated_of (front ++ s.seats) s.rest) seated

-- one seat after others, and then the rest
behind-more : (front : List SeatValue) (seat : SeatValue) (found : Option Seated) → seated_behind front (seat_before seat found) ≡ seated_behind (front ++ seat ∷ []) found
behind-more front seat None = refl
behind-more front seat (Some s) = ap (λ seats. Some (seated_of seats s.rest)) (sym (append_assoc front (seat ∷ []) s.seats))

-- one name more is seated
pub seated_more : (front : List SeatValue) (name : Name) (names : List Name) (all rest : List IndexerValue) (one : IndexerValue) → taken_out name all ≡ Some (taken_of one rest)
    → seated_behind front (seated (name ∷ names) all) ≡ seated_behind (front ++ new_seat name one ∷ []) (seated names rest)
seated_more front name names all rest one taken = rw taken (behind-more front (new_seat name one) (seated names rest))

-- a name that has no indexer
pub seated_none : (front : List SeatValue) (name : Name) (names : List Name) (all : List IndexerValue) → taken_out name all ≡ None → seated_behind front (seated (name ∷ names) all) ≡ None
seated_none front name names all none = rw none refl
