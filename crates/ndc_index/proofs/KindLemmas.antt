-- Counts in order of name, by the place of a name.
use Rattle.std.proofs.Common.{◌≡◌, ℕ, zero, suc, ◌+◌, ◌<◌, List, [], ◌∷◌, ◌++◌, map, take, drop, length, get_or, set, arith, below_more, refl, sym, ap, subst, ◌∙◌}
use Rattle.std.specs.Prelude.{insert}
use Rattle.std.specs.declared.cmp.Ordering.{Ordering}
use Rattle.std.specs.declared.cmp.Ordering.TheVariants.{Less, Equal, Greater}
use Rattle.std.proofs.lemmas.List.{get_or-map, length-map, map-set, map-append, take-map, drop-map}
use Rattle.ndc_domain.specs.Records.{names_cmp}
use Rattle.ndc_event.specs.declared.name.Name.{Name}
use Rattle.ndc_index.specs.Kinds.{IsCounted, IsUncounted}
use Rattle.ndc_index.specs.Texts.{with_one_more}

-- an entry that no list has
none : Name × ℕ
none = ([], 0)

-- the names before a place come before this one
abbrev pub AreBefore : Name → List (Name × ℕ) → ℕ → Type 0
AreBefore name counts place = (k : ℕ) → k < place → names_cmp name (get_or counts k ([], 0)).0 ≡ Greater

-- after names that come before it, and before one that comes later, a new name comes in
insert-at : (name : Name) (counts : List (Name × ℕ)) (place : ℕ) → AreBefore name counts place → place < length counts → names_cmp name (get_or counts place ([], 0)).0 ≡ Less
    → with_one_more counts name ≡ insert counts place (name, 1)
insert-at name [] place before below is = absurd (omega (arith, below))
insert-at name (entry ∷ counts) zero before below is = rw is refl
insert-at name (entry ∷ counts) (suc place) before below is =
    let first : names_cmp name entry.0 ≡ Greater = before 0 (omega arith) in
    let rest = insert-at name counts place (λ k lt. before (suc k) (omega (arith, lt))) (omega (arith, below)) is in
    rw (first, rest) refl

-- after all names that come before it, it comes last
insert-last : (name : Name) (counts : List (Name × ℕ)) → AreBefore name counts (length counts) → with_one_more counts name ≡ insert counts (length counts) (name, 1)
insert-last name [] before = refl
insert-last name (entry ∷ counts) before =
    let first : names_cmp name entry.0 ≡ Greater = before 0 (omega arith) in
    let rest = insert-last name counts (λ k lt. before (suc k) (omega (arith, lt))) in
    rw (first, rest) refl

-- where the name stands, its count becomes one more
set-at : (name : Name) (counts : List (Name × ℕ)) (place : ℕ) (entry : Name × ℕ) → AreBefore name counts place → place < length counts → names_cmp name (get_or counts place ([], 0)).0 ≡ Equal
    → entry ≡ get_or counts place entry → with_one_more counts name ≡ set counts place (entry.0, entry.1 + 1)
set-at name [] place entry before below is at = absurd (omega (arith, below))
set-at name (first ∷ counts) zero entry before below is at = rw (is, at) refl
set-at name (one ∷ counts) (suc place) entry before below is at =
    let first : names_cmp name one.0 ≡ Greater = before 0 (omega arith) in
    let rest = set-at name counts place entry (λ k lt. before (suc k) (omega (arith, lt))) (omega (arith, below)) is at in
    rw (first, rest) refl

-- the same, of items that are seen as counts
module _ {X : Type 0} (view : X → Name × ℕ) (name : Name) (items : List X) (place : ℕ) (before : AreBefore name (map view items) place) where
  -- what stands at a place
  there : (d : X) → place < length items → get_or (map view items) place ([], 0) ≡ view (get_or items place d)
  there d below = get_or-map view items place d ([], 0) below

  in-range : place < length items → place < length (map view items)
  in-range below = subst (λ n. place < n) (sym (length-map items view)) below

  -- how the name compares with what is seen there
  seen-there : (d : X) (o : Ordering) → place < length items → names_cmp name (view (get_or items place d)).0 ≡ o → names_cmp name (get_or (map view items) place ([], 0)).0 ≡ o
  seen-there d o below is = ap (λ (e : Name × ℕ). names_cmp name e.0) (there d below) ∙ is

  pub uncounted_at : (d : X) → place < length items → names_cmp name (view (get_or items place d)).0 ≡ Less → IsUncounted (map view items) name place
  uncounted_at d below less = record {
    in_range = let inside = in-range below in omega (arith, inside);
    more = insert-at name (map view items) place before (in-range below) (seen-there d Less below less);
  }

  pub counted_at : (d : X) → place < length items → names_cmp name (view (get_or items place d)).0 ≡ Equal → IsCounted (map view items) name place
  counted_at d below equal = record {
    in_range = in-range below;
    more = λ entry at. set-at name (map view items) place entry before (in-range below) (seen-there d Equal below equal) at;
  }

  pub before_more : (d : X) → place < length items → names_cmp name (view (get_or items place d)).0 ≡ Greater → AreBefore name (map view items) (place + 1)
  before_more d below greater = below_more (λ k. names_cmp name (get_or (map view items) k ([], 0)).0 ≡ Greater) place before (seen-there d Greater below greater)

  pub uncounted_last : (n : ℕ) → place ≡ n → n ≡ length items → IsUncounted (map view items) name n
  uncounted_last n here end =
      let all : n ≡ length (map view items) = end ∙ sym (length-map items view) in
      record {
        in_range = omega (arith, all);
        more = subst (λ m. with_one_more (map view items) name ≡ insert (map view items) m (name, 1)) (sym all) (insert-last name (map view items) (subst (λ m. AreBefore name (map view items) m) (here ∙ all) before));
      }

-- a count that was put where its name stands
pub counted_put : {X : Type 0} (view : X → Name × ℕ) (items seen : List X) (old : List (Name × ℕ)) (name : Name) (place : ℕ) (one new : X) → map view items ≡ old → seen ≡ items
    → IsCounted (map view seen) name place → one ≡ get_or items place one → (view new).0 ≡ (view one).0 → (view new).1 ≡ (view one).1 + 1 → map view (set items place new) ≡ with_one_more old name
counted_put view items seen old name place one new shown same counted at named more =
    let is : view new ≡ ((view one).0, (view one).1 + 1) = λ i. (named i, more i) in
    let here : IsCounted (map view items) name place = subst (λ xs. IsCounted (map view xs) name place) same counted in
    let below : place < length items = subst (λ n. place < n) (length-map items view) here.in_range in
    let there : view one ≡ get_or (map view items) place (view one) = ap view at ∙ sym (get_or-map view items place one (view one) below) in
    map-set view items place new ∙ ap (λ e. set (map view items) place e) is ∙ sym (here.more (view one) there) ∙ ap (λ counts. with_one_more counts name) shown

-- an item that comes in, as it is seen
map-insert : {X Y : Type 0} (view : X → Y) (items : List X) (place : ℕ) (new : X) → map view (insert items place new) ≡ insert (map view items) place (view new)
map-insert view items place new =
    map-append view (take place items) (new ∷ drop place items)
    ∙ ap (λ front. front ++ view new ∷ map view (drop place items)) (sym (take-map view place items))
    ∙ ap (λ rest. take place (map view items) ++ view new ∷ rest) (sym (drop-map view place items))

-- a count that came in where its name was to go
pub uncounted_put : {X : Type 0} (view : X → Name × ℕ) (items seen after : List X) (old : List (Name × ℕ)) (name : Name) (place : ℕ) (new : X) → map view items ≡ old → seen ≡ items
    → IsUncounted (map view seen) name place → view new ≡ (name, 1) → after ≡ insert items place new → map view after ≡ with_one_more old name
uncounted_put view items seen after old name place new shown same uncounted is comes =
    let here : IsUncounted (map view items) name place = subst (λ xs. IsUncounted (map view xs) name place) same uncounted in
    ap (map view) comes ∙ map-insert view items place new ∙ ap (λ e. insert (map view items) place e) is ∙ sym here.more ∙ ap (λ counts. with_one_more counts name) shown
