-- What histories have in common, from their ends.
use Rattle.std.proofs.Common.{◌≡◌, ℕ, zero, suc, ◌+◌, ◌-◌, ◌<◌, ◌≤◌, true, false, ◌&&◌, ◌==◌, nat_lt, min, List, [], ◌∷◌, ◌++◌, length, take, get_or, Option, None, Some, if◌then◌else◌, refl, ap, sym, ◌∙◌, subst, arith}
use Rattle.std.proofs.lemmas.Bool.{and_parts, lt-ltb, ltb-true, eq-eqb, ne_eqb}
use Rattle.std.proofs.lemmas.List.{append-nil, take_more}
use Rattle.ndc_history.specs.declared.item.Item.{Item}
use Rattle.ndc_history.specs.Common.{id_of, with_smaller, shared, greater, greatest, common_of}
use Rattle.ndc_history.specs.History.{rise_from, rises}

-- the versions of the items are below this one
abbrev pub IsBelow : ℕ → List Item → Type 0
IsBelow version [] = Unit {0}
IsBelow version (item ∷ items) = (item.version < version) × IsBelow version items

IsBelow-weaken : (low high : ℕ) (items : List Item) → low ≤ high → IsBelow low items → IsBelow high items
IsBelow-weaken low high [] le h = tt
IsBelow-weaken low high (x ∷ xs) le h = (omega (arith, h.0), IsBelow-weaken low high xs le h.1)

IsBelow-push : (version : ℕ) (items : List Item) (x : Item) → IsBelow version items → x.version < version → IsBelow version (items ++ x ∷ [])
IsBelow-push version [] x h lt = (lt, tt)
IsBelow-push version (y ∷ ys) x h lt = (h.0, IsBelow-push version ys x h.1 lt)

-- later items have greater versions
rise-at : (y : Item) (ys : List Item) (j : ℕ) (x d : Item) → rise_from y ys ≡ true → j < length ys → x ≡ get_or ys j d → y.version < x.version
rise-at y [] j x d h lt at = absurd (omega arith)
rise-at y (z ∷ zs) zero x d h lt at =
    let p = and_parts (nat_lt y.id z.id && nat_lt y.version z.version) (rise_from z zs) h in
    subst (λ (w : Item). y.version < w.version) (sym at) (ltb-true y.version z.version (and_parts (nat_lt y.id z.id) (nat_lt y.version z.version) p.0).1)
rise-at y (z ∷ zs) (suc j) x d h lt at =
    let p = and_parts (nat_lt y.id z.id && nat_lt y.version z.version) (rise_from z zs) h in
    let first : y.version < z.version = ltb-true y.version z.version (and_parts (nat_lt y.id z.id) (nat_lt y.version z.version) p.0).1 in
    let rest : z.version < x.version = rise-at z zs j x d p.1 (omega arith) at in omega arith

rises-tail : (y : Item) (ys : List Item) → rise_from y ys ≡ true → rises ys ≡ true
rises-tail y [] h = refl
rises-tail y (z ∷ zs) h = (and_parts (nat_lt y.id z.id && nat_lt y.version z.version) (rise_from z zs) h).1

-- the items before one have smaller versions
below-take : (items : List Item) (j : ℕ) (x d : Item) → rises items ≡ true → j < length items → x ≡ get_or items j d → IsBelow x.version (take j items)
below-take [] j x d h lt at = absurd (omega arith)
below-take (y ∷ ys) zero x d h lt at = tt
below-take (y ∷ ys) (suc j) x d h lt at = (rise-at y ys j x d h (omega arith) at, below-take ys j x d (rises-tail y ys h) (omega arith) at)

-- a version above all has no id
id_of-below : (version : ℕ) (items : List Item) → IsBelow version items → id_of version items ≡ None
id_of-below version [] h = refl
id_of-below version (x ∷ xs) h =
    let other : (x.version == version) ≡ false = ne_eqb x.version version (λ e. omega (arith, h.0, e)) in rw other (id_of-below version xs h.1)

id_of-here : (version : ℕ) (items : List Item) (y : Item) → IsBelow version items → y.version ≡ version → id_of version (items ++ y ∷ []) ≡ Some y.id
id_of-here version [] y h e = let same : (y.version == version) ≡ true = eq-eqb y.version version e in rw same refl
id_of-here version (x ∷ xs) y h e =
    let other : (x.version == version) ≡ false = ne_eqb x.version version (λ e. omega (arith, h.0, e)) in rw other (id_of-here version xs y h.1 e)

id_of-other : (version : ℕ) (items : List Item) (y : Item) → version < y.version → id_of version (items ++ y ∷ []) ≡ id_of version items
id_of-other version [] y lt = let other : (y.version == version) ≡ false = ne_eqb y.version version (λ e. omega arith) in rw other refl
id_of-other version (x ∷ xs) y lt = ap (λ o. if x.version == version then Some x.id else o) (id_of-other version xs y lt)

with_smaller-append : (x : Item) (o : Option ℕ) (xs ys : List Item) → with_smaller x o (xs ++ ys) ≡ with_smaller x o xs ++ ys
with_smaller-append x None xs ys = refl
with_smaller-append x (Some id) xs ys = refl

shared-push : (xs : List Item) (x : Item) (two : List Item) → shared (xs ++ x ∷ []) two ≡ shared xs two ++ with_smaller x (id_of x.version two) []
shared-push [] x two = refl
shared-push (y ∷ ys) x two =
    ap (with_smaller y (id_of y.version two)) (shared-push ys x two) ∙ with_smaller-append y (id_of y.version two) (shared ys two) (with_smaller x (id_of x.version two) [])

shared-two : (xs ys : List Item) (y : Item) → IsBelow y.version xs → shared xs (ys ++ y ∷ []) ≡ shared xs ys
shared-two [] ys y h = refl
shared-two (x ∷ xs) ys y h =
    ap (λ o. with_smaller x o (shared xs (ys ++ y ∷ []))) (id_of-other x.version ys y h.0) ∙ ap (with_smaller x (id_of x.version ys)) (shared-two xs ys y h.1)

shared-none : (xs : List Item) → shared xs [] ≡ []
shared-none [] = refl
shared-none (x ∷ xs) = shared-none xs

shared-below : (version : ℕ) (xs two : List Item) → IsBelow version xs → IsBelow version (shared xs two)
shared-below version [] two h = tt
shared-below version (x ∷ xs) two h = by (id_of x.version two) (shared-below version xs two h.1)
  where
    by : (o : Option ℕ) → IsBelow version (shared xs two) → IsBelow version (with_smaller x o (shared xs two))
    by None k = k
    by (Some id) k = (h.0, k)

greatest-push : (xs : List Item) (z : Item) → IsBelow z.version xs → greatest (xs ++ z ∷ []) ≡ Some z
greatest-push [] z h = refl
greatest-push (x ∷ xs) z h =
    ap (greater x) (greatest-push xs z h.1) ∙ ap (λ b. if b then Some z else Some x) (lt-ltb x.version z.version h.0)

module _ (one two : List Item) (i j : ℕ) (x y d : Item) (rise_one : rises one ≡ true) (rise_two : rises two ≡ true)
    (some_one : 0 < i) (some_two : 0 < j) (within_one : i ≤ length one) (within_two : j ≤ length two)
    (at_one : x ≡ get_or one (i - 1) d) (at_two : y ≡ get_or two (j - 1) d) where
  take_one : take i one ≡ take (i - 1) one ++ x ∷ []
  take_one =
      let back : i - 1 + 1 ≡ i = omega arith in
      subst (λ (n : ℕ). take n one ≡ take (i - 1) one ++ x ∷ []) back (take_more one (i - 1) d (omega arith) ∙ ap (λ (w : Item). take (i - 1) one ++ w ∷ []) (sym at_one))

  take_two : take j two ≡ take (j - 1) two ++ y ∷ []
  take_two =
      let back : j - 1 + 1 ≡ j = omega arith in
      subst (λ (n : ℕ). take n two ≡ take (j - 1) two ++ y ∷ []) back (take_more two (j - 1) d (omega arith) ∙ ap (λ (w : Item). take (j - 1) two ++ w ∷ []) (sym at_two))

  below_one : IsBelow x.version (take (i - 1) one)
  below_one = below-take one (i - 1) x d rise_one (omega arith) at_one

  below_two : IsBelow y.version (take (j - 1) two)
  below_two = below-take two (j - 1) y d rise_two (omega arith) at_two

  -- a version of the second that is above all of the first is not shared
  pub common-less : x.version < y.version → common_of (take i one) (take (j - 1) two) ≡ common_of (take i one) (take j two)
  common-less lt =
      let below : IsBelow y.version (take i one) =
      subst (IsBelow y.version) (sym take_one) (IsBelow-push y.version (take (i - 1) one) x (IsBelow-weaken x.version y.version (take (i - 1) one) (omega arith) below_one) lt) in
      sym (ap (common_of (take i one)) take_two ∙ ap greatest (shared-two (take i one) (take (j - 1) two) y below))

  -- a version of the first that is above all of the second is not shared
  pub common-more : y.version < x.version → common_of (take (i - 1) one) (take j two) ≡ common_of (take i one) (take j two)
  common-more lt =
      let below : IsBelow x.version (take j two) =
      subst (IsBelow x.version) (sym take_two) (IsBelow-push x.version (take (j - 1) two) y (IsBelow-weaken y.version x.version (take (j - 1) two) (omega arith) below_two) lt) in
      sym (ap (λ (l : List Item). common_of l (take j two)) take_one
      ∙ ap greatest (shared-push (take (i - 1) one) x (take j two) ∙ ap (λ (o : Option ℕ). shared (take (i - 1) one) (take j two) ++ with_smaller x o []) (id_of-below x.version (take j two) below)
      ∙ append-nil (shared (take (i - 1) one) (take j two))))

  -- the greatest versions are one
  pub common-here : x.version ≡ y.version → common_of (take i one) (take j two) ≡ Some (record { id = min x.id y.id; version = x.version })
  common-here e =
      let id_is : id_of x.version (take j two) ≡ Some y.id =
      ap (id_of x.version) take_two ∙ id_of-here x.version (take (j - 1) two) y (IsBelow-weaken y.version x.version (take (j - 1) two) (omega arith) below_two) (sym e) in
      ap (λ (l : List Item). common_of l (take j two)) take_one
      ∙ ap greatest (shared-push (take (i - 1) one) x (take j two) ∙ ap (λ (o : Option ℕ). shared (take (i - 1) one) (take j two) ++ with_smaller x o []) id_is)
      ∙ greatest-push (shared (take (i - 1) one) (take j two)) (record { id = min x.id y.id; version = x.version }) (shared-below x.version (take (i - 1) one) (take j two) below_one)

-- nothing is shared with a history of no version
pub common-none_two : (one : List Item) → common_of one [] ≡ None
common-none_two one = ap greatest (shared-none one)
