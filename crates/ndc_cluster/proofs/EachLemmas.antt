-- Items of two lists, one by one; and lists of which a prefix was changed.
use Rattle.std.proofs.Common.{◌≡◌, ℕ, zero, suc, ◌+◌, ◌<◌, List, [], ◌∷◌, ◌++◌, map, take, drop, length, get_or, set, arith, refl, sym, ap, subst, ◌∙◌}
use Rattle.std.proofs.Math.ListN.{get_or-map}
use Rattle.std.proofs.lemmas.List.{length-map, map-set, take-append-drop}
use Rattle.std.proofs.lemmas.List.Edits.{map_over_more}
use Rattle.std.specs.List.{AllByRecursion}
use Rattle.ndc_cluster.specs.Each.{Each}

-- two parts of lists that relate are lists that relate
each_append : {X Y : Type 0} (relates : X → Y → Type 0) (xs xs' : List X) (ys ys' : List Y) → Each relates xs ys → Each relates xs' ys' → Each relates (xs ++ xs') (ys ++ ys')
each_append relates [] xs' [] ys' one two = two
each_append relates [] xs' (y ∷ ys) ys' one two = absurd one
each_append relates (x ∷ xs) xs' [] ys' one two = absurd one
each_append relates (x ∷ xs) xs' (y ∷ ys) ys' one two = (one.0, each_append relates xs xs' ys ys' one.1 two)

-- a list that is cut: where both parts relate, the whole does
pub each_cut : {X Y : Type 0} (relates : X → Y → Type 0) (xs front back : List X) (n : ℕ) (ys ys' : List Y) → front ≡ take n xs → back ≡ drop n xs → Each relates front ys → Each relates back ys' → Each relates xs (ys ++ ys')
each_cut relates xs front back n ys ys' is_front is_back one two =
    subst (λ zs. Each relates zs (ys ++ ys')) (take-append-drop n xs)
    (each_append relates (take n xs) (drop n xs) ys ys' (subst (λ zs. Each relates zs ys) is_front one) (subst (λ zs. Each relates zs ys') is_back two))

-- what holds of all items holds of the one at a place
pub all_there : {X : Type 0} (P : X → Type 0) (xs : List X) (i : ℕ) (d : X) → i < length xs → AllByRecursion P xs → P (get_or xs i d)
all_there P [] i d below all = absurd (omega (arith, below))
all_there P (x ∷ xs) zero d below all = all.0
all_there P (x ∷ xs) (suc i) d below all = all_there P xs i d (omega (arith, below)) all.1

-- after a prefix that was changed, the next item is as it was
next-there : {Y : Type 0} (change : Y → Y) (ys : List Y) (i : ℕ) (d : Y) → i < length ys → get_or (map change (take i ys) ++ drop i ys) i d ≡ get_or ys i d
next-there change [] i d below = absurd (omega (arith, below))
next-there change (y ∷ ys) zero d below = refl
next-there change (y ∷ ys) (suc i) d below = next-there change ys i d (omega (arith, below))

-- a loop that changes each item, as it is seen
module _ {X Y : Type 0} (view : X → Y) (change : Y → Y) (old now : List X) (i : ℕ) (kept : map view now ≡ map change (take i (map view old)) ++ drop i (map view old)) (below : i < length old) where
  -- the next item is as it was
  pub next_seen : (d : X) → view (get_or now i d) ≡ get_or (map view old) i (view d)
  next_seen d = sym (get_or-map view now i d) ∙ ap (λ ys. get_or ys i (view d)) kept ∙ next-there change (map view old) i (view d) (subst (λ n. i < n) (sym (length-map old view)) below)

  -- what held of all items in the beginning holds of the next one
  pub next_still : (P : Y → Type 0) (d : X) → AllByRecursion P (map view old) → P (view (get_or now i d))
  next_still P d all = subst P (sym (next_seen d)) (all_there P (map view old) i (view d) (subst (λ n. i < n) (sym (length-map old view)) below) all)

  -- one item more is changed
  pub changed_more : (x new : X) → x ≡ get_or now i x → view new ≡ change (view x) → map view (set now i new) ≡ map change (take (i + 1) (map view old)) ++ drop (i + 1) (map view old)
  changed_more x new is step =
      map-set view now i new ∙ ap (λ z. set (map view now) i z) step
      ∙ map_over_more change (map view old) (map view now) i (view x) (subst (λ n. i < n) (sym (length-map old view)) below) kept (ap view is ∙ sym (get_or-map view now i x))
