-- Lists in order: what a binary search finds in them, and how they stay in order.
use Rattle.std.proofs.Common.{◌≡◌, ℕ, zero, suc, ◌-◌, ◌<◌, ◌≤◌, List, [], ◌∷◌, length, take, get_or, Result, Ok, Err, IfOk, IfErr, inl, inr, refl, sym, ◌∙◌, ap, arith}
use Rattle.std.specs.Prelude.{insert}
use Rattle.std.specs.declared.cmp.Ordering.{Ordering}
use Rattle.std.specs.declared.cmp.Ordering.TheVariants.{Less, Equal, Greater}
use Rattle.std.specs.Ordering.{ordering_index}
use Rattle.std.specs.List.{AllByRecursion, remove}
use Rattle.std.specs.List.Sorted.{IsSearchInRange, IsBinarySearchResult, IsNonDecreasingBy}
use Rattle.std.specs.Cmp.{IsTotalOrder, alike_right}
use Rattle.std.proofs.lemmas.Bool.{cases_eq}
use Rattle.ndc_event.specs.Sorted.{InOrder, Hits, Parts}

module _ {X : Type 0} where
  -- what holds of each holds at each place
  pub all_at : (P : X → Type 0) (xs : List X) (i : ℕ) (d : X) → AllByRecursion P xs → i < length xs → P (get_or xs i d)
  all_at P [] i d all l = absurd (omega (arith, l))
  all_at P (x ∷ xs) zero d all l = all.0
  all_at P (x ∷ xs) (suc i) d all l = all_at P xs i d all.1 (omega (arith, l))

  -- what follows from what holds of each holds of each
  pub all_follow : (P Q : X → Type 0) (xs : List X) → ((x : X) → P x → Q x) → AllByRecursion P xs → AllByRecursion Q xs
  all_follow P Q [] f all = tt
  all_follow P Q (x ∷ xs) f all = (f x all.0, all_follow P Q xs f all.1)

  order_at : (before : X → X → Type 0) (xs : List X) → InOrder before xs → (i j : ℕ) (d : X) → i < j → j < length xs → before (get_or xs i d) (get_or xs j d)
  order_at before [] order i j d l m = absurd (omega (arith, m))
  order_at before (x ∷ xs) order i zero d l m = absurd (omega (arith, l))
  order_at before (x ∷ xs) order zero (suc j) d l m = all_at (before x) xs j d order.0 (omega (arith, m))
  order_at before (x ∷ xs) order (suc i) (suc j) d l m = order_at before xs order.1 i j d (omega (arith, l)) (omega (arith, m))

  module _ (before : X → X → Type 0) (c : X → Ordering) (rises : (x y : X) → before x y → ordering_index (c x) ≤ ordering_index (c y))
      (less : (x y : X) → before x y → c y ≡ Equal → c x ≡ Less) where
    never_falls : (xs : List X) → InOrder before xs → IsNonDecreasingBy (λ x. ordering_index (c x)) xs
    never_falls xs order i j d le l =
        elim (cases_eq i j) as (λ _. ordering_index (c (get_or xs i d)) ≤ ordering_index (c (get_or xs j d))) [
          | inl e ↦ rw e (omega arith)
          | inr ne ↦ rises (get_or xs i d) (get_or xs j d) (order_at before xs order i j d (omega (arith, le, ne)) l)
        ]

    least : (o : Ordering) → ordering_index o ≤ 0 → o ≡ Less
    least Less h = refl
    least Equal h = absurd (omega (arith, h))
    least Greater h = absurd (omega (arith, h))

    -- an item that is the one that is sought is where it hits
    pub hits : (xs : List X) (place : ℕ) → InOrder before xs → place < length xs → ((d : X) → c (get_or xs place d) ≡ Equal) → Hits c xs place
    hits [] place order l here = absurd (omega (arith, l))
    hits (x ∷ xs) zero order l here = here x
    hits (x ∷ xs) (suc place) order l here =
        (less x (get_or xs place x) (all_at (before x) xs place x order.0 (omega (arith, l))) (here x), hits xs place order.1 (omega (arith, l)) here)

    greater : (xs : List X) → ((k : ℕ) (d : X) → k < length xs → c (get_or xs k d) ≡ Greater) → AllByRecursion (λ x. c x ≡ Greater) xs
    greater [] behind = tt
    greater (x ∷ xs) behind = (behind 0 x (omega arith), greater xs (λ k d l. behind (suc k) d (omega (arith, l))))

    parts : (xs : List X) (place : ℕ) → place ≤ length xs → ((k : ℕ) (d : X) → k < place → c (get_or xs k d) ≡ Less)
        → ((k : ℕ) (d : X) → place ≤ k → k < length xs → c (get_or xs k d) ≡ Greater) → Parts c xs place
    parts xs zero l front behind = greater xs (λ k d m. behind k d (omega arith) m)
    parts [] (suc place) l front behind = absurd (omega (arith, l))
    parts (x ∷ xs) (suc place) l front behind =
        (front 0 x (omega arith), parts xs place (omega (arith, l)) (λ k d m. front (suc k) d (omega (arith, m))) (λ k d le m. behind (suc k) d (omega (arith, le)) (omega (arith, m))))

    -- where even the last item comes before what is sought, all do
    pub part-end : (xs : List X) → InOrder before xs → ((d : X) → c (get_or xs (length xs - 1) d) ≡ Less) → Parts c xs (length xs)
    part-end xs order last =
        parts xs (length xs) (omega arith)
        (λ k d l. least (c (get_or xs k d)) (omega (arith, never_falls xs order k (length xs - 1) d (omega (arith, l)) (omega (arith, l)), ap ordering_index (last d))))
        (λ k d le l. absurd (omega (arith, le, l)))

    -- a binary search ends where it hits, or where it parts
    pub searched : (xs : List X) → InOrder before xs → (r : Result ℕ ℕ) → IsSearchInRange r (length xs) → IsBinarySearchResult c xs r → record { found : IfOk r (Hits c xs); absent : IfErr r (Parts c xs) }
    searched xs order (Ok place) in_range equal = record { found = hits xs place order in_range equal; absent = tt }
    searched xs order (Err place) in_range parted =
        let both = parted (never_falls xs order) in
        record { found = tt; absent = parts xs place in_range (λ k d l. both.0 k d (omega arith) l) both.1 }

  -- where it hits and where it parts is within the list
  pub hit-within : (c : X → Ordering) (xs : List X) (place : ℕ) → Hits c xs place → place < length xs
  hit-within c [] place h = absurd h
  hit-within c (x ∷ xs) zero h = omega arith
  hit-within c (x ∷ xs) (suc place) h = let l = hit-within c xs place h.1 in omega (arith, l)

  pub part-within : (c : X → Ordering) (xs : List X) (place : ℕ) → Parts c xs place → place ≤ length xs
  part-within c xs zero h = omega arith
  part-within c [] (suc place) h = absurd h
  part-within c (x ∷ xs) (suc place) h = let l = part-within c xs place h.1 in omega (arith, l)

  -- what holds of each and of a new one holds of each with the new one
  pub all-insert : (P : X → Type 0) (xs : List X) (place : ℕ) (new : X) → AllByRecursion P xs → P new → AllByRecursion P (insert xs place new)
  all-insert P xs zero new all p = (p, all)
  all-insert P [] (suc place) new all p = (p, tt)
  all-insert P (x ∷ xs) (suc place) new all p = (all.0, all-insert P xs place new all.1 p)

  -- what holds of each holds of each but for one
  pub all-remove : (P : X → Type 0) (xs : List X) (place : ℕ) → AllByRecursion P xs → AllByRecursion P (remove xs place)
  all-remove P [] zero all = tt
  all-remove P [] (suc place) all = tt
  all-remove P (x ∷ xs) zero all = all.1
  all-remove P (x ∷ xs) (suc place) all = (all.0, all-remove P xs place all.1)

  -- a list in order stays so where a new item goes in between
  pub order-insert : (before : X → X → Type 0) (c : X → Ordering) (new : X) → ((x : X) → c x ≡ Less → before x new) → ((x : X) → c x ≡ Greater → before new x)
      → (xs : List X) (place : ℕ) → Parts c xs place → InOrder before xs → InOrder before (insert xs place new)
  order-insert before c new front behind xs zero h order = (all_follow (λ x. c x ≡ Greater) (before new) xs behind h, order)
  order-insert before c new front behind [] (suc place) h order = absurd h
  order-insert before c new front behind (x ∷ xs) (suc place) h order =
      (all-insert (before x) xs place new order.0 (front x h.0), order-insert before c new front behind xs place h.1 order.1)

  -- and where one goes
  pub order-remove : (before : X → X → Type 0) (xs : List X) (place : ℕ) → InOrder before xs → InOrder before (remove xs place)
  order-remove before [] zero order = tt
  order-remove before [] (suc place) order = tt
  order-remove before (x ∷ xs) zero order = order.1
  order-remove before (x ∷ xs) (suc place) order = (all-remove (before x) xs place order.0, order-remove before xs place order.1)

  -- and where only its first items stay
  all-take : (P : X → Type 0) (n : ℕ) (xs : List X) → AllByRecursion P xs → AllByRecursion P (take n xs)
  all-take P zero xs all = tt
  all-take P (suc n) [] all = tt
  all-take P (suc n) (x ∷ xs) all = (all.0, all-take P n xs all.1)

  pub order-take : (before : X → X → Type 0) (n : ℕ) (xs : List X) → InOrder before xs → InOrder before (take n xs)
  order-take before zero xs order = tt
  order-take before (suc n) [] order = tt
  order-take before (suc n) (x ∷ xs) order = (all-take (before x) n xs order.0, order-take before n xs order.1)

-- in a total order a later item compares later with what is sought, and one before it compares as less
module _ {X : Type 0} {R : X → X → Ordering} (order : IsTotalOrder R) (sought : X) where
  most : (o : Ordering) → ordering_index o ≤ 2
  most Less = omega arith
  most Equal = omega arith
  most Greater = omega arith

  pub total-less : (x y : X) → R x y ≡ Less → R y sought ≡ Equal → R x sought ≡ Less
  total-less x y before same = sym (alike_right order y sought x same) ∙ before

  pub total-rises : (x y : X) → R x y ≡ Less → ordering_index (R x sought) ≤ ordering_index (R y sought)
  total-rises x y before = by (R y sought) refl
    where
      by : (o : Ordering) → R y sought ≡ o → ordering_index (R x sought) ≤ ordering_index o
      by Less e = let h : R x sought ≡ Less = order.trans x y sought before e in rw h (omega arith)
      by Equal e = let h : R x sought ≡ Less = total-less x y before e in rw h (omega arith)
      by Greater e = most (R x sought)
