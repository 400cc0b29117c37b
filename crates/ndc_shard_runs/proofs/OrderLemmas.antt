-- Lists in order in which one item takes the place of another.
use Rattle.std.proofs.Common.{◌≡◌, ℕ, zero, suc, List, [], ◌∷◌, set, slice_get, Some, subst}
use Rattle.std.specs.List.{AllByRecursion}
use Rattle.ndc_event.specs.Sorted.{InOrder}
use Rattle.ndc_event.proofs.SortedLemmas.{all_follow}

module _ {X : Type 0} where
  -- what holds of each and of one holds of each with that one in the place of another
  all-set : (P : X → Type 0) (xs : List X) (place : ℕ) (new : X) → AllByRecursion P xs → P new → AllByRecursion P (set xs place new)
  all-set P [] place new all p = all
  all-set P (x ∷ xs) zero new all p = (p, all.1)
  all-set P (x ∷ xs) (suc place) new all p = (all.0, all-set P xs place new all.1 p)

  all-read : (P : X → Type 0) (xs : List X) (place : ℕ) (old : X) → slice_get xs place ≡ Some old → AllByRecursion P xs → P old
  all-read P [] place old at all = absurd (cc)
  all-read P (x ∷ xs) zero old at all = let is : x ≡ old = cc in subst P is all.0
  all-read P (x ∷ xs) (suc place) old at all = all-read P xs place old at all.1

  -- a list in order stays so where one item takes the place of another that comes before and after the same
  pub order-set : (before : X → X → Type 0) (xs : List X) (place : ℕ) (old new : X) → slice_get xs place ≡ Some old → ((y : X) → before old y → before new y) → ((y : X) → before y old → before y new)
      → InOrder before xs → InOrder before (set xs place new)
  order-set before [] place old new at behind front order = order
  order-set before (x ∷ xs) zero old new at behind front order =
      let is : x ≡ old = cc in
      (all_follow (before x) (before new) xs (λ y b. behind y (subst (λ z. before z y) is b)) order.0, order.1)
  order-set before (x ∷ xs) (suc place) old new at behind front order =
      (all-set (before x) xs place new order.0 (front x (all-read (before x) xs place old at order.0)), order-set before xs place old new at behind front order.1)
