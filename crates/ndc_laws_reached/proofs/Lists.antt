-- Lists of which one item is replaced, and what holds of each link.
use Rattle.std.proofs.Common.{◌≡◌, ℕ, zero, suc, List, [], ◌∷◌, length, slice_set, refl, ap}
use Rattle.std.specs.List.{AllByRecursion}
use Rattle.ndc_model.specs.World.{Link}

pub length-set : {X : Type 0} (xs : List X) (i : ℕ) (x : X) → length (slice_set xs i x) ≡ length xs
length-set [] i x = refl
length-set (y ∷ ys) zero x = refl
length-set (y ∷ ys) (suc i) x = ap suc (length-set ys i x)

pub each-link : {P Q : Link → Type 0} → ((link : Link) → P link → Q link) → (links : List Link) → AllByRecursion P links → AllByRecursion Q links
each-link change [] all = tt
each-link change (link ∷ links) all = (change link all.0, each-link change links all.1)
