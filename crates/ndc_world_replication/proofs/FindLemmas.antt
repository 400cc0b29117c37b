-- Items that are found by their place.
use Rattle.std.proofs.Common.{◌≡◌, ℕ, Bool, true, false, ◌||◌, List, [], ◌∷◌, Some, None, find, get_or, position, refl, sym, subst, if◌then◌else◌}
use Rattle.std.specs.Prelude.{is_some}
use Rattle.std.specs.List.{list_any}
use Rattle.std.proofs.lemmas.List.Quantifiers.{position-Some}
use Rattle.ndc_world_replication.proofs.PlaceLemmas.{found_at, none_found}

pub found : {X : Type 0} (test : X → Bool) (xs : List X) (place : ℕ) (x : X) → Some place ≡ position test xs → x ≡ get_or xs place x → Some x ≡ find test xs
found {X} test xs place x at is =
    let it = position-Some test xs place x (sym at) in
    sym (found_at test xs place x it.0 is (subst (λ (y : X). test y ≡ true) (sym is) it.1) it.2)

pub nowhere : {X : Type 0} (test : X → Bool) (xs : List X) → None ≡ position test xs → None ≡ find test xs
nowhere test xs none = sym (none_found test xs (sym none))

pub any_found : {X : Type 0} (test : X → Bool) (xs : List X) → list_any test xs ≡ is_some (find test xs)
any_found test [] = refl
any_found {X} test (x ∷ xs) = by (test x) (any_found test xs)
  where
    by : (t : Bool) → list_any test xs ≡ is_some (find test xs) → (t || list_any test xs) ≡ is_some (if t then Some x else find test xs)
    by true rest = refl
    by false rest = rest
