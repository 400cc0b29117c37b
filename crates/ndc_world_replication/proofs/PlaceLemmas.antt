-- Links at the place where they are found, and clusters by their numbers.
use Rattle.std.proofs.Common.{◌≡◌, ℕ, zero, suc, ◌+◌, ◌<◌, ◌≤◌, nat_lt, Bool, true, false, List, [], ◌∷◌, Some, None, find, position, length, get_or, set, refl, ap, sym, arith}
use Rattle.std.specs.List.{position_or_len}
use Rattle.std.proofs.lemmas.Bool.{ltb-false}
use Rattle.ndc_model.specs.World.{changed_first}

-- the first item that passes is changed at its place
pub changed_at : {X : Type 0} (test : X → Bool) (change : X → X) (xs : List X) (i : ℕ) (x : X) → i < length xs → x ≡ get_or xs i x → test x ≡ true
    → ((k : ℕ) → k < i → test (get_or xs k x) ≡ false) → changed_first test change xs ≡ set xs i (change x)
changed_at test change [] i x below at passes before = absurd (omega (arith, below))
changed_at test change (y ∷ ys) zero x below at passes before = rw (sym at, passes) refl
changed_at test change (y ∷ ys) (suc i) x below at passes before =
    rw (before zero (omega arith)) (ap (λ zs. y ∷ zs) (changed_at test change ys i x (omega (arith, below)) at passes (λ k less. before (suc k) (omega (arith, less)))))

-- and found there
pub found_at : {X : Type 0} (test : X → Bool) (xs : List X) (i : ℕ) (x : X) → i < length xs → x ≡ get_or xs i x → test x ≡ true
    → ((k : ℕ) → k < i → test (get_or xs k x) ≡ false) → find test xs ≡ Some x
found_at test [] i x below at passes before = absurd (omega (arith, below))
found_at test (y ∷ ys) zero x below at passes before = rw (sym at, passes) refl
found_at test (y ∷ ys) (suc i) x below at passes before =
    rw (before zero (omega arith)) (found_at test ys i x (omega (arith, below)) at passes (λ k less. before (suc k) (omega (arith, less))))

-- where nothing passes, nothing is changed or found
none-passes : {X : Type 0} (test : X → Bool) (change : X → X) (xs : List X) → length xs ≤ position_or_len test xs → (changed_first test change xs ≡ xs) × (find test xs ≡ None)
none-passes test change [] none = (refl, refl)
none-passes {X = X} test change (x ∷ xs) none = by (test x) refl (none-passes test change xs)
  where
    by : (b : Bool) → test x ≡ b → (length xs ≤ position_or_len test xs → (changed_first test change xs ≡ xs) × (find test xs ≡ None)) → (changed_first test change (x ∷ xs) ≡ x ∷ xs) × (find test (x ∷ xs) ≡ None)
    by true passes rest = let past : suc (length xs) ≤ 0 = rw passes at none in absurd (omega (arith, past))
    by false fails rest =
        let past : suc (length xs) ≤ 1 + position_or_len test xs = rw fails at none in
        let less : length xs ≤ position_or_len test xs = omega (arith, past) in
        (rw fails (ap (λ ys. x ∷ ys) (rest less).0), rw fails (rest less).1)

none-there : {X : Type 0} (test : X → Bool) (xs : List X) → position test xs ≡ None → length xs ≤ position_or_len test xs
none-there {X = X} test xs none = by (nat_lt (position_or_len test xs) (length xs)) refl
  where
    by : (b : Bool) → nat_lt (position_or_len test xs) (length xs) ≡ b → length xs ≤ position_or_len test xs
    by true less = let some : Some (position_or_len test xs) ≡ None = rw less at none in absurd (cc)
    by false past = omega (arith, ltb-false (position_or_len test xs) (length xs) past)

pub none_changed : {X : Type 0} (test : X → Bool) (change : X → X) (xs : List X) → position test xs ≡ None → changed_first test change xs ≡ xs
none_changed test change xs none = (none-passes test change xs (none-there test xs none)).0

pub none_found : {X : Type 0} (test : X → Bool) (xs : List X) → position test xs ≡ None → find test xs ≡ None
none_found test xs none = (none-passes test (λ x. x) xs (none-there test xs none)).1
