-- Lists in order, and what is looked for in them.
use Rattle.std.specs.Prelude.{◌≡◌, ℕ, zero, suc, List, [], ◌∷◌}
use Rattle.std.specs.List.{AllByRecursion}
use Rattle.std.specs.declared.cmp.Ordering.{Ordering}
use Rattle.std.specs.declared.cmp.Ordering.TheVariants.{Less, Equal, Greater}

-- each item comes before all after it
abbrev pub InOrder : {X : Type 0} → (X → X → Type 0) → List X → Type 0
InOrder before [] = Unit {0}
InOrder before (x ∷ xs) = AllByRecursion (before x) xs × InOrder before xs

-- the item at the place is the one that is sought, and those before it come before it
abbrev pub Hits : {X : Type 0} → (X → Ordering) → List X → ℕ → Type 0
Hits c [] place = ⊥
Hits c (x ∷ xs) zero = c x ≡ Equal
Hits c (x ∷ xs) (suc place) = (c x ≡ Less) × Hits c xs place

-- the items before the place come before what is sought, and those from it on come after it
abbrev pub Parts : {X : Type 0} → (X → Ordering) → List X → ℕ → Type 0
Parts c xs zero = AllByRecursion (λ x. c x ≡ Greater) xs
Parts c [] (suc place) = ⊥
Parts c (x ∷ xs) (suc place) = (c x ≡ Less) × Parts c xs place
