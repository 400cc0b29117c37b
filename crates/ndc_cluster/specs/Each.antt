-- Items of two lists, one by one.
use Rattle.std.specs.Prelude.{List, [], ◌∷◌}

-- a relation holds of each item of one list and the item of the other at its place
abbrev pub Each : {X Y : Type 0} → (X → Y → Type 0) → List X → List Y → Type 0
Each relates [] [] = Unit {0}
Each relates [] (y ∷ ys) = ⊥
Each relates (x ∷ xs) [] = ⊥
Each relates (x ∷ xs) (y ∷ ys) = relates x y × Each relates xs ys
