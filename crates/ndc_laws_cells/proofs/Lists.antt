-- Items of a list by recursion and by place.
use Rattle.std.proofs.Common.{List, [], ◌∷◌, ◌⊎◌, inl, inr, refl}
use Rattle.std.specs.List.{flat_map}
pub use Rattle.ndc_model_cells.proofs.AmongLemmas.{among-is, among-more, is-among}
use Rattle.ndc_model_sets.proofs.ForkLemmas.{among-cases}
use Rattle.ndc_model_sets.proofs.Lists.{Among}

-- what stands in a flat map stands in one of its parts
pub flat-among : {X Y : Type 0} (f : X → List Y) (xs : List X) (y : Y) → Among y (flat_map f xs) → (x : X) × Among x xs × Among y (f x)
flat-among f [] y none = absurd none
flat-among {X = X} {Y = Y} f (x ∷ xs) y among = by (among-cases y (f x) (flat_map f xs) among) (flat-among f xs y)
  where
    by : Among y (f x) ⊎ Among y (flat_map f xs) → (Among y (flat_map f xs) → (z : X) × Among z xs × Among y (f z)) → (z : X) × Among z (x ∷ xs) × Among y (f z)
    by (inl front) rest = (x, inl refl, front)
    by (inr later) rest = let r = rest later in (r.0, inr r.1, r.2)
