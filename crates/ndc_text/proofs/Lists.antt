-- Lists: one that was read after what stands before it, and a test over a mapped list.
use Rattle.std.proofs.Common.{◌≡◌, Bool, ◌||◌, List, [], ◌∷◌, ◌++◌, map, Result, Ok, Err, refl, ap}
use Rattle.std.specs.List.{list_any}
use Rattle.ndc_text.specs.declared.error.TextError.{TextError}

-- the list that was read, after the prefix
abbrev pub with_front : {A : Type 0} → List A → Result (List A) TextError → Result (List A) TextError
with_front front (Ok xs) = Ok (front ++ xs)
with_front front (Err e) = Err e

pub list_any-map : {X Y : Type 0} (p : Y → Bool) (f : X → Y) (xs : List X) → list_any p (map f xs) ≡ list_any (λ x. p (f x)) xs
list_any-map p f [] = refl
list_any-map p f (x ∷ xs) = ap (λ b. p (f x) || b) (list_any-map p f xs)
