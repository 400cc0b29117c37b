-- Lists that are made piece by piece.
use Rattle.std.proofs.Common.{◌≡◌, ℕ, ◌+◌, ◌<◌, List, ◌++◌, length, drop, map, get_or, append_assoc, sym, ap, ◌∙◌}
use Rattle.std.proofs.lemmas.List.{at_drop_more}
use Rattle.std.specs.List.{flat_map}

-- what the next item of a list gives is appended
pub pushed_more : {A B : Type 0} (f : A → List B) (xs : List A) (i : ℕ) (x : A) (old now new : List B) → i < length xs → x ≡ get_or xs i x
    → new ≡ now ++ f x → now ++ flat_map f (drop i xs) ≡ old → new ++ flat_map f (drop (i + 1) xs) ≡ old
pushed_more f xs i x old now new below is e h =
    ap (λ (z : List _). z ++ flat_map f (drop (i + 1) xs)) e
    ∙ append_assoc now (f x) (flat_map f (drop (i + 1) xs))
    ∙ ap (λ y. now ++ (f y ++ flat_map f (drop (i + 1) xs))) is
    ∙ sym (ap (λ (z : List _). now ++ z) (at_drop_more (flat_map f) xs i x below)) ∙ h
