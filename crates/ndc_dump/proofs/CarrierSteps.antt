-- Batches that get their carriers one after the other.
use Rattle.std.proofs.Common.{◌≡◌, ℕ, zero, suc, ◌+◌, ◌<◌, Bool, false, List, [], ◌∷◌, ◌++◌, map, take, drop, length, get_or, set, refl, sym, ap, ◌∙◌, arith}
use Rattle.std.proofs.lemmas.List.{get_or-map}
use Rattle.std.proofs.lemmas.List.Edits.{map_over_more}
use Rattle.ndc_event.specs.declared.batch.Batch.{Batch}
use Rattle.ndc_dump.specs.Migrated.{is_carried, with_carrier, with_carrier_in}

-- what comes next after a changed prefix is as it was
next-same : (f : Batch → Batch) (xs : List Batch) (i : ℕ) (x : Batch) → i < length xs → get_or (map f (take i xs) ++ drop i xs) i x ≡ get_or xs i x
next-same f [] i x less = absurd (omega (arith, less))
next-same f (y ∷ ys) zero x less = refl
next-same f (y ∷ ys) (suc i) x less = next-same f ys i x (omega (arith, less))

-- one batch more has its carrier
pub carried-more : (xs ys : List Batch) (marks : List Bool) (i : ℕ) (x new : Batch) → marks ≡ map (is_carried xs) xs → i < length xs
    → ys ≡ map (with_carrier_in xs) (take i xs) ++ drop i xs → x ≡ get_or ys i x → new ≡ with_carrier (get_or marks i false) (get_or ys i x)
    → set ys i new ≡ map (with_carrier_in xs) (take (i + 1) xs) ++ drop (i + 1) xs
carried-more xs ys marks i x new are less so_far at e =
    let here : x ≡ get_or xs i x = at ∙ ap (λ l. get_or l i x) so_far ∙ next-same (with_carrier_in xs) xs i x less in
    let mark : get_or marks i false ≡ is_carried xs x = ap (λ l. get_or l i false) are ∙ get_or-map (is_carried xs) xs i x false less ∙ ap (is_carried xs) (sym here) in
    ap (set ys i) (e ∙ ap (λ t. with_carrier t (get_or ys i x)) mark ∙ ap (with_carrier (is_carried xs x)) (sym at))
    ∙ map_over_more (with_carrier_in xs) xs ys i x less so_far at
