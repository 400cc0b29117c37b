-- Lists of things that are all alike, one by one.
use Rattle.std.proofs.Common.{◌≡◌, ℕ, zero, suc, ◌+◌, ◌<◌, List, [], ◌∷◌, ◌++◌, drop, length, map, refl, ap, sym, ◌∙◌, arith}
use Rattle.std.proofs.lemmas.List.{append_assoc}

alike-more : {X Y : Type 0} (s : Y) (items : List X) (place : ℕ) → place < length items → map (λ _. s) (drop place items) ≡ s ∷ map (λ _. s) (drop (suc place) items)
alike-more s [] place less = absurd (omega (arith, less))
alike-more s (x ∷ items) zero less = refl
alike-more s (x ∷ items) (suc place) less = alike-more s items place (omega (arith, less))

-- one more of them
pub one_more_alike : {X Y : Type 0} (s one : Y) (old now : List Y) (items : List X) (place : ℕ) → place < length items → now ≡ old ++ one ∷ [] → one ≡ s
    → old ++ map (λ _. s) (drop place items) ≡ map (λ _. s) items → now ++ map (λ _. s) (drop (place + 1) items) ≡ map (λ _. s) items
one_more_alike s one old now items place less pushed same before =
    ap (λ l. l ++ map (λ _. s) (drop (place + 1) items)) (pushed ∙ ap (λ y. old ++ y ∷ []) same)
    ∙ append_assoc old (s ∷ []) (map (λ _. s) (drop (place + 1) items))
    ∙ ap (λ n. old ++ s ∷ map (λ _. s) (drop n items)) next
    ∙ ap (λ l. old ++ l) (sym (alike-more s items place less))
    ∙ before
  where
    next : place + 1 ≡ suc place
    next = omega arith
