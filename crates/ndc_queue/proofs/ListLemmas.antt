-- Lists of which the first items were dropped.
use Rattle.std.proofs.Common.{◌≡◌, ◌≤◌, ◌+◌, ◌-◌, ℕ, zero, suc, List, [], ◌∷◌, Some, drop, take, refl, ap, sym, ◌∙◌, arith}
use Rattle.ndc_queue.specs.Lists.{entries_from, first_from, kept_from}

-- nothing is left of nothing
drop-nothing : {X : Type 0} (n : ℕ) → drop {A = X} n [] ≡ []
drop-nothing zero = refl
drop-nothing (suc n) = refl

-- items dropped twice
drop-twice : {X : Type 0} (n m : ℕ) (xs : List X) → drop m (drop n xs) ≡ drop (n + m) xs
drop-twice zero m xs = ap (λ k. drop k xs) (omega arith)
drop-twice (suc n) m [] = drop-nothing m ∙ sym (drop-nothing (suc n + m))
drop-twice (suc n) m (x ∷ xs) = let more : suc (n + m) ≡ suc n + m = omega arith in drop-twice n m xs ∙ ap (λ k. drop k (x ∷ xs)) more

-- what is left is the rest of the queue
pub kept_is_the_rest : {X : Type 0} (first level : ℕ) (queue : List X) → kept_from first level (drop first queue) ≡ drop (first_from first level) queue
kept_is_the_rest first level queue = drop-twice first (level - first) queue ∙ ap (λ k. drop k queue) (omega arith)

-- the entries from a level on
pub entries_of_the_rest : {X : Type 0} (first level count : ℕ) (queue : List X) → first ≤ level
    → take count (kept_from first level (drop first queue)) ≡ entries_from (Some count) level queue
entries_of_the_rest first level count queue least = ap (take count) (drop-twice first (level - first) queue ∙ ap (λ k. drop k queue) (omega arith))
