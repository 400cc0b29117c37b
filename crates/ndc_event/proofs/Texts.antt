-- Texts that agree up to the end of the shorter one compare as their lengths do.
use Rattle.std.proofs.Common.{◌≡◌, ℕ, ◌-◌, ◌≤◌, min, List, [], ◌∷◌, length, drop, Less, Equal, Greater, arith}
use Rattle.std.proofs.lemmas.List.{length-drop}
use Rattle.std.specs.Cmp.{nat_cmp_is}
use Rattle.std.specs.Cmp.Lexicographic.{slice_cmp}
use Rattle.std.specs.Ordering.{nat_cmp}

-- what is left of two texts after as many bytes as the shorter one has
left-compare : (xs ys : List ℕ) (n m least : ℕ) → least ≡ min n m → length xs ≡ n - least → length ys ≡ m - least → slice_cmp nat_cmp xs ys ≡ nat_cmp n m
left-compare [] [] n m least is one two = nat_cmp_is n m Equal (omega (arith, is, one, two))
left-compare [] (y ∷ ys) n m least is one two = nat_cmp_is n m Less (omega (arith, is, one, two))
left-compare (x ∷ xs) [] n m least is one two = nat_cmp_is n m Greater (omega (arith, is, one, two))
left-compare (x ∷ xs) (y ∷ ys) n m least is one two = absurd (omega (arith, is, one, two))

-- the same, where a walk has come to the end of the shorter one
pub at-end : (xs ys : List ℕ) (place least near : ℕ) → least ≡ min (length xs) (length ys) → near ≡ min least 16 → least ≤ 16 → place ≤ near → near ≤ place → slice_cmp nat_cmp (drop place xs) (drop place ys) ≡ nat_cmp (length xs) (length ys)
at-end xs ys place least near is end short below above =
    left-compare (drop place xs) (drop place ys) (length xs) (length ys) place (omega (arith, is, end, short, below, above)) (length-drop place xs) (length-drop place ys)
