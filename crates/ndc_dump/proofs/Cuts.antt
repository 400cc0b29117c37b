-- How a text falls into its first line and the rest.
use Rattle.std.proofs.Common.{◌≡◌, ℕ, suc, ◌+◌, min, ◌<◌, ◌≤◌, Bool, true, false, ◌==◌, List, [], ◌∷◌, length, take, drop, refl, ap, arith, cond}
use Rattle.std.proofs.Math.Nat.{min-eq_left}
use native.Mathlib.Numerals.{unary_clauses}
use Rattle.ndc_dump.specs.Lines.{onto_line, lines_of, line_len, without_end}

lines-cut : (b : ℕ) (bs : List ℕ) → lines_of (b ∷ bs) ≡ take (line_len (b ∷ bs)) (b ∷ bs) ∷ lines_of (drop (line_len (b ∷ bs)) (b ∷ bs))
lines-cut b [] =
    elim (b == 10) as (λ (t : Bool). cond t ((b ∷ []) ∷ []) (onto_line b []) ≡ take (cond t 1 (suc 0)) (b ∷ []) ∷ lines_of (drop (cond t 1 (suc 0)) (b ∷ [])))
    [ true ↦ refl | false ↦ refl ]
lines-cut b (d ∷ bs) =
    elim (b == 10) as (λ (t : Bool).
    cond t ((b ∷ []) ∷ lines_of (d ∷ bs)) (onto_line b (lines_of (d ∷ bs)))
    ≡ take (cond t 1 (suc (line_len (d ∷ bs)))) (b ∷ d ∷ bs) ∷ lines_of (drop (cond t 1 (suc (line_len (d ∷ bs)))) (b ∷ d ∷ bs)))
    [ true ↦ refl | false ↦ ap (onto_line b) (lines-cut d bs) ]

pub line_len-within : (bs : List ℕ) → line_len bs ≤ length bs
line_len-within [] = omega arith
line_len-within (b ∷ bs) =
    elim (b == 10) as (λ (t : Bool). cond t 1 (suc (line_len bs)) ≤ length (b ∷ bs)) [ true ↦ omega arith | false ↦ omega (arith, line_len-within bs) ]

-- a text that is not empty is its first line and the rest
pub lines-split : (bytes front back : List ℕ) → 0 < length bytes → front ≡ take (line_len bytes) bytes → back ≡ drop (line_len bytes) bytes → lines_of bytes ≡ front ∷ lines_of back
lines-split [] front back n f b = absurd (omega arith)
lines-split (x ∷ bytes) front back n f b = rw (f, b) (lines-cut x bytes)

-- the rest is shorter
pub line_len-some : (bs : List ℕ) → 0 < length bs → 0 < line_len bs
line_len-some [] n = absurd (omega arith)
line_len-some (b ∷ bs) n = elim (b == 10) as (λ (t : Bool). 0 < cond t 1 (suc (line_len bs))) [ true ↦ omega arith | false ↦ omega arith ]

-- what stands before a line's end
pub front-within : (line : List ℕ) → length (without_end line) ≤ length line
front-within [] = omega arith
front-within (b ∷ bs) =
    elim (b == 10) as (λ (t : Bool). length (cond t [] (b ∷ without_end bs)) ≤ length (b ∷ bs)) [ true ↦ omega arith | false ↦ omega (arith, front-within bs) ]

-- the first line is what stands before its end, and the end, where there is one
pub line_len-end : (bs : List ℕ) → min (length (without_end bs) + 1) (length bs) ≡ line_len bs
line_len-end [] = refl
line_len-end (b ∷ bs) =
    elim (b == 10) as (λ (t : Bool). min (length (cond t [] (b ∷ without_end bs)) + 1) (length (b ∷ bs)) ≡ cond t 1 (suc (line_len bs)))
    [ true ↦ min-eq_left (omega arith) | false ↦ simp unary_clauses (ap suc (simp unary_clauses at (line_len-end bs))) ]

pub front-of : (line : List ℕ) → take (length (without_end line)) line ≡ without_end line
front-of [] = refl
front-of (b ∷ bs) =
    elim (b == 10) as (λ (t : Bool). take (length (cond t [] (b ∷ without_end bs))) (b ∷ bs) ≡ cond t [] (b ∷ without_end bs))
    [ true ↦ refl | false ↦ ap (λ l. b ∷ l) (front-of bs) ]
