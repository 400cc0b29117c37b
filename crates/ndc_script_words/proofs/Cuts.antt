-- How a text falls into its first line and the rest.
use Rattle.std.proofs.Common.{◌≡◌, ℕ, zero, suc, ◌-◌, ◌<◌, ◌≤◌, Bool, true, false, ◌==◌, List, [], ◌∷◌, length, take, drop, slice_index, refl, ap, sym, arith, cond, sub-one}
use Rattle.std.proofs.Math.Seq.{take-length}
use Rattle.std.specs.List.{onto_first}
use Rattle.ndc_script_words.specs.Text.{text_lines, line_len}

pub text_lines-cut : (b : ℕ) (bs : List ℕ) → text_lines (b ∷ bs) ≡ take (line_len (b ∷ bs)) (b ∷ bs) ∷ text_lines (drop 1 (drop (line_len (b ∷ bs)) (b ∷ bs)))
text_lines-cut b [] =
    elim (b == 10) as (λ (t : Bool). cond t ([] ∷ []) (onto_first b []) ≡ take (cond t 0 (suc 0)) (b ∷ []) ∷ text_lines (drop 1 (drop (cond t 0 (suc 0)) (b ∷ []))))
    [ true ↦ refl | false ↦ refl ]
text_lines-cut b (d ∷ bs) =
    elim (b == 10) as (λ (t : Bool).
    cond t ([] ∷ text_lines (d ∷ bs)) (onto_first b (text_lines (d ∷ bs)))
    ≡ take (cond t 0 (suc (line_len (d ∷ bs)))) (b ∷ d ∷ bs) ∷ text_lines (drop 1 (drop (cond t 0 (suc (line_len (d ∷ bs)))) (b ∷ d ∷ bs))))
    [ true ↦ refl | false ↦ ap (onto_first b) (text_lines-cut d bs) ]

pub line_len_within : (bs : List ℕ) → line_len bs ≤ length bs
line_len_within [] = omega arith
line_len_within (b ∷ bs) =
    elim (b == 10) as (λ (t : Bool). cond t 0 (suc (line_len bs)) ≤ length (b ∷ bs)) [ true ↦ omega arith | false ↦ omega (arith, line_len_within bs) ]

-- the same of a text that is not empty, whose first line ends before the back
pub text_lines-split : (bytes front back : List ℕ) → (0 < length bytes) → front ≡ take (line_len bytes) bytes → back ≡ drop (line_len bytes) bytes → text_lines bytes ≡ front ∷ text_lines (drop 1 back)
text_lines-split [] front back n f b = absurd (omega arith)
text_lines-split (x ∷ bytes) front back n f b = rw (f, b) (text_lines-cut x bytes)

-- the rest after the first byte
pub drop_first : (back : List ℕ) → take (length back - 1) (drop 1 back) ≡ drop 1 back
drop_first [] = refl
drop_first (b ∷ bs) = rw (sub-one, take-length bs) refl

-- a last line without its end
pub text_lines-last : (bytes front back : List ℕ) → (0 < length bytes) → front ≡ take (line_len bytes) bytes → back ≡ drop (line_len bytes) bytes → length back < 1 → text_lines bytes ≡ front ∷ text_lines back
text_lines-last bytes front [] n f b e = text_lines-split bytes front [] n f b
text_lines-last bytes front (x ∷ back) n f b e = absurd (omega arith)

-- a line with its end
pub text_lines-first : (bytes front back : List ℕ) → (0 < length bytes) → front ≡ take (line_len bytes) bytes → back ≡ drop (line_len bytes) bytes → text_lines bytes ≡ front ∷ text_lines (take (length back - 1) (drop 1 back))
text_lines-first bytes front back n f b = rw (drop_first back) (text_lines-split bytes front back n f b)

-- a text without the byte that ends a line
pub line_len-none : (bs : List ℕ) → ((k : ℕ) → k < length bs → ¬ ((slice_index bs k == 10) ≡ true)) → length bs ≡ line_len bs
line_len-none [] never = refl
line_len-none (b ∷ bs) never = by (b == 10) refl (line_len-none bs (λ k below. never (suc k) (omega (arith, below))))
  where
    by : (t : Bool) → (b == 10) ≡ t → length bs ≡ line_len bs → suc (length bs) ≡ cond t 0 (suc (line_len bs))
    by true is rest = absurd (never zero (omega arith) is)
    by false is rest = ap suc rest

-- the first place of that byte
pub line_len-first : (bs : List ℕ) (at : ℕ) → at < length bs → ((k : ℕ) → k < at → ¬ ((slice_index bs k == 10) ≡ true)) → (slice_index bs at == 10) ≡ true → at ≡ line_len bs
line_len-first [] at below never is = absurd (omega (arith, below))
line_len-first (b ∷ bs) zero below never is = sym (ap (λ (t : Bool). cond t 0 (suc (line_len bs))) is)
line_len-first (b ∷ bs) (suc at) below never is = by (b == 10) refl (line_len-first bs at (omega (arith, below)) (λ k less. never (suc k) (omega (arith, less))) is)
  where
    by : (t : Bool) → (b == 10) ≡ t → at ≡ line_len bs → suc at ≡ cond t 0 (suc (line_len bs))
    by true ends rest = absurd (never zero (omega arith) ends)
    by false other rest = ap suc rest
