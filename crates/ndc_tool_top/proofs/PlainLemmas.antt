-- Generated scripts have no bursts.
use Rattle.std.proofs.Common.{◌≡◌, ℕ, zero, suc, ◌+◌, ◌%◌, ◌==◌, nat_le, Bool, true, false, [], ◌∷◌, ◌++◌, refl}
use Rattle.std.specs.List.{AllByRecursion}
use Rattle.std.specs.Prelude.{if◌then◌else◌}
use Rattle.ndc_script_types.specs.declared.script.Act.{Act}
use Rattle.ndc_script_types.specs.declared.script.Act.TheVariants as act
use Rattle.ndc_script_types.specs.declared.script.Line.{Line}
use Rattle.ndc_model.proofs.ListLemmas.{all-append}
use Rattle.ndc_script.specs.Generate.{drawn, drawn_lines, drawn_move, first_lines, generated_act, generated_lines, line_at, next_state}

-- whether a line is a burst
abbrev pub is_burst : Act → Bool
is_burst (act.Burst cluster jobs) = true
is_burst _ = false

-- one of two lines that are not bursts
if-plain : (b : Bool) (one other : Act) → is_burst one ≡ false → is_burst other ≡ false → is_burst (if b then one else other) ≡ false
if-plain true one other first second = first
if-plain false one other first second = second

-- a line that is drawn is not a burst
move-plain : (draw kind : ℕ) → is_burst (drawn_move draw kind) ≡ false
move-plain draw kind = if-plain (kind == 6) _ _ refl (if-plain (kind == 7) _ _ refl (if-plain (kind == 8) _ _ refl refl))

drawn-plain : (place draw : ℕ) → is_burst (generated_act place draw) ≡ false
unfolding generated_act
drawn-plain place draw = if-plain (nat_le (draw % 10) 5) _ _ refl (move-plain draw (draw % 10))

all-drawn : (left place state : ℕ) → AllByRecursion (λ line. is_burst line.act ≡ false) (drawn_lines left place state)
all-drawn zero place state = tt
all-drawn (suc left) place state = (drawn-plain place (drawn (next_state state)), all-drawn left (place + 1) (next_state state))

-- no line of a generated script is one
pub generated_plain : (count seed : ℕ) → AllByRecursion (λ line. is_burst line.act ≡ false) (generated_lines count seed)
generated_plain count seed =
    all-append Plain (first_lines ++ drawn_lines count 1 seed) (line_at (14 + count) act.Settle ∷ [])
    (all-append Plain first_lines (drawn_lines count 1 seed) (refl, (refl, (refl, (refl, (refl, (refl, tt)))))) (all-drawn count 1 seed)) (refl, tt)
  where
    Plain : Line → Type 0
    Plain line = is_burst line.act ≡ false
