-- Names and lines of generated scripts.
use Rattle.std.proofs.Common.{◌≡◌, ℕ, suc, ◌+◌, ◌-◌, ◌<◌, ◌≤◌, ◌^◌, true, List, [], ◌∷◌, ◌++◌, length, decimal, append_assoc, sym, ap, ◌∙◌, arith, lit<}
use Rattle.std.specs.List.{list_all}
use Rattle.std.proofs.lemmas.Bool.{le-leb, and_from}
use Rattle.std.proofs.lemmas.Fmt.{decimal_nonempty, length-decimal-le}
use Rattle.std.proofs.lemmas.List.{length-append}
use Rattle.std.proofs.lemmas.List.Folds.{list_all-append}
use Rattle.ndc_event.specs.Name.{is_name, is_name_byte}
use Rattle.ndc_script_types.specs.declared.script.Line.{Line}
use Rattle.ndc_script.specs.Generate.{line_at, next_state, drawn, generated_act, drawn_lines}
use Rattle.ndc_script.proofs.PrintedAreLines.{digits_are_names}
use Rattle.ndc_script.proofs.PrintedNumbers.{digits-decimal}

-- a byte at most and a number are a name
pub front-decimal : (front : List ℕ) (n : ℕ) → list_all is_name_byte front ≡ true → length front ≤ 1 → n < 10 ^ 18 → is_name (front ++ decimal n) ≡ true
front-decimal front n plain few h =
    let small : n < 2 ^ 64 = omega (arith, h) in
    let some : 1 ≤ length (decimal n) = decimal_nonempty n small in
    let most : length (decimal n) ≤ 18 = length-decimal-le 18 n (lit< tt) h small in
    let least : 1 ≤ length (front ++ decimal n) = omega (arith, some, length-append front (decimal n)) in
    let short : length (front ++ decimal n) ≤ 200 = omega (arith, most, few, length-append front (decimal n)) in
    and_from _ _ (and_from _ _ (le-leb 1 (length (front ++ decimal n)) least) (le-leb (length (front ++ decimal n)) 200 short))
    (list_all-append is_name_byte front (decimal n) ∙ and_from _ _ plain (digits_are_names (decimal n) (digits-decimal n small)))

step_at : (front : List Line) (left rest place state : ℕ) → left ≡ suc rest → (front ++ line_at (13 + (place + 1)) (generated_act (place + 1) (drawn (next_state state))) ∷ []) ++ drawn_lines rest (place + 1 + 1) (next_state state) ≡ front ++ drawn_lines left (place + 1) state
step_at front left rest place state is =
    append_assoc front (line_at (13 + (place + 1)) (generated_act (place + 1) (drawn (next_state state))) ∷ []) (drawn_lines rest (place + 1 + 1) (next_state state))
    ∙ ap (λ (n : ℕ). front ++ drawn_lines n (place + 1) state) (sym is)

-- a further line is drawn
pub drawn_step : (front : List Line) (count place number state : ℕ) → place < count → number ≡ 13 + (place + 1) → (front ++ line_at number (generated_act (place + 1) (drawn (next_state state))) ∷ []) ++ drawn_lines (count - (place + 1)) (place + 1 + 1) (next_state state) ≡ front ++ drawn_lines (count - place) (place + 1) state
drawn_step front count place number state below is =
    let left : count - place ≡ suc (count - (place + 1)) = omega arith in
    ap (λ (n : ℕ). (front ++ line_at n (generated_act (place + 1) (drawn (next_state state))) ∷ []) ++ drawn_lines (count - (place + 1)) (place + 1 + 1) (next_state state)) is
    ∙ step_at front (count - place) (count - (place + 1)) place state left
