-- Where the text of an object ends: at the brace that closes it. So no proper prefix of the text of an object is the text of one.
use Rattle.std.proofs.Common.{◌≡◌, ℕ, zero, suc, ◌<◌, ◌≤◌, ◌==◌, Bool, true, false, ◌&&◌, ◌||◌, List, [], ◌∷◌, ◌++◌, Some, None, Option, unwrap_or, decimal, inl, inr, refl, sym, ap, ◌∙◌, arith, append-nil, append_assoc}
use Rattle.std.specs.Prelude.{if◌then◌else◌}
use Rattle.std.specs.Char.{digit_value}
use Rattle.std.specs.Str.Parse.{AllDigits}
use Rattle.std.proofs.lemmas.Bool.{and_parts, cases_lt, cases_eq, ne_eqb}
use Rattle.std.proofs.lemmas.Fmt.{decimal_is_IsNumeral}
use Rattle.json.specs.Print.{escape_byte, escape, quoted}
use Rattle.json.proofs.Printed.Strings.{escape_byte_plain}
use Rattle.serde_json.specs.Data.{unsigned, negative, float, Data, null, boolean, number, string, array, object, Items, no_items, item, Members, no_members, member}
use Rattle.serde_json.specs.Written.{comma_if, compact_text, items_text, members_text}
use Rattle.ndc_text.proofs.Plain.{IsPlain, ItemsArePlain, MembersArePlain}

-- where a reader of brackets stands
data Place : Type 0 where
  outside : Place
  inside : Place
  escaped : Place

-- one bracket closes: the outermost one, or one of the n that are open in it
abbrev closed : ℕ → List ℕ → (ℕ → Option (List ℕ)) → Option (List ℕ)
closed zero rest go = Some rest
closed (suc n) rest go = go n

-- what stands after the bracket that closes the outermost one, where n others are open in it
rest_after : Place → ℕ → List ℕ → Option (List ℕ)
rest_after outside n [] = None
rest_after outside n (b ∷ bs) =
    if b == 34 then rest_after inside n bs
    else if (b == 91) || (b == 123) then rest_after outside (suc n) bs
    else if (b == 93) || (b == 125) then closed n bs (λ m. rest_after outside m bs)
    else rest_after outside n bs
rest_after inside n [] = None
rest_after inside n (b ∷ bs) = if b == 34 then rest_after outside n bs else if b == 92 then rest_after escaped n bs else rest_after inside n bs
rest_after escaped n [] = None
rest_after escaped n (b ∷ bs) = rest_after inside n bs

-- ---- a text passes

-- the bytes lead from inside a text to inside it
abbrev stays : Place → List ℕ → Bool
stays outside bs = false
stays inside [] = true
stays inside (b ∷ bs) = if b == 34 then false else if b == 92 then stays escaped bs else stays inside bs
stays escaped [] = false
stays escaped (b ∷ bs) = stays inside bs

by_byte : (n : ℕ) (bs r : List ℕ) (quote backslash : Bool)
    → (if quote then false else if backslash then stays escaped bs else stays inside bs) ≡ true
    → (stays escaped bs ≡ true → rest_after escaped n (bs ++ r) ≡ rest_after inside n r)
    → (stays inside bs ≡ true → rest_after inside n (bs ++ r) ≡ rest_after inside n r)
    → (if quote then rest_after outside n (bs ++ r) else if backslash then rest_after escaped n (bs ++ r) else rest_after inside n (bs ++ r)) ≡ rest_after inside n r
by_byte n bs r true backslash h e i = absurd (cc)
by_byte n bs r false true h e i = e h
by_byte n bs r false false h e i = i h

mutual
  unfolding rest_after

  stays_inside : (n : ℕ) (bs r : List ℕ) → stays inside bs ≡ true → rest_after inside n (bs ++ r) ≡ rest_after inside n r
  stays_inside n [] r h = refl
  stays_inside n (b ∷ bs) r h = by_byte n bs r (b == 34) (b == 92) h (stays_escaped n bs r) (stays_inside n bs r)

  stays_escaped : (n : ℕ) (bs r : List ℕ) → stays escaped bs ≡ true → rest_after escaped n (bs ++ r) ≡ rest_after inside n r
  stays_escaped n [] r h = absurd (cc)
  stays_escaped n (b ∷ bs) r h = stays_inside n bs r h

-- the escapes of the bytes below n stay
abbrev stay_below : ℕ → Bool
stay_below zero = true
stay_below (suc n) = stays inside (escape_byte n) && stay_below n

below : (n : ℕ) → stay_below n ≡ true → (x : ℕ) → x < n → stays inside (escape_byte x) ≡ true
below zero e x h = absurd (omega arith)
below (suc n) e x h =
    let p = and_parts _ _ e in
    elim (cases_eq x n) [ inl same ↦ rw same p.0 | inr other ↦ below n p.1 x (omega arith) ]

all_stay : stay_below 128 ≡ true
unfolding escape_byte
all_stay = refl

escape_stays : (x : ℕ) → stays inside (escape_byte x) ≡ true
escape_stays x = elim (cases_lt x 128) [
  | inl small ↦ below 128 all_stay x small
  | inr big ↦ rw (escape_byte_plain x (λ e. omega arith) (λ e. omega arith) (omega arith), ne_eqb x 34 (λ e. omega arith), ne_eqb x 92 (λ e. omega arith)) refl
]

text_passes : (n : ℕ) (s r : List ℕ) → rest_after inside n (escape s ++ 34 ∷ r) ≡ rest_after outside n r
unfolding rest_after
text_passes n [] r = refl
text_passes n (x ∷ s) r =
    ap (rest_after inside n) (append_assoc (escape_byte x) (escape s) (34 ∷ r)) ∙ stays_inside n (escape_byte x) (escape s ++ 34 ∷ r) (escape_stays x) ∙ text_passes n s r

quoted_passes : (n : ℕ) (s r : List ℕ) → rest_after outside n (quoted s ++ r) ≡ rest_after outside n r
unfolding rest_after
quoted_passes n s r = ap (rest_after inside n) (append_assoc (escape s) (34 ∷ []) r) ∙ text_passes n s r

-- ---- a number passes

digit_range : (d : ℕ) → digit_value d < 10 → (48 ≤ d) × (d ≤ 57)
digit_range d h = (grind arith, grind arith)

digits_pass : (n : ℕ) (ds r : List ℕ) → AllDigits 10 ds → rest_after outside n (ds ++ r) ≡ rest_after outside n r
unfolding rest_after
digits_pass n [] r h = refl
digits_pass n (d ∷ ds) r h =
    let range = digit_range d h.0 in
    let low : 48 ≤ d = range.0 in
    let high : d ≤ 57 = range.1 in
    rw (ne_eqb d 34 (λ e. omega arith), ne_eqb d 91 (λ e. omega arith), ne_eqb d 123 (λ e. omega arith), ne_eqb d 93 (λ e. omega arith), ne_eqb d 125 (λ e. omega arith))
    (digits_pass n ds r h.1)

-- ---- a value passes

comma_passes : (n : ℕ) (later : Bool) (r : List ℕ) → rest_after outside n (comma_if later ++ r) ≡ rest_after outside n r
unfolding rest_after
comma_passes n true r = refl
comma_passes n false r = refl

mutual
  unfolding rest_after

  value_passes : (n : ℕ) (d : Data) (r : List ℕ) → IsPlain d → rest_after outside n (compact_text d ++ r) ≡ rest_after outside n r
  value_passes n null r h = refl
  value_passes n (boolean true) r h = refl
  value_passes n (boolean false) r h = refl
  value_passes n (number (unsigned m)) r h = digits_pass n (decimal m) r (decimal_is_IsNumeral m h).0.1
  value_passes n (number (negative z)) r h = absurd h
  value_passes n (number (float x)) r h = absurd h
  value_passes n (string s) r h = quoted_passes n s r
  value_passes n (array ds) r h = items_pass (suc n) false ds r h
  value_passes n (object ms) r h = members_pass (suc n) false ms r h

  items_pass : (n : ℕ) (later : Bool) (ds : Items) (r : List ℕ) → ItemsArePlain ds → rest_after outside n (items_text later ds ++ r) ≡ closed n r (λ m. rest_after outside m r)
  items_pass n later no_items r h = refl
  items_pass n later (item d ds) r h =
      ap (rest_after outside n) (append_assoc (comma_if later) (compact_text d ++ items_text true ds) r) ∙ comma_passes n later ((compact_text d ++ items_text true ds) ++ r)
      ∙ ap (rest_after outside n) (append_assoc (compact_text d) (items_text true ds) r) ∙ value_passes n d (items_text true ds ++ r) h.0 ∙ items_pass n true ds r h.1

  members_pass : (n : ℕ) (later : Bool) (ms : Members) (r : List ℕ) → MembersArePlain ms → rest_after outside n (members_text later ms ++ r) ≡ closed n r (λ m. rest_after outside m r)
  members_pass n later no_members r h = refl
  members_pass n later (member k d ms) r h =
      let value = compact_text d ++ members_text true ms in
      ap (rest_after outside n) (append_assoc (comma_if later) (quoted k ++ 58 ∷ value) r) ∙ comma_passes n later ((quoted k ++ 58 ∷ value) ++ r)
      ∙ ap (rest_after outside n) (append_assoc (quoted k) (58 ∷ value) r) ∙ quoted_passes n k (58 ∷ (value ++ r))
      ∙ ap (rest_after outside n) (append_assoc (compact_text d) (members_text true ms) r) ∙ value_passes n d (members_text true ms ++ r) h.1.0 ∙ members_pass n true ms r h.1.1

-- ---- the end of an object's text

-- what stands after the object that the text begins with
abbrev behind : List ℕ → Option (List ℕ)
behind [] = None
behind (b ∷ bs) = rest_after outside 0 bs

-- no text of an object goes on to the text of another
pub object_ends : (ms ns : Members) (rest : List ℕ) → MembersArePlain ms → MembersArePlain ns → compact_text (object ms) ++ rest ≡ compact_text (object ns) → rest ≡ []
object_ends ms ns rest h k e =
    let one : behind (compact_text (object ms) ++ rest) ≡ Some rest = members_pass 0 false ms rest h in
    let two : behind (compact_text (object ns)) ≡ Some [] = ap (rest_after outside 0) (sym (append-nil (members_text false ns))) ∙ members_pass 0 false ns [] k in
    ap (λ o. unwrap_or o []) (sym one ∙ ap behind e ∙ two)
