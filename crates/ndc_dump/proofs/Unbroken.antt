-- The text of a batch is one line: no byte of it is a line end.
use Rattle.std.proofs.Common.{◌≡◌, ℕ, zero, suc, ◌<◌, ◌≤◌, ◌==◌, Bool, true, false, not, ◌&&◌, List, [], ◌∷◌, ◌++◌, decimal, inl, inr, refl, ◌∙◌, arith}
use Rattle.std.specs.Char.{digit_value}
use Rattle.std.specs.List.{list_all}
use Rattle.std.specs.Str.Parse.{AllDigits}
use Rattle.std.proofs.lemmas.Bool.{and_from, and_parts, cases_eq, cases_lt, ne_eqb}
use Rattle.std.proofs.lemmas.Fmt.{decimal_is_IsNumeral}
use Rattle.std.proofs.lemmas.List.Folds.{list_all-append}
use Rattle.json.specs.Print.{escape, escape_byte, quoted}
use Rattle.json.proofs.Printed.Strings.{escape_byte_plain}
use Rattle.serde_json.specs.Data.{unsigned, negative, float, Data, null, boolean, number, string, array, object, Items, no_items, item, Members, no_members, member}
use Rattle.serde_json.specs.Written.{comma_if, compact_text, items_text, members_text}
use Rattle.ndc_event.specs.declared.batch.Batch.{Batch}
use Rattle.ndc_text.specs.Ranges.{InRange}
use Rattle.ndc_text.specs.Text.{batch_data, batch_text}
use Rattle.ndc_text.proofs.Plain.{IsPlain, ItemsArePlain, MembersArePlain}
use Rattle.ndc_text.proofs.Shapes.{batch_plain}

-- no byte is a line end
abbrev pub is_unbroken : List ℕ → Bool
is_unbroken bytes = list_all (λ byte. not (byte == 10)) bytes

pub unbroken-append : (one two : List ℕ) → is_unbroken one ≡ true → is_unbroken two ≡ true → is_unbroken (one ++ two) ≡ true
unbroken-append one two h k = list_all-append (λ byte. not (byte == 10)) one two ∙ and_from (is_unbroken one) (is_unbroken two) h k

-- ---- texts

-- the escapes of the bytes below n are unbroken
abbrev all_below : ℕ → Bool
all_below zero = true
all_below (suc n) = is_unbroken (escape_byte n) && all_below n

below : (n : ℕ) → all_below n ≡ true → (x : ℕ) → x < n → is_unbroken (escape_byte x) ≡ true
below zero e x h = absurd (omega arith)
below (suc n) e x h =
    let p = and_parts (is_unbroken (escape_byte n)) (all_below n) e in
    elim (cases_eq x n) [ inl same ↦ rw same p.0 | inr other ↦ below n p.1 x (omega arith) ]

all_escapes : all_below 128 ≡ true
unfolding escape_byte
all_escapes = refl

escape_unbroken : (x : ℕ) → is_unbroken (escape_byte x) ≡ true
escape_unbroken x = elim (cases_lt x 128) [
  | inl small ↦ below 128 all_escapes x small
  | inr big ↦ rw (escape_byte_plain x (λ e. omega arith) (λ e. omega arith) (omega arith), ne_eqb x 10 (λ e. omega arith)) refl
]

escaped : (s : List ℕ) → is_unbroken (escape s) ≡ true
escaped [] = refl
escaped (x ∷ s) = unbroken-append (escape_byte x) (escape s) (escape_unbroken x) (escaped s)

quoted_unbroken : (s : List ℕ) → is_unbroken (quoted s) ≡ true
quoted_unbroken s = unbroken-append (escape s) (34 ∷ []) (escaped s) refl

-- ---- numbers

digit_low : (d : ℕ) → digit_value d < 10 → 48 ≤ d
digit_low d h = grind arith

digits_unbroken : (ds : List ℕ) → AllDigits 10 ds → is_unbroken ds ≡ true
digits_unbroken [] h = refl
digits_unbroken (d ∷ ds) h = let low : 48 ≤ d = digit_low d h.0 in rw (ne_eqb d 10 (λ e. omega arith)) (digits_unbroken ds h.1)

-- ---- values

comma_unbroken : (later : Bool) → is_unbroken (comma_if later) ≡ true
comma_unbroken true = refl
comma_unbroken false = refl

mutual
  value_unbroken : (d : Data) → IsPlain d → is_unbroken (compact_text d) ≡ true
  value_unbroken null h = refl
  value_unbroken (boolean true) h = refl
  value_unbroken (boolean false) h = refl
  value_unbroken (number (unsigned m)) h = digits_unbroken (decimal m) (decimal_is_IsNumeral m h).0.1
  value_unbroken (number (negative z)) h = absurd h
  value_unbroken (number (float x)) h = absurd h
  value_unbroken (string s) h = quoted_unbroken s
  value_unbroken (array ds) h = items_unbroken false ds h
  value_unbroken (object ms) h = members_unbroken false ms h

  items_unbroken : (later : Bool) (ds : Items) → ItemsArePlain ds → is_unbroken (items_text later ds) ≡ true
  items_unbroken later no_items h = refl
  items_unbroken later (item d ds) h =
      unbroken-append (comma_if later) (compact_text d ++ items_text true ds) (comma_unbroken later)
      (unbroken-append (compact_text d) (items_text true ds) (value_unbroken d h.0) (items_unbroken true ds h.1))

  members_unbroken : (later : Bool) (ms : Members) → MembersArePlain ms → is_unbroken (members_text later ms) ≡ true
  members_unbroken later no_members h = refl
  members_unbroken later (member k d ms) h =
      unbroken-append (comma_if later) (quoted k ++ 58 ∷ (compact_text d ++ members_text true ms)) (comma_unbroken later)
      (unbroken-append (quoted k) (58 ∷ (compact_text d ++ members_text true ms)) (quoted_unbroken k)
      (unbroken-append (compact_text d) (members_text true ms) (value_unbroken d h.1.0) (members_unbroken true ms h.1.1)))

-- the text of a batch in range is one line
pub text-unbroken : (b : Batch) → InRange b → is_unbroken (batch_text b) ≡ true
unfolding batch_text
text-unbroken b h = value_unbroken (batch_data b) (batch_plain b h)
