-- The text of a value has the bytes from space to `~` alone: it is one line.
use Rattle.std.proofs.Common.{◌≡◌, ℕ, ◌<◌, ◌≤◌, ◌^◌, Bool, true, false, ◌&&◌, List, [], ◌∷◌, ◌++◌, Some, None, decimal, refl, arith, leb-true, le-leb}
use Rattle.std.specs.Prelude.{IsTrue, nat_le, not, if◌then◌else◌}
use Rattle.std.specs.List.{list_all, AllByRecursion}
use Rattle.std.proofs.lemmas.Bool.{and_parts, ltb-true}
use Rattle.ndc_event.specs.Key.{run_text}
use Rattle.ndc_event.specs.Name.{is_name, is_name_byte}
use Rattle.ndc_node_shapes.specs.Bytes.{is_digit, is_plain, is_marked, escaped, quoted, further, with_commas, list_text, first_key, next_key}
use Rattle.ndc_node_shapes.specs.Fits.{Fits, is_key, is_object, is_rest, is_sound}
use Rattle.ndc_node_shapes.specs.Shapes.{Shape, number, flag, name, word, text, run, numbers, list, nullable, object, next, end, Value}
use Rattle.ndc_node_shapes.specs.Text.{text_of}
use Rattle.ndc_node_shapes.proofs.Numbers.{printed_digits}
use Rattle.ndc_node_shapes.proofs.Quoted.{names_plain, run_plain}
use Rattle.ndc_node_shapes.proofs.Both.{number_small, joined}

abbrev pub IsPlainText : List ℕ → Type 0
IsPlainText bytes = list_all is_plain bytes ≡ true

pub plain_joined : (one two : List ℕ) → IsPlainText one → IsPlainText two → IsPlainText (one ++ two)
plain_joined [] two h k = k
plain_joined (b ∷ one) two h k = let p = and_parts (is_plain b) (list_all is_plain one) h in rw (p.0, plain_joined one two p.1 k) refl

digit_plain : (ds : List ℕ) → list_all is_digit ds ≡ true → IsPlainText ds
digit_plain [] h = refl
digit_plain (d ∷ ds) h =
    let p = and_parts (is_digit d) (list_all is_digit ds) h in
    let q = and_parts (nat_le 48 d) (nat_le d 57) p.0 in
    let low : 48 ≤ d = leb-true 48 d q.0 in
    let high : d ≤ 57 = leb-true d 57 q.1 in
    rw (le-leb 32 d (omega arith), le-leb d 126 (omega arith), digit_plain ds p.1) refl

pub number_plain : (n : ℕ) → n < 10 ^ 18 → IsPlainText (decimal n)
number_plain n h = digit_plain (decimal n) (printed_digits n h)

escaped_by : (b : ℕ) (bytes : List ℕ) (test : Bool) → is_plain b ≡ true → IsPlainText (escaped bytes) → IsPlainText (if test then 92 ∷ b ∷ escaped bytes else b ∷ escaped bytes)
escaped_by b bytes true p h = rw (p, h) refl
escaped_by b bytes false p h = rw (p, h) refl

escaped_plain : (bytes : List ℕ) → IsPlainText bytes → IsPlainText (escaped bytes)
escaped_plain [] h = refl
escaped_plain (b ∷ bytes) h = let p = and_parts (is_plain b) (list_all is_plain bytes) h in escaped_by b bytes (is_marked b) p.0 (escaped_plain bytes p.1)

pub quoted_plain : (bytes : List ℕ) → IsPlainText bytes → IsPlainText (quoted bytes)
quoted_plain bytes h = plain_joined (escaped bytes) (34 ∷ []) (escaped_plain bytes h) refl

pub name_plain : (bytes : List ℕ) → IsTrue (is_name bytes) → IsPlainText bytes
name_plain bytes h = names_plain bytes (and_parts _ (list_all is_name_byte bytes) h).1

module _ {A : Type 0} (print : A → List ℕ) (Fit : A → Type 0) (plain_item : (x : A) → Fit x → IsPlainText (print x)) where
  further_plain : (xs : List A) → AllByRecursion Fit xs → IsPlainText (further print xs)
  further_plain [] h = refl
  further_plain (x ∷ xs) h = plain_joined (print x) (further print xs) (plain_item x h.0) (further_plain xs h.1)

  commas_plain : (xs : List A) → AllByRecursion Fit xs → IsPlainText (with_commas print xs)
  commas_plain [] h = refl
  commas_plain (x ∷ xs) h = plain_joined (print x) (further print xs) (plain_item x h.0) (further_plain xs h.1)

  list_plain : (xs : List A) → AllByRecursion Fit xs → IsPlainText (list_text print xs)
  list_plain xs h = plain_joined (with_commas print xs) (93 ∷ []) (commas_plain xs h) refl

small_numbers : (bound : ℕ) (ns : List ℕ) → bound < 10 ^ 18 → list_all (λ n. nat_le n bound) ns ≡ true → AllByRecursion (λ n. n < 10 ^ 18) ns
small_numbers bound [] few h = tt
small_numbers bound (n ∷ ns) few h =
    let p = and_parts (nat_le n bound) (list_all (λ n. nat_le n bound) ns) h in
    (let below : n ≤ bound = leb-true n bound p.0 in omega (arith, below, few), small_numbers bound ns few p.1)

key_plain : (key : List ℕ) → is_key key ≡ true → IsPlainText key
key_plain [] h = refl
key_plain (b ∷ key) h =
    let p = and_parts (is_plain b && not (is_marked b)) (is_key key) h in
    let q = and_parts (is_plain b) (not (is_marked b)) p.0 in
    rw (q.0, key_plain key p.1) refl

pub first_plain : (key : List ℕ) → is_key key ≡ true → IsPlainText (first_key key)
first_plain key h = plain_joined key (34 ∷ 58 ∷ []) (key_plain key h) refl

pub next_plain : (key : List ℕ) → is_key key ≡ true → IsPlainText (next_key key)
next_plain key h = plain_joined key (34 ∷ 58 ∷ []) (key_plain key h) refl

pub plain : (s : Shape) (v : Value s) → is_sound s ≡ true → Fits s v → IsPlainText (text_of s v)
plain (number least most) n sound h = number_plain n (number_small least most n sound h)
plain flag true sound h = refl
plain flag false sound h = refl
plain name bytes sound h = quoted_plain bytes (name_plain bytes h)
plain (word test) bytes sound h = quoted_plain bytes (name_plain bytes h.0)
plain text bytes sound h = quoted_plain bytes h
plain run id sound h = quoted_plain (run_text id) (run_plain id)
plain (numbers most test) ns sound h = list_plain decimal (λ n. n < 10 ^ 18) number_plain ns (small_numbers most ns (ltb-true most (10 ^ 18) sound) h.0)
plain (list s) vs sound h =
    let p = and_parts (is_sound s) (not (is_rest s)) sound in
    list_plain (text_of s) (Fits s) (λ v f. plain s v p.0 f) vs h
plain (nullable s) None sound h = refl
plain (nullable s) (Some v) sound h = plain s v (and_parts (is_sound s) (is_object s) sound).0 h
plain (object key s ms) v sound h =
    let j = joined key s ms sound in
    plain_joined (first_key key ++ text_of s v.0) (text_of ms v.1) (plain_joined (first_key key) (text_of s v.0) (first_plain key j.0) (plain s v.0 j.1 h.0)) (plain ms v.1 j.3 h.1)
plain (next key s ms) v sound h =
    let j = joined key s ms sound in
    plain_joined (next_key key ++ text_of s v.0) (text_of ms v.1) (plain_joined (next_key key) (text_of s v.0) (next_plain key j.0) (plain s v.0 j.1 h.0)) (plain ms v.1 j.3 h.1)
plain end v sound h = refl
