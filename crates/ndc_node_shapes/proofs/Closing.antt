-- The text of a value of a sound shape leaves no bracket open: so the object ends at the bracket that closes it.
use Rattle.std.proofs.Common.{◌&&◌, ◌≡◌, ℕ, suc, ◌-◌, ◌<◌, ◌≤◌, ◌^◌, Bool, true, false, ◌==◌, List, [], ◌∷◌, ◌++◌, length, take, Option, Some, None, Ok, decimal, refl, sym, ap, ◌∙◌, arith, append_assoc, leb-true}
use Rattle.std.specs.Prelude.{not, nat_le, if◌then◌else◌}
use Rattle.std.specs.List.{list_all, AllByRecursion}
use Rattle.std.proofs.lemmas.Bool.{and_parts, ltb-true, ne_eqb, not-true}
use Rattle.std.proofs.lemmas.List.{length-append}
use Rattle.std.proofs.Math.Seq.{take-append_seam}
use Rattle.ndc_event.specs.Key.{run_text}
use Rattle.ndc_node_shapes.specs.Bytes.{is_digit, is_plain, is_marked, escaped, quoted, further, with_commas, list_text, first_key, next_key, wanted}
use Rattle.ndc_node_shapes.specs.Fits.{Fits, is_key, is_object, is_rest, is_sound}
use Rattle.ndc_node_shapes.specs.Objects.{step, unless_done, rest_after, after_object, object_at}
use Rattle.ndc_node_shapes.specs.declared.fault.Cause.TheVariants.{Unexpected}
use Rattle.ndc_node_shapes.specs.Shapes.{Shape, number, flag, name, word, text, run, numbers, list, nullable, object, next, end, Value}
use Rattle.ndc_node_shapes.specs.Text.{text_of}
use Rattle.ndc_node_shapes.specs.declared.object.Place.{Place}
use Rattle.ndc_node_shapes.specs.declared.object.Place.TheVariants.{Outside, Inside}
use Rattle.ndc_node_shapes.proofs.Steps.{bound, parts, wanted_some}
use Rattle.ndc_node_shapes.proofs.Numbers.{printed_digits}
use Rattle.ndc_node_shapes.proofs.Quoted.{neither}
use Rattle.ndc_node_shapes.proofs.Both.{number_small, joined, three}

-- ---- quoted texts

byte_passes : (n b : ℕ) (r : List ℕ) (test : Bool) → is_marked b ≡ test → rest_after Inside n ((if test then 92 ∷ b ∷ r else b ∷ r)) ≡ rest_after Inside n r
unfolding rest_after
byte_passes n b r true m = refl
byte_passes n b r false m = let e = neither (b == 34) (b == 92) m in rw (e.0, e.1) refl

split : (n b : ℕ) (bytes r : List ℕ) (test : Bool)
    → rest_after Inside n ((if test then 92 ∷ b ∷ escaped bytes else b ∷ escaped bytes) ++ 34 ∷ r) ≡ rest_after Inside n (if test then 92 ∷ b ∷ (escaped bytes ++ 34 ∷ r) else b ∷ (escaped bytes ++ 34 ∷ r))
split n b bytes r true = refl
split n b bytes r false = refl

escaped_passes : (n : ℕ) (bytes r : List ℕ) → rest_after Inside n (escaped bytes ++ 34 ∷ r) ≡ rest_after Outside n r
unfolding rest_after
escaped_passes n [] r = refl
escaped_passes n (b ∷ bytes) r = split n b bytes r (is_marked b) ∙ byte_passes n b (escaped bytes ++ 34 ∷ r) (is_marked b) refl ∙ escaped_passes n bytes r

pub quoted_passes : (n : ℕ) (bytes r : List ℕ) → rest_after Outside n (quoted bytes ++ r) ≡ rest_after Outside n r
unfolding rest_after
quoted_passes n bytes r = ap (rest_after Inside n) (append_assoc (escaped bytes) (34 ∷ []) r) ∙ escaped_passes n bytes r

-- ---- numbers

digits_pass : (n : ℕ) (ds r : List ℕ) → list_all is_digit ds ≡ true → rest_after Outside n (ds ++ r) ≡ rest_after Outside n r
unfolding rest_after
digits_pass n [] r h = refl
digits_pass n (d ∷ ds) r h =
    let p = and_parts (is_digit d) (list_all is_digit ds) h in
    let q = and_parts (nat_le 48 d) (nat_le d 57) p.0 in
    let low : 48 ≤ d = leb-true 48 d q.0 in
    let high : d ≤ 57 = leb-true d 57 q.1 in
    rw (ne_eqb d 34 (λ e. omega arith), ne_eqb d 91 (λ e. omega arith), ne_eqb d 123 (λ e. omega arith), ne_eqb d 93 (λ e. omega arith), ne_eqb d 125 (λ e. omega arith))
    (digits_pass n ds r p.1)

pub number_passes : (n m : ℕ) (r : List ℕ) → m < 10 ^ 18 → rest_after Outside n (decimal m ++ r) ≡ rest_after Outside n r
number_passes n m r h = digits_pass n (decimal m) r (printed_digits m h)

-- ---- lists

module _ {A : Type 0} (text : A → List ℕ) (Fit : A → Type 0) (pass : (n : ℕ) (x : A) (r : List ℕ) → Fit x → rest_after Outside n (text x ++ r) ≡ rest_after Outside n r) where
  further_pass : (n : ℕ) (xs : List A) (r : List ℕ) → AllByRecursion Fit xs → rest_after Outside n (further text xs ++ r) ≡ rest_after Outside n r
  unfolding rest_after
  further_pass n [] r h = refl
  further_pass n (x ∷ xs) r h = ap (rest_after Outside n) (append_assoc (text x) (further text xs) r) ∙ pass n x (further text xs ++ r) h.0 ∙ further_pass n xs r h.1

  commas_pass : (n : ℕ) (xs : List A) (r : List ℕ) → AllByRecursion Fit xs → rest_after Outside n (with_commas text xs ++ r) ≡ rest_after Outside n r
  commas_pass n [] r h = refl
  commas_pass n (x ∷ xs) r h = ap (rest_after Outside n) (append_assoc (text x) (further text xs) r) ∙ pass n x (further text xs ++ r) h.0 ∙ further_pass n xs r h.1

  list_passes : (n : ℕ) (xs : List A) (r : List ℕ) → AllByRecursion Fit xs → rest_after Outside n (list_text text xs ++ r) ≡ rest_after Outside n r
  unfolding rest_after
  list_passes n xs r h = ap (rest_after Outside (suc n)) (append_assoc (with_commas text xs) (93 ∷ []) r) ∙ commas_pass (suc n) xs (93 ∷ r) h

small_all : (bound : ℕ) (ns : List ℕ) → bound < 10 ^ 18 → list_all (λ n. nat_le n bound) ns ≡ true → AllByRecursion (λ n. n < 10 ^ 18) ns
small_all bound [] few h = tt
small_all bound (n ∷ ns) few h =
    let p = and_parts (nat_le n bound) (list_all (λ n. nat_le n bound) ns) h in
    (let below : n ≤ bound = leb-true n bound p.0 in omega (arith, below, few), small_all bound ns few p.1)

-- ---- keys

key_passes : (n : ℕ) (key r : List ℕ) → is_key key ≡ true → rest_after Inside n (key ++ 34 ∷ r) ≡ rest_after Outside n r
unfolding rest_after
key_passes n [] r h = refl
key_passes n (b ∷ key) r h =
    let p = and_parts (is_plain b && not (is_marked b)) (is_key key) h in
    let e = neither (b == 34) (b == 92) (not-true (is_marked b) (and_parts (is_plain b) (not (is_marked b)) p.0).1) in
    rw (e.0, e.1) (key_passes n key r p.1)

first_passes : (n : ℕ) (key r : List ℕ) → is_key key ≡ true → rest_after Outside n (first_key key ++ r) ≡ rest_after Outside (suc n) r
unfolding rest_after
first_passes n key r h = ap (rest_after Inside (suc n)) (append_assoc key (34 ∷ 58 ∷ []) r) ∙ key_passes (suc n) key (58 ∷ r) h

next_passes : (n : ℕ) (key r : List ℕ) → is_key key ≡ true → rest_after Outside n (next_key key ++ r) ≡ rest_after Outside n r
unfolding rest_after
next_passes n key r h = ap (rest_after Inside n) (append_assoc key (34 ∷ 58 ∷ []) r) ∙ key_passes n key (58 ∷ r) h

-- ---- shapes

object_is_whole : (s : Shape) → is_object s ≡ true → is_rest s ≡ false
object_is_whole (number least most) h = absurd (cc)
object_is_whole flag h = absurd (cc)
object_is_whole name h = absurd (cc)
object_is_whole (word test) h = absurd (cc)
object_is_whole text h = absurd (cc)
object_is_whole run h = absurd (cc)
object_is_whole (numbers most test) h = absurd (cc)
object_is_whole (list s) h = absurd (cc)
object_is_whole (nullable s) h = absurd (cc)
object_is_whole (object key s ms) h = refl
object_is_whole (next key s ms) h = absurd (cc)
object_is_whole end h = absurd (cc)

-- what follows an object's first member closes one bracket more
abbrev left_by : Shape → List ℕ → List ℕ
left_by s r = if is_rest s then 125 ∷ r else r

as_rest : (s : Shape) (n : ℕ) (now r : List ℕ) → is_rest s ≡ true → rest_after Outside n now ≡ rest_after Outside n (left_by s r) → rest_after Outside n now ≡ rest_after Outside n (125 ∷ r)
as_rest s n now r h e = e ∙ rw h refl

as_whole : (s : Shape) (n : ℕ) (now r : List ℕ) → is_rest s ≡ false → rest_after Outside n now ≡ rest_after Outside n (left_by s r) → rest_after Outside n now ≡ rest_after Outside n r
as_whole s n now r h e = e ∙ rw h refl

pub passes : (s : Shape) (n : ℕ) (v : Value s) (r : List ℕ) → is_sound s ≡ true → Fits s v → rest_after Outside n (text_of s v ++ r) ≡ rest_after Outside n (left_by s r)
unfolding rest_after
passes (number least most) n m r sound h = number_passes n m r (number_small least most m sound h)
passes flag n true r sound h = refl
passes flag n false r sound h = refl
passes name n bytes r sound h = quoted_passes n bytes r
passes (word test) n bytes r sound h = quoted_passes n bytes r
passes text n bytes r sound h = quoted_passes n bytes r
passes run n id r sound h = quoted_passes n (run_text id) r
passes (numbers most test) n ns r sound h = list_passes decimal (λ m. m < 10 ^ 18) (λ n m r few. number_passes n m r few) n ns r (small_all most ns (ltb-true most (10 ^ 18) sound) h.0)
passes (list s) n vs r sound h =
    let p = and_parts (is_sound s) (not (is_rest s)) sound in
    list_passes (text_of s) (Fits s) (λ n v r f. as_whole s n (text_of s v ++ r) r (not-true (is_rest s) p.1) (passes s n v r p.0 f)) n vs r h
passes (nullable s) n None r sound h = refl
passes (nullable s) n (Some v) r sound h =
    let p = and_parts (is_sound s) (is_object s) sound in
    as_whole s n (text_of s v ++ r) r (object_is_whole s p.1) (passes s n v r p.0 h)
passes (object key s ms) n v r sound h =
    let j = joined key s ms sound in
    ap (rest_after Outside n) (three (first_key key) (text_of s v.0) (text_of ms v.1) r) ∙ first_passes n key (text_of s v.0 ++ (text_of ms v.1 ++ r)) j.0
    ∙ as_whole s (suc n) (text_of s v.0 ++ (text_of ms v.1 ++ r)) (text_of ms v.1 ++ r) j.2 (passes s (suc n) v.0 (text_of ms v.1 ++ r) j.1 h.0)
    ∙ as_rest ms (suc n) (text_of ms v.1 ++ r) r j.4 (passes ms (suc n) v.1 r j.3 h.1)
passes (next key s ms) n v r sound h =
    let j = joined key s ms sound in
    ap (rest_after Outside n) (three (next_key key) (text_of s v.0) (text_of ms v.1) r) ∙ next_passes n key (text_of s v.0 ++ (text_of ms v.1 ++ r)) j.0
    ∙ as_whole s n (text_of s v.0 ++ (text_of ms v.1 ++ r)) (text_of ms v.1 ++ r) j.2 (passes s n v.0 (text_of ms v.1 ++ r) j.1 h.0)
    ∙ as_rest ms n (text_of ms v.1 ++ r) r j.4 (passes ms n v.1 r j.3 h.1)
passes end n v r sound h = refl

-- ---- an object is cut out of what it begins

taken_prefix : (front rest : List ℕ) → take (length (front ++ rest) - length rest) (front ++ rest) ≡ front
taken_prefix front rest = ap (λ k. take k (front ++ rest)) (let l = length-append front rest in omega (arith, l)) ∙ take-append_seam front rest

-- what is cut out as these bytes
pub cut : (bytes rest : List ℕ) → after_object (bytes ++ rest) ≡ Some rest → object_at (bytes ++ rest) ≡ Ok (bytes, rest)
cut bytes rest h = rw h (ap (λ (t : List ℕ). Ok (t, rest)) (taken_prefix bytes rest))

pub closes : (key : List ℕ) (s ms : Shape) (v : Value (object key s ms)) (rest : List ℕ) → is_sound (object key s ms) ≡ true → Fits (object key s ms) v
    → after_object (text_of (object key s ms) v ++ rest) ≡ Some rest
unfolding rest_after
closes key s ms v rest sound h =
    let j = joined key s ms sound in
    let more = text_of s v.0 ++ (text_of ms v.1 ++ rest) in
    ap after_object (three (first_key key) (text_of s v.0) (text_of ms v.1) rest)
    ∙ ap (rest_after Inside 0) (append_assoc key (34 ∷ 58 ∷ []) more) ∙ key_passes 0 key (58 ∷ more) j.0
    ∙ as_whole s 0 more (text_of ms v.1 ++ rest) j.2 (passes s 0 v.0 (text_of ms v.1 ++ rest) j.1 h.0)
    ∙ as_rest ms 0 (text_of ms v.1 ++ rest) rest j.4 (passes ms 0 v.1 rest j.3 h.1)

pub object_closes : (s : Shape) (v : Value s) (rest : List ℕ) → is_object s ≡ true → is_sound s ≡ true → Fits s v → after_object (text_of s v ++ rest) ≡ Some rest
object_closes (number least most) v rest is sound h = absurd (cc)
object_closes flag v rest is sound h = absurd (cc)
object_closes name v rest is sound h = absurd (cc)
object_closes (word test) v rest is sound h = absurd (cc)
object_closes text v rest is sound h = absurd (cc)
object_closes run v rest is sound h = absurd (cc)
object_closes (numbers most test) v rest is sound h = absurd (cc)
object_closes (list s) v rest is sound h = absurd (cc)
object_closes (nullable s) v rest is sound h = absurd (cc)
object_closes (object key s ms) v rest is sound h = closes key s ms v rest sound h
object_closes (next key s ms) v rest is sound h = absurd (cc)
object_closes end v rest is sound h = absurd (cc)

pub object_cut : (s : Shape) (v : Value s) (rest : List ℕ) → is_object s ≡ true → is_sound s ≡ true → Fits s v → object_at (text_of s v ++ rest) ≡ Ok (text_of s v, rest)
object_cut s v rest is sound h = cut (text_of s v) rest (object_closes s v rest is sound h)

-- what comes after an object stands at the end
abbrev IsEnd : List ℕ → List ℕ → Type 0
IsEnd bytes rest = (front : List ℕ) × (bytes ≡ front ++ rest)

ends_by : (b : ℕ) (bytes rest : List ℕ) (o : Option (Place × ℕ)) → ((p : Place) (m : ℕ) → rest_after p m bytes ≡ Some rest → IsEnd bytes rest)
    → unless_done o bytes (λ p m. rest_after p m bytes) ≡ Some rest → IsEnd (b ∷ bytes) rest
ends_by b bytes rest None k h = (b ∷ [], let same : bytes ≡ rest = cc in ap (λ (z : List ℕ). b ∷ z) same)
ends_by b bytes rest (Some at) k h = let it = k at.0 at.1 h in (b ∷ it.0, ap (λ (z : List ℕ). b ∷ z) it.1)

ends : (place : Place) (n : ℕ) (bytes rest : List ℕ) → rest_after place n bytes ≡ Some rest → IsEnd bytes rest
unfolding rest_after
ends place n [] rest h = absurd (cc)
ends place n (b ∷ bytes) rest h = ends_by b bytes rest (step place n b) (λ p m. ends p m bytes rest) h

brace_first : (b : ℕ) (bytes rest : List ℕ) (test : Bool) → (if test then rest_after Outside 0 bytes else None) ≡ Some rest → IsEnd (b ∷ bytes) rest
brace_first b bytes rest true h = let it = ends Outside 0 bytes rest h in (b ∷ it.0, ap (λ (z : List ℕ). b ∷ z) it.1)
brace_first b bytes rest false h = absurd (cc)

object_ends : (left rest : List ℕ) → after_object left ≡ Some rest → IsEnd left rest
object_ends [] rest h = absurd (cc)
object_ends (b ∷ bytes) rest h = brace_first b bytes rest (b == 123) h

pub object_was : (left bytes rest : List ℕ) → object_at left ≡ Ok (bytes, rest) → left ≡ bytes ++ rest
object_was left bytes rest h =
    let p = bound (λ (r : List ℕ). Ok (take (length left - length r) left, r)) (wanted Unexpected left (after_object left)) (bytes, rest) h in
    let q = parts (take (length left - length p.0) left) bytes p.0 rest p.1.1 in
    let it = object_ends left p.0 (wanted_some Unexpected left (after_object left) p.0 p.1.0) in
    let front : take (length left - length p.0) left ≡ it.0 = ap (λ (z : List ℕ). take (length z - length p.0) z) it.1 ∙ taken_prefix it.0 p.0 in
    it.1 ∙ ap (λ (z : List ℕ). z ++ p.0) (sym front ∙ q.0) ∙ ap (λ (z : List ℕ). bytes ++ z) q.1
