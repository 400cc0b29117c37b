-- A value of a sound shape is read exactly where it is printed.
use Rattle.std.proofs.Common.{◌≡◌, ℕ, ◌<◌, ◌≤◌, ◌^◌, Bool, true, false, ◌&&◌, List, [], ◌∷◌, ◌++◌, length, Option, Some, None, Ok, decimal, codes, refl, sym, ap, ◌∙◌, subst, arith, append_assoc, le-leb, leb-true}
use Rattle.std.specs.Prelude.{IsTrue, nat_le, nat_lt, not}
use Rattle.std.specs.List.{list_all, AllByRecursion}
use Rattle.std.proofs.lemmas.Bool.{and_parts, ltb-true, ne_eqb, not-true}
use Rattle.std.proofs.lemmas.Fmt.{decimal_nonempty}
use Rattle.ndc_node_shapes.specs.Bytes.{after, expect, is_digit, digits_of, number_at, flag_text, flag_from, list_text, list_at, member_at, numbers_at, in_range, unless_null, first_key, next_key}
use Rattle.ndc_node_shapes.specs.Fits.{Fits, is_key, is_object, is_rest, is_sound}
use Rattle.ndc_node_shapes.specs.Read.{read_of}
use Rattle.ndc_node_shapes.specs.Shapes.{Shape, number, flag, name, word, text, run, numbers, list, nullable, object, next, end, Value}
use Rattle.ndc_node_shapes.specs.Text.{text_of}
use Rattle.ndc_node_shapes.proofs.Steps.{bound, parts}
use Rattle.ndc_node_shapes.proofs.Pieces.{expected, is_there, was_expected}
use Rattle.ndc_node_shapes.proofs.Numbers.{number_again, number_only, printed_digits}
use Rattle.ndc_node_shapes.proofs.Quoted.{text_again, text_only, name_again, name_only, word_again, word_only, run_again, run_only, in_its_range}
use Rattle.ndc_node_shapes.proofs.Lists.{IsRead, list_again, list_only}

-- ---- how texts begin

digit_begins : (ds rest : List ℕ) → list_all is_digit ds ≡ true → 0 < length ds → after (93 ∷ []) (ds ++ rest) ≡ None
digit_begins [] rest h some = absurd (omega (arith, some))
digit_begins (d ∷ ds) rest h some =
    let p = and_parts (nat_le 48 d) (nat_le d 57) (and_parts (is_digit d) (list_all is_digit ds) h).0 in
    let most : d ≤ 57 = leb-true d 57 p.1 in
    rw (ne_eqb d 93 (λ e. omega (arith, most, e))) refl

pub number_small : (least most n : ℕ) → IsTrue (nat_lt most (10 ^ 18)) → IsTrue (nat_le least n && nat_le n most) → n < 10 ^ 18
number_small least most n s h =
    let upper : n ≤ most = leb-true n most (and_parts (nat_le least n) (nat_le n most) h).1 in
    let few : most < 10 ^ 18 = ltb-true most (10 ^ 18) s in
    omega (arith, upper, few)

number_begins : (n : ℕ) (rest : List ℕ) → n < 10 ^ 18 → after (93 ∷ []) (decimal n ++ rest) ≡ None
number_begins n rest h = digit_begins (decimal n) rest (printed_digits n h) (decimal_nonempty n (omega arith))

begins : (s : Shape) (v : Value s) (rest : List ℕ) → is_sound s ≡ true → Fits s v → after (93 ∷ []) (text_of s v ++ rest) ≡ None
begins (number least most) n rest sound h = number_begins n rest (number_small least most n sound h)
begins flag true rest sound h = refl
begins flag false rest sound h = refl
begins name bytes rest sound h = refl
begins (word test) bytes rest sound h = refl
begins text bytes rest sound h = refl
begins run id rest sound h = refl
begins (numbers most test) ns rest sound h = refl
begins (list s) vs rest sound h = refl
begins (nullable s) None rest sound h = refl
begins (nullable s) (Some v) rest sound h = begins s v rest (and_parts (is_sound s) (is_object s) sound).0 h
begins (object key s ms) v rest sound h = refl
begins (next key s ms) v rest sound h = refl
begins end v rest sound h = refl

object_begins : (s : Shape) (v : Value s) (rest : List ℕ) → is_object s ≡ true → after (codes "null") (text_of s v ++ rest) ≡ None
object_begins (number least most) v rest h = absurd (cc)
object_begins flag v rest h = absurd (cc)
object_begins name v rest h = absurd (cc)
object_begins (word test) v rest h = absurd (cc)
object_begins text v rest h = absurd (cc)
object_begins run v rest h = absurd (cc)
object_begins (numbers most test) v rest h = absurd (cc)
object_begins (list s) v rest h = absurd (cc)
object_begins (nullable s) v rest h = absurd (cc)
object_begins (object key s ms) v rest h = refl
object_begins (next key s ms) v rest h = absurd (cc)
object_begins end v rest h = absurd (cc)

rest_stops : (s : Shape) (v : Value s) (rest : List ℕ) → is_rest s ≡ true → digits_of (text_of s v ++ rest) ≡ []
rest_stops (number least most) v rest h = absurd (cc)
rest_stops flag v rest h = absurd (cc)
rest_stops name v rest h = absurd (cc)
rest_stops (word test) v rest h = absurd (cc)
rest_stops text v rest h = absurd (cc)
rest_stops run v rest h = absurd (cc)
rest_stops (numbers most test) v rest h = absurd (cc)
rest_stops (list s) v rest h = absurd (cc)
rest_stops (nullable s) v rest h = absurd (cc)
rest_stops (object key s ms) v rest h = absurd (cc)
rest_stops (next key s ms) v rest h = refl
rest_stops end v rest h = refl

-- ---- what is printed is read

module _ (bound_of : ℕ) (small : bound_of < 10 ^ 18) where
  IsBelow : ℕ → Type 0
  IsBelow n = IsTrue (nat_le 0 n && nat_le n bound_of)

  below : (n : ℕ) → nat_le n bound_of ≡ true → IsBelow n
  unfolding IsBelow
  below n h = rw (le-leb 0 n (omega arith), h) refl

  all_below : (ns : List ℕ) → list_all (λ n. nat_le n bound_of) ns ≡ true → AllByRecursion IsBelow ns
  all_below [] h = tt
  all_below (n ∷ ns) h = let p = and_parts (nat_le n bound_of) (list_all (λ n. nat_le n bound_of) ns) h in (below n p.0, all_below ns p.1)

  are_below : (ns : List ℕ) → AllByRecursion IsBelow ns → list_all (λ n. nat_le n bound_of) ns ≡ true
  unfolding IsBelow
  are_below [] h = refl
  are_below (n ∷ ns) h = rw ((and_parts (nat_le 0 n) (nat_le n bound_of) h.0).1, are_below ns h.1) refl

  numbers_read : IsRead decimal (number_at 0 bound_of) IsBelow
  unfolding IsBelow
  numbers_read = record {
    again = λ n rest h stop. number_again 0 bound_of n rest small h stop;
    begins = λ n rest h. number_begins n rest (let upper : n ≤ bound_of = leb-true n bound_of (and_parts (nat_le 0 n) (nat_le n bound_of) h).1 in omega (arith, upper));
  }

  numbers_again : (test : List ℕ → Bool) (ns rest : List ℕ) → list_all (λ n. nat_le n bound_of) ns ≡ true → test ns ≡ true → numbers_at bound_of test (list_text decimal ns ++ rest) ≡ Ok (ns, rest)
  numbers_again test ns rest all up = rw (list_again decimal (number_at 0 bound_of) IsBelow numbers_read ns rest (all_below ns all), up) refl

  numbers_only : (test : List ℕ → Bool) (ns left rest : List ℕ) → numbers_at bound_of test left ≡ Ok (ns, rest) → ((list_all (λ n. nat_le n bound_of) ns ≡ true) × (test ns ≡ true)) × (left ≡ list_text decimal ns ++ rest)
  unfolding IsBelow
  numbers_only test ns left rest h =
      let p = bound (λ (r : List ℕ × List ℕ). in_range (test r.0) r left) (list_at (number_at 0 bound_of) left) (ns, rest) h in
      let r = in_its_range (test p.0.0) p.0 (ns, rest) left p.1.1 in
      let it = list_only decimal (number_at 0 bound_of) IsBelow (λ left rest n. number_only 0 bound_of n left rest) left rest ns (p.1.0 ∙ ap (λ (q : List ℕ × List ℕ). Ok q) r.0) in
      ((are_below ns it.0, subst (λ (q : List ℕ × List ℕ). test q.0 ≡ true) r.0 r.1), it.1)

-- the parts of what is sound
abbrev pub IsJoined : List ℕ → Shape → Shape → Type 0
IsJoined key s ms = (is_key key ≡ true) × (is_sound s ≡ true) × (is_rest s ≡ false) × (is_sound ms ≡ true) × (is_rest ms ≡ true)

pub joined : (key : List ℕ) (s ms : Shape) → (is_key key && is_sound s && not (is_rest s) && is_sound ms && is_rest ms) ≡ true → IsJoined key s ms
joined key s ms h =
    let p = and_parts (is_key key && is_sound s && not (is_rest s) && is_sound ms) (is_rest ms) h in
    let q = and_parts (is_key key && is_sound s && not (is_rest s)) (is_sound ms) p.0 in
    let r = and_parts (is_key key && is_sound s) (not (is_rest s)) q.0 in
    let t = and_parts (is_key key) (is_sound s) r.0 in
    (t.0, t.1, not-true (is_rest s) r.1, q.1, p.1)

pub three : (one two more rest : List ℕ) → ((one ++ two) ++ more) ++ rest ≡ one ++ (two ++ (more ++ rest))
three one two more rest = append_assoc (one ++ two) more rest ∙ append_assoc one two (more ++ rest)

-- a member is read, and those after it
member_again : (piece : List ℕ) (s ms : Shape) (v : Value s) (vs : Value ms) (rest : List ℕ)
    → read_of s (text_of s v ++ (text_of ms vs ++ rest)) ≡ Ok (v, text_of ms vs ++ rest) → read_of ms (text_of ms vs ++ rest) ≡ Ok (vs, rest)
    → member_at piece (read_of s) (read_of ms) (((piece ++ text_of s v) ++ text_of ms vs) ++ rest) ≡ Ok ((v, vs), rest)
member_again piece s ms v vs rest one more = rw (three piece (text_of s v) (text_of ms vs) rest, expected piece (text_of s v ++ (text_of ms vs ++ rest)), one, more) refl

pub again : (s : Shape) (v : Value s) (rest : List ℕ) → is_sound s ≡ true → Fits s v → digits_of rest ≡ [] → read_of s (text_of s v ++ rest) ≡ Ok (v, rest)
again (number least most) n rest sound h stop = number_again least most n rest (ltb-true most (10 ^ 18) sound) h stop
again flag true rest sound h stop = refl
again flag false rest sound h stop = refl
again name bytes rest sound h stop = name_again bytes rest h
again (word test) bytes rest sound h stop = word_again test bytes rest h.0 h.1
again text bytes rest sound h stop = text_again bytes rest h
again run id rest sound h stop = run_again id rest h
again (numbers most test) ns rest sound h stop = numbers_again most (ltb-true most (10 ^ 18) sound) test ns rest h.0 h.1
again (list s) vs rest sound h stop =
    let good = (and_parts (is_sound s) (not (is_rest s)) sound).0 in
    list_again (text_of s) (read_of s) (Fits s) (record { again = λ v rest f stop. again s v rest good f stop; begins = λ v rest f. begins s v rest good f }) vs rest h
again (nullable s) None rest sound h stop = refl
again (nullable s) (Some v) rest sound h stop =
    let p = and_parts (is_sound s) (is_object s) sound in
    rw (object_begins s v rest p.1, again s v rest p.0 h stop) refl
again (object key s ms) v rest sound h stop =
    let j = joined key s ms sound in
    member_again (first_key key) s ms v.0 v.1 rest (again s v.0 (text_of ms v.1 ++ rest) j.1 h.0 (rest_stops ms v.1 rest j.4)) (again ms v.1 rest j.3 h.1 stop)
again (next key s ms) v rest sound h stop =
    let j = joined key s ms sound in
    member_again (next_key key) s ms v.0 v.1 rest (again s v.0 (text_of ms v.1 ++ rest) j.1 h.0 (rest_stops ms v.1 rest j.4)) (again ms v.1 rest j.3 h.1 stop)
again end v rest sound h stop = refl

-- ---- what is read was printed

flag_was : (value : Bool) (left rest : List ℕ) (o : Option (List ℕ)) → after (codes "true") left ≡ o → flag_from o left ≡ Ok (value, rest) → left ≡ flag_text value ++ rest
flag_was value left rest (Some end_of) e h =
    let p = parts true value end_of rest h in
    subst (λ b. left ≡ flag_text b ++ rest) p.0 (is_there (codes "true") left end_of e ∙ ap (λ (z : List ℕ). codes "true" ++ z) p.1)
flag_was value left rest None e h =
    let p = bound (λ (z : List ℕ). Ok (false, z)) (expect (codes "false") left) (value, rest) h in
    let q = parts false value p.0 rest p.1.1 in
    subst (λ b. left ≡ flag_text b ++ rest) q.0 (was_expected (codes "false") left p.0 p.1.0 ∙ ap (λ (z : List ℕ). codes "false" ++ z) q.1)

-- what is read of a shape is in its ranges, and was printed
abbrev IsPrinted : (s : Shape) → List ℕ → Value s → List ℕ → Type 0
IsPrinted s left v rest = Fits s v × (left ≡ text_of s v ++ rest)

null_was : (s : Shape) (v : Option (Value s)) (left rest : List ℕ) (o : Option (List ℕ)) → after (codes "null") left ≡ o
    → ((v : Value s) (rest : List ℕ) → read_of s left ≡ Ok (v, rest) → IsPrinted s left v rest) → unless_null o (read_of s left) ≡ Ok (v, rest) → IsPrinted (nullable s) left v rest
null_was s v left rest (Some end_of) e k h =
    let p = parts None v end_of rest h in
    subst (λ o. IsPrinted (nullable s) left o rest) p.0 (tt, is_there (codes "null") left end_of e ∙ ap (λ (z : List ℕ). codes "null" ++ z) p.1)
null_was s v left rest None e k h =
    let p = bound _ (read_of s left) (v, rest) h in
    let q = parts (Some p.0.0) v p.0.1 rest p.1.1 in
    subst (λ o. IsPrinted (nullable s) left o rest) q.0 (k p.0.0 rest (p.1.0 ∙ ap (λ (z : List ℕ). Ok (p.0.0, z)) q.1))

member_was : (piece : List ℕ) (s ms : Shape) (v : Value s × Value ms) (left rest : List ℕ)
    → ((left : List ℕ) (v : Value s) (rest : List ℕ) → read_of s left ≡ Ok (v, rest) → IsPrinted s left v rest)
    → ((left : List ℕ) (v : Value ms) (rest : List ℕ) → read_of ms left ≡ Ok (v, rest) → IsPrinted ms left v rest)
    → member_at piece (read_of s) (read_of ms) left ≡ Ok (v, rest)
    → (Fits s v.0 × Fits ms v.1) × (left ≡ ((piece ++ text_of s v.0) ++ text_of ms v.1) ++ rest)
member_was piece s ms v left rest k l h =
    let p = bound _ (expect piece left) (v, rest) h in
    let q = bound _ (read_of s p.0) (v, rest) p.1.1 in
    let r = bound _ (read_of ms q.0.1) (v, rest) q.1.1 in
    let t = parts (q.0.0, r.0.0) v r.0.1 rest r.1.1 in
    let one = k p.0 q.0.0 q.0.1 q.1.0 in
    let more = l q.0.1 r.0.0 rest (r.1.0 ∙ ap (λ (z : List ℕ). Ok (r.0.0, z)) t.1) in
    let same = was_expected piece left p.0 p.1.0 ∙ ap (λ (z : List ℕ). piece ++ z) (one.1 ∙ ap (λ (z : List ℕ). text_of s q.0.0 ++ z) more.1) ∙ sym (three piece (text_of s q.0.0) (text_of ms r.0.0) rest) in
    subst (λ (w : Value s × Value ms). (Fits s w.0 × Fits ms w.1) × (left ≡ ((piece ++ text_of s w.0) ++ text_of ms w.1) ++ rest)) t.0 ((one.0, more.0), same)

pub only : (s : Shape) (left : List ℕ) (v : Value s) (rest : List ℕ) → is_sound s ≡ true → read_of s left ≡ Ok (v, rest) → IsPrinted s left v rest
only (number least most) left n rest sound h = number_only least most n left rest h
only flag left b rest sound h = (tt, flag_was b left rest (after (codes "true") left) refl h)
only name left bytes rest sound h = name_only left bytes rest h
only (word test) left bytes rest sound h = word_only test left bytes rest h
only text left bytes rest sound h = let p = text_only left bytes rest h in (p.1, p.0)
only run left id rest sound h = run_only id left rest h
only (numbers most test) left ns rest sound h = numbers_only most (ltb-true most (10 ^ 18) sound) test ns left rest h
only (list s) left vs rest sound h =
    let good = (and_parts (is_sound s) (not (is_rest s)) sound).0 in
    list_only (text_of s) (read_of s) (Fits s) (λ left rest v. only s left v rest good) left rest vs h
only (nullable s) left v rest sound h =
    let good = (and_parts (is_sound s) (is_object s) sound).0 in
    null_was s v left rest (after (codes "null") left) refl (λ v rest. only s left v rest good) h
only (object key s ms) left v rest sound h =
    let j = joined key s ms sound in
    member_was (first_key key) s ms v left rest (λ left v rest. only s left v rest j.1) (λ left v rest. only ms left v rest j.3) h
only (next key s ms) left v rest sound h =
    let j = joined key s ms sound in
    member_was (next_key key) s ms v left rest (λ left v rest. only s left v rest j.1) (λ left v rest. only ms left v rest j.3) h
only end left v rest sound h =
    let p = bound (λ (z : List ℕ). Ok (tt, z)) (expect (125 ∷ []) left) (v, rest) h in
    let q = parts tt v p.0 rest p.1.1 in
    (tt, was_expected (125 ∷ []) left p.0 p.1.0 ∙ ap (λ (z : List ℕ). 125 ∷ z) q.1)
