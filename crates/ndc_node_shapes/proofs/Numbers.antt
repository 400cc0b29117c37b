-- Numbers are read exactly where they are printed.
use Rattle.std.proofs.Common.{◌≡◌, ℕ, ◌^◌, ◌<◌, ◌≤◌, Bool, true, false, ◌&&◌, ◌==◌, List, [], ◌∷◌, ◌++◌, length, take, drop, get_or, Ok, refl, sym, ap, ◌∙◌, arith, rules, decimal, subst, inl, inr, leb-true, le-leb, eqb-true, true≢false}
use Rattle.std.specs.Prelude.{IsTrue, not, nat_lt, nat_le, if◌then◌else◌}
use Rattle.std.specs.List.{list_all}
use Rattle.std.proofs.Math.Seq.{drop-append_seam}
use Rattle.std.proofs.lemmas.Bool.{and_parts, cases_lt, lt-ltb, ltb-true, not-true}
use Rattle.std.proofs.lemmas.Str.Parse.{IsNumeralModel, numerals_by_fold, digits_value_short}
use Rattle.std.proofs.lemmas.Fmt.{digits_decimal, digits_value-decimal, length-decimal-le, decimal_nonempty, first_decimal, decimal_digit, decimal-digits_value}
use Rattle.ndc_node_shapes.specs.Bytes.{is_digit, digits_of, has_leading_zero, is_number, value_on, number_at, fault_at}
use Rattle.ndc_node_shapes.specs.declared.fault.Cause.TheVariants.{Number, Range}
use Rattle.ndc_node_shapes.proofs.Steps.{parts}

-- ---- the leading digits

leading_by : (b : ℕ) (bytes : List ℕ) (test : Bool) → list_all is_digit (digits_of bytes) ≡ true → is_digit b ≡ test → list_all is_digit (if test then b ∷ digits_of bytes else []) ≡ true
leading_by b bytes true h e = rw (e, h) refl
leading_by b bytes false h e = refl

pub are_digits : (bytes : List ℕ) → list_all is_digit (digits_of bytes) ≡ true
are_digits [] = refl
are_digits (b ∷ bytes) = leading_by b bytes (is_digit b) (are_digits bytes) refl

split_by : (b : ℕ) (bytes : List ℕ) (test : Bool) → digits_of bytes ++ drop (length (digits_of bytes)) bytes ≡ bytes
    → (if test then b ∷ digits_of bytes else []) ++ drop (length (if test then b ∷ digits_of bytes else [])) (b ∷ bytes) ≡ b ∷ bytes
split_by b bytes true h = ap (λ (bs : List ℕ). b ∷ bs) h
split_by b bytes false h = refl

pub leading_and_rest : (bytes : List ℕ) → digits_of bytes ++ drop (length (digits_of bytes)) bytes ≡ bytes
leading_and_rest [] = refl
leading_and_rest (b ∷ bytes) = split_by b bytes (is_digit b) (leading_and_rest bytes)

take_by : (b : ℕ) (bytes : List ℕ) (test : Bool) → take (length (digits_of bytes)) bytes ≡ digits_of bytes
    → take (length (if test then b ∷ digits_of bytes else [])) (b ∷ bytes) ≡ (if test then b ∷ digits_of bytes else [])
take_by b bytes true h = ap (λ (bs : List ℕ). b ∷ bs) h
take_by b bytes false h = refl

pub leading_taken : (bytes : List ℕ) → take (length (digits_of bytes)) bytes ≡ digits_of bytes
leading_taken [] = refl
leading_taken (b ∷ bytes) = take_by b bytes (is_digit b) (leading_taken bytes)

within_by : (b : ℕ) (bytes : List ℕ) (test : Bool) → length (digits_of bytes) ≤ length bytes → length (if test then b ∷ digits_of bytes else []) ≤ length (b ∷ bytes)
within_by b bytes true h = omega (arith, h)
within_by b bytes false h = omega arith

pub leading_within : (bytes : List ℕ) → length (digits_of bytes) ≤ length bytes
leading_within [] = omega arith
leading_within (b ∷ bytes) = within_by b bytes (is_digit b) (leading_within bytes)

-- digits with no digit after them
pub leading_again : (ds rest : List ℕ) → list_all is_digit ds ≡ true → digits_of rest ≡ [] → digits_of (ds ++ rest) ≡ ds
leading_again [] rest h stop = stop
leading_again (d ∷ ds) rest h stop =
    let p = and_parts (is_digit d) (list_all is_digit ds) h in
    rw (p.0, leading_again ds rest p.1 stop) refl

-- ---- the model of numerals

own : IsNumeralModel (λ ds. list_all is_digit ds ≡ true) (value_on 0)
own = numerals_by_fold _ (search rules) value_on (search rules)

pub printed_digits : (n : ℕ) → n < 10 ^ 18 → list_all is_digit (decimal n) ≡ true
printed_digits n h = digits_decimal own n (omega arith)

-- ---- what is printed is read

lead_by : (test : Bool) (ds : List ℕ) → (test ≡ true → length ds ≡ 0) → (test && nat_lt 0 (length ds)) ≡ false
lead_by true ds h = rw (h refl) refl
lead_by false ds h = refl

no_lead : (ds : List ℕ) → (get_or ds 0 0 ≡ 48 → length ds ≡ 1) → has_leading_zero ds ≡ false
no_lead [] h = refl
no_lead (d ∷ ds) h = lead_by (d == 48) ds (λ e. omega (arith, h (eqb-true d 48 e)))

decimal_first : (n : ℕ) → n < 10 ^ 18 → get_or (decimal n) 0 0 ≡ 48 → length (decimal n) ≡ 1
decimal_first n h e = elim (cases_lt 0 n) [
  | inl some ↦ let first = first_decimal n some (omega arith) in absurd (omega (arith, first, e))
  | inr none ↦ let zero_digit = decimal_digit 0 (omega arith) in let same : n ≡ 0 = omega arith in rw (same, zero_digit) refl
]

numeral : (n : ℕ) → n < 10 ^ 18 → is_number (decimal n) ≡ true
numeral n h =
    let some : 0 < length (decimal n) = decimal_nonempty n (omega arith) in
    let few : length (decimal n) ≤ 18 = length-decimal-le 18 n (omega arith) h (omega arith) in
    rw (lt-ltb 0 (length (decimal n)) some, le-leb (length (decimal n)) 18 few, no_lead (decimal n) (decimal_first n h)) refl

pub number_again : (least most n : ℕ) (rest : List ℕ) → most < 10 ^ 18 → IsTrue (nat_le least n && nat_le n most) → digits_of rest ≡ []
    → number_at least most (decimal n ++ rest) ≡ Ok (n, rest)
number_again least most n rest small h stop =
    let upper : n ≤ most = leb-true n most (and_parts (nat_le least n) (nat_le n most) h).1 in
    rw (leading_again (decimal n) rest (digits_decimal own n (omega arith)) stop, numeral n (omega arith), digits_value-decimal own n (omega arith), h)
    (ap (λ (r : List ℕ). Ok (n, r)) (drop-append_seam (decimal n) rest))

-- ---- what is read was printed

lead_one : (d : ℕ) (ds : List ℕ) → ((d == 48) && nat_lt 0 (length ds)) ≡ false → d ≡ 48 → length (d ∷ ds) ≡ 1
lead_one d [] h e = refl
lead_one d (x ∷ ds) h e =
    let both : ((d == 48) && nat_lt 0 (length (x ∷ ds))) ≡ true = rw (e, lt-ltb 0 (length (x ∷ ds)) (omega arith)) refl in
    absurd (true≢false (sym both ∙ h))

has_lead : (ds : List ℕ) → has_leading_zero ds ≡ false → 0 < length ds → get_or ds 0 0 ≡ 48 → length ds ≡ 1
has_lead [] h some e = absurd (omega (arith, some))
has_lead (d ∷ ds) h some e = lead_one d ds h e

-- the digits of a number are those of its value
printed : (ds : List ℕ) → list_all is_digit ds ≡ true → is_number ds ≡ true → decimal (value_on 0 ds) ≡ ds
printed ds digits h =
    let p = and_parts (nat_lt 0 (length ds) && nat_le (length ds) 18) (not (has_leading_zero ds)) h in
    let q = and_parts (nat_lt 0 (length ds)) (nat_le (length ds) 18) p.0 in
    let some : 0 < length ds = ltb-true 0 (length ds) q.0 in
    let few : length ds ≤ 18 = leb-true (length ds) 18 q.1 in
    let value : value_on 0 ds < 10 ^ 18 = digits_value_short own ds 18 digits few in
    decimal-digits_value own ds digits some (has_lead ds (not-true (has_leading_zero ds) p.1) some) (omega (arith, value))

by_tests : (least most : ℕ) (ds left rest : List ℕ) (n : ℕ) (one two : Bool) → is_number ds ≡ one → (nat_le least (value_on 0 ds) && nat_le (value_on 0 ds) most) ≡ two
    → (if not one then fault_at {A = ℕ × List ℕ} Number left else if two then Ok (value_on 0 ds, drop (length ds) left) else fault_at {A = ℕ × List ℕ} Range left) ≡ Ok (n, rest)
    → (is_number ds ≡ true) × (n ≡ value_on 0 ds) × (rest ≡ drop (length ds) left) × IsTrue (nat_le least (value_on 0 ds) && nat_le (value_on 0 ds) most)
by_tests least most ds left rest n true true e f h =
    let p = parts (value_on 0 ds) n (drop (length ds) left) rest h in
    (e, sym p.0, sym p.1, f)
by_tests least most ds left rest n true false e f h = absurd (cc)
by_tests least most ds left rest n false two e f h = absurd (cc)

pub number_only : (least most n : ℕ) (left rest : List ℕ) → number_at least most left ≡ Ok (n, rest)
    → IsTrue (nat_le least n && nat_le n most) × (left ≡ decimal n ++ rest)
number_only least most n left rest h =
    let ds = digits_of left in
    let known = by_tests least most ds left rest n (is_number ds) (nat_le least (value_on 0 ds) && nat_le (value_on 0 ds) most) refl refl h in (
      subst (λ m. IsTrue (nat_le least m && nat_le m most)) (sym known.1) known.3,
      sym (ap (λ (m : ℕ). decimal m ++ rest) known.1 ∙ ap (λ (bs : List ℕ). bs ++ rest) (printed ds (are_digits left) known.0) ∙ ap (λ (r : List ℕ). ds ++ r) known.2 ∙ leading_and_rest left),
    )
