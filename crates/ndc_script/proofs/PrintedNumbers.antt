-- Printed numbers are read again.
use Rattle.std.proofs.Common.{◌≡◌, ℕ, suc, zero, ◌<◌, ◌^◌, Bool, true, false, not, List, [], ◌∷◌, length, get_or, Some, None, decimal, nat_lt, nat_le, if◌then◌else◌, refl, ap, ◌∙◌, rules, arith, lit<}
use Rattle.std.proofs.lemmas.Bool.{lt-ltb, le-leb, and_from}
use Rattle.ndc_script.proofs.PrintedWords.{differs}
use Rattle.std.specs.List.{list_all}
use Rattle.std.proofs.lemmas.Str.Parse.{IsNumeralModel, numerals_by_fold}
use Rattle.std.proofs.lemmas.Fmt.{digits_decimal, digits_value-decimal, decimal_nonempty, length-decimal-le, first_decimal, decimal_digit}
use Rattle.ndc_script_words.specs.Number.{is_digit, is_number, has_leading_zero, value_on, number_of}

pub own : IsNumeralModel (λ ds. list_all is_digit ds ≡ true) (value_on 0)
own = numerals_by_fold _ (search rules) value_on (search rules)

-- a number is printed in digits
pub digits-decimal : (n : ℕ) → n < 2 ^ 64 → list_all is_digit (decimal n) ≡ true
digits-decimal n small = digits_decimal own n small

-- a numeral that begins above `0` has no leading zero
no_zero : (ds : List ℕ) → 48 < get_or ds 0 0 → has_leading_zero ds ≡ false
no_zero [] h = refl
no_zero (d ∷ ds) h = let high : 48 < d = h in rw (differs d 48 (λ e. omega (arith, high, e))) refl

decimal_zero : (n : ℕ) → n < 2 ^ 64 → has_leading_zero (decimal n) ≡ false
decimal_zero zero h = rw (decimal_digit 0 (lit< tt)) refl
decimal_zero (suc n) h = no_zero (decimal (suc n)) (first_decimal (suc n) (omega arith) h)

pub number_of-decimal : (n : ℕ) → n < 10 ^ 18 → number_of (decimal n) ≡ Some n
number_of-decimal n h =
    let small : n < 2 ^ 64 = omega (arith, h) in
    let some : nat_lt 0 (length (decimal n)) ≡ true = lt-ltb 0 (length (decimal n)) (decimal_nonempty n small) in
    let few : nat_le (length (decimal n)) 18 ≡ true = le-leb (length (decimal n)) 18 (length-decimal-le 18 n (lit< tt) h small) in
    let digits : list_all is_digit (decimal n) ≡ true = digits_decimal own n small in
    let plain : not (has_leading_zero (decimal n)) ≡ true = rw (decimal_zero n small) refl in
    let number : is_number (decimal n) ≡ true = and_from _ _ (and_from _ _ (and_from _ _ some few) digits) plain in
    ap (λ (b : Bool). if b then Some (value_on 0 (decimal n)) else None) number ∙ ap Some (digits_value-decimal own n small)
