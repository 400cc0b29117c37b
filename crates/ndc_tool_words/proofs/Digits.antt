-- How large a number is at least whose first digits are known.
use Rattle.std.proofs.Common.{◌≡◌, ℕ, ◌+◌, ◌-◌, ◌*◌, ◌/◌, ◌<◌, ◌≤◌, List, [], ◌∷◌, length, drop, get_or, arith}
use Rattle.std.proofs.lemmas.List.{at_drop_more}
use Rattle.ndc_script_words.specs.Number.{value_on}

-- further digits make no number smaller
value_least : (value : ℕ) (bytes : List ℕ) → value ≤ value_on value bytes
value_least value [] = omega arith
value_least value (byte ∷ bytes) = omega (arith, value_least (value * 10 + (byte - 48)) bytes)

-- where the next digit passes the greatest value of 64 bits, the number does
pub number_past : (word : List ℕ) (value i : ℕ) → value_on value (drop i word) ≡ value_on 0 word → i < length word → (18446744073709551615 - (get_or word i 0 - 48)) / 10 < value → 18446744073709551615 < value_on 0 word
number_past word value i whole within past =
    let next : value_on value (drop i word) ≡ value_on (value * 10 + (get_or word i 0 - 48)) (drop (i + 1) word) = at_drop_more (value_on value) word i 0 within in
    let least = value_least (value * 10 + (get_or word i 0 - 48)) (drop (i + 1) word) in
    let above : 18446744073709551615 < value * 10 + (get_or word i 0 - 48) = omega (arith, past) in
    omega (arith, whole, next, least, above)
