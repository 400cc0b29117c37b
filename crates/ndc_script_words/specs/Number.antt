-- Decimal numbers in scripts.
use Rattle.std.specs.Prelude.{ℕ, ◌+◌, ◌-◌, ◌*◌, Bool, false, ◌&&◌, ◌==◌, not, nat_lt, nat_le, Option, None, Some, List, [], ◌∷◌, length, if◌then◌else◌}
use Rattle.std.specs.List.{list_all}

-- a byte from `0` to `9`
abbrev pub is_digit : ℕ → Bool
is_digit byte = nat_le 48 byte && nat_le byte 57

-- a number does not begin with 0, itself excepted
abbrev pub has_leading_zero : List ℕ → Bool
has_leading_zero [] = false
has_leading_zero (byte ∷ bytes) = (byte == 48) && nat_lt 0 (length bytes)

-- the word is a number: 1 to 18 digits without a leading zero
abbrev pub is_number : List ℕ → Bool
is_number word = nat_lt 0 (length word) && nat_le (length word) 18 && list_all is_digit word && not (has_leading_zero word)

-- the value of digits that stand after those of a number
abbrev pub value_on : ℕ → List ℕ → ℕ
value_on value [] = value
value_on value (byte ∷ bytes) = value_on (value * 10 + (byte - 48)) bytes

-- the number that a word is
abbrev pub number_of : List ℕ → Option ℕ
number_of word = if is_number word then Some (value_on 0 word) else None
