-- Numbers among the words.
use Rattle.std.specs.Prelude.{ℕ, Bool, ◌&&◌, not, nat_lt, nat_le, Option, None, Some, List, length, if◌then◌else◌}
use Rattle.std.specs.List.{list_all}
use Rattle.ndc_script_words.specs.Number.{is_digit, has_leading_zero, value_on}

-- a number is written in digits without a leading zero
abbrev pub is_written : List ℕ → Bool
is_written word = nat_lt 0 (length word) && list_all is_digit word && not (has_leading_zero word)

-- the number that a word is, where it is in the range
abbrev pub number_within : ℕ → ℕ → List ℕ → Option ℕ
number_within least most word =
    if is_written word && nat_le least (value_on 0 word) && nat_le (value_on 0 word) most then Some (value_on 0 word) else None
