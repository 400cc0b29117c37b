-- Counts of calls and of faults, and what errors print.
use Rattle.std.specs.Prelude.{◌≡◌, ℕ, ◌+◌, ◌-◌, ◌^◌, ◌<◌, ◌⊎◌, min, List, codes}
use Rattle.ndc_port.specs.declared.reading.ReadError.{ReadError}
use Rattle.ndc_port.specs.declared.reading.ReadError.TheVariants.{Fault, TooLong, Memory}

-- in a call the count rose: it is greater after it than before, or stands at the greatest value of a u64
abbrev pub Rose : ℕ → ℕ → Type 0
Rose before after = (before < after) ⊎ (after ≡ 2 ^ 64 - 1)

-- the count after one more; at the greatest value of a u64 it stays
abbrev pub one_more : ℕ → ℕ
one_more count = min (count + 1) (2 ^ 64 - 1)

-- what a read error prints
abbrev pub read_error_text : ReadError → List ℕ
read_error_text Fault = codes "a read failed"
read_error_text TooLong = codes "more bytes came than the limit allows"
read_error_text Memory = codes "out of memory"
