-- Counts of steps.
use Rattle.std.specs.Prelude.{ℕ, ◌+◌, ◌-◌, ◌^◌, min, max}

-- a counter after so many more steps: it never falls, and stays at the greatest number of 64 bits
abbrev pub counted : ℕ → ℕ → ℕ
counted before more = max before (min (before + more) (2 ^ 64 - 1))
