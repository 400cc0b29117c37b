-- The ranges of numbers.
use Rattle.std.specs.Prelude.{ℕ, ◌/◌, ◌%◌, ◌^◌, Bool, ◌&&◌, nat_le}

-- event ids and tasks are 1 to 10^12
abbrev pub is_id : ℕ → Bool
is_id n = nat_le 1 n && nat_le n (10 ^ 12)

-- versions are at most 10^13
abbrev pub is_version : ℕ → Bool
is_version n = nat_le n (10 ^ 13)

-- a run's id is a version above the low 64 bits, and a task in them
abbrev pub is_run : ℕ → Bool
is_run n = is_version (n / 2 ^ 64) && is_id (n % 2 ^ 64)
