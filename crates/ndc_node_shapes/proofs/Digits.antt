-- How large a number of so many digits can be.
use Rattle.std.proofs.Common.{ℕ, ◌+◌, ◌*◌, ◌^◌, ◌<◌, ◌≤◌, arith, add-one, lit<}
use Rattle.std.proofs.Math.Nat.{pow-suc, pow-le-pow_right}

-- one more digit
pub more_digits : (value digit i : ℕ) → value < 10 ^ i → digit < 10 → value * 10 + digit < 10 ^ (i + 1)
more_digits value digit i h d = rw (add-one, pow-suc 10 i) (omega arith)

-- a number of at most 17 digits has room for another one
pub few_digits : (i : ℕ) → i < 18 → 10 ^ i ≤ 10 ^ 17
few_digits i h = let within : i ≤ 17 = omega arith in pow-le-pow_right (lit< tt) within
