-- How two keys compare.
use Rattle.std.proofs.Common.{◌≡◌, ℕ, not, nat_lt, ◌&&◌, ◌||◌, ◌==◌, if◌then◌else◌, arith}
use Rattle.std.proofs.lemmas.Bool.Decides.{nat_tests}
use Rattle.std.specs.Ordering.{nat_cmp, ordering_then, is_eq, is_le}
use Rattle.std.specs.declared.cmp.Ordering.{Ordering}
use Rattle.std.specs.declared.cmp.Ordering.TheVariants.{Less, Equal, Greater}
use Rattle.ndc_event.specs.Key.{key_lt, key_eq}
use Rattle.ndc_event.specs.declared.key.BatchKey.{BatchKey}

-- how two keys compare
abbrev pub key_cmp : BatchKey → BatchKey → Ordering
key_cmp one two = if key_lt one two then Less else if key_eq one two then Equal else Greater

numbers-cmp : (a b x y : ℕ) → ordering_then (nat_cmp a x) (nat_cmp b y)
    ≡ (if nat_lt a x || (a == x) && nat_lt b y then Less else if (a == x) && (b == y) then Equal else Greater)
numbers-cmp a b x y = grind (arith, nat_tests)

-- by version, then by task
pub key_cmp-by : (one two : BatchKey) → ordering_then (nat_cmp one.version two.version) (nat_cmp one.task two.task) ≡ key_cmp one two
key_cmp-by one two = numbers-cmp one.version one.task two.version two.task

numbers-same : (a b x y : ℕ) → is_eq (if nat_lt a x || (a == x) && nat_lt b y then Less else if (a == x) && (b == y) then Equal else Greater) ≡ ((x == a) && (y == b))
numbers-same a b x y = grind (arith, nat_tests)

-- keys that compare as one are one
pub key_cmp-same : (key other : BatchKey) → is_eq (key_cmp key other) ≡ key_eq other key
key_cmp-same key other = numbers-same key.version key.task other.version other.task

numbers-from : (a b x y : ℕ) → is_le (if nat_lt a x || (a == x) && nat_lt b y then Less else if (a == x) && (b == y) then Equal else Greater) ≡ not (nat_lt x a || (x == a) && nat_lt y b)
numbers-from a b x y = grind (arith, nat_tests)

pub key_cmp-from : (key other : BatchKey) → is_le (key_cmp key other) ≡ not (key_lt other key)
key_cmp-from key other = numbers-from key.version key.task other.version other.task
