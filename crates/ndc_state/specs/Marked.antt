-- Values that know what they were at a mark.
use Rattle.std.specs.Prelude.{Box, List, [], Option, Some, None}

-- a value as it is, and as it was at the last mark
pub record Marked (A : Type 0) : Type 0 where
  pub current : A
  pub marked : A

-- the list in a box, and nothing where there is no box
abbrev pub boxed_or_nothing : {X S : Type 0} → Option (Box (Marked (List X)) S) → Marked (List X)
boxed_or_nothing None = record { current = []; marked = [] }
boxed_or_nothing (Some box) = box.value
