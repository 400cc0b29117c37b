-- Values that are mostly absent, each in a box.
use Rattle.std.specs.Prelude.{Box, Option, Some, None}

-- what is in the box, where there is one
abbrev pub unboxed : {T S : Type 0} → Option (Box T S) → Option T
unboxed None = None
unboxed (Some box) = Some box.value

-- the one is a clone of the other: both are absent, or the value is a clone
abbrev pub IsOptionClone : {T : Type 0} → (T → T → Type 0) → Option T → Option T → Type 0
IsOptionClone is_clone None None = Unit {0}
IsOptionClone is_clone (Some value) (Some copy) = is_clone value copy
IsOptionClone is_clone _ _ = ⊥
