-- What calls do to the bytes that a source has left and a sink has written. A source or sink that does not
-- tell its bytes, which is None, promises nothing of them.
use Rattle.std.specs.Prelude.{◌≡◌, ℕ, ◌≤◌, List, ◌++◌, length, Option, Some, None}

-- what was left before begins with these bytes, and the rest is left after
abbrev pub Consumes : Option (List ℕ) → Option (List ℕ) → List ℕ → Type 0
Consumes None after bytes = Unit {0}
Consumes (Some before) after bytes = (rest : List ℕ) × (before ≡ bytes ++ rest) × (after ≡ Some rest)

-- at most n bytes were consumed
abbrev pub ConsumesAtMost : ℕ → Option (List ℕ) → Option (List ℕ) → Type 0
ConsumesAtMost n before after = (bytes : List ℕ) × (length bytes ≤ n) × Consumes before after bytes

-- these bytes were written after what was written before
abbrev pub Appends : Option (List ℕ) → Option (List ℕ) → List ℕ → Type 0
Appends None after bytes = Unit {0}
Appends (Some before) after bytes = after ≡ Some (before ++ bytes)

-- of the bytes, a prefix was written after what was written before, and the rest was not
abbrev pub Sent : Option (List ℕ) → Option (List ℕ) → List ℕ → List ℕ → Type 0
Sent before after bytes rest = (front : List ℕ) × (bytes ≡ front ++ rest) × Appends before after front

-- a prefix of the bytes was written, maybe none or all of them
abbrev pub AppendsFront : Option (List ℕ) → Option (List ℕ) → List ℕ → Type 0
AppendsFront before after bytes = (rest : List ℕ) × Sent before after bytes rest
