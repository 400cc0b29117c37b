-- The first eight bytes of a name as one number: names that differ in it are ordered as it is.
use Rattle.std.specs.Prelude.{◌≡◌, ℕ, zero, suc, ◌+◌, ◌*◌, List, [], ◌∷◌, IsTrue}
use Rattle.std.specs.String.{string_bytes}
use Rattle.ndc_event.specs.Name.{is_name}
use Rattle.ndc_event.specs.declared.name.Spelled.{Spelled}

-- the next bytes as digits of 256 after a number, zeros where the text has ended
unfoldable pub digits : ℕ → ℕ → List ℕ → ℕ
digits number zero bytes = number
digits number (suc n) [] = digits (number * 256) n []
digits number (suc n) (byte ∷ bytes) = digits (number * 256 + byte) n bytes

-- the first eight bytes as one number, the first byte the highest
abbrev pub front_of : List ℕ → ℕ
front_of bytes = digits 0 8 bytes

-- what is kept of a name: its text is one, and its prefix is that of its text
pub record IsSpelled (spelled : Spelled) : Type 0 where
  pub is_name : IsTrue (is_name (string_bytes spelled.text))
  pub front : spelled.front ≡ front_of (string_bytes spelled.text)
