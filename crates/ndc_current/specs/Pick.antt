-- The greatest of the tips of a workflow's runs.
use Rattle.std.specs.Prelude.{ℕ, ◌+◌, ◌≡◌, ◌⊎◌, true, List, [], ◌∷◌, Option, Some, None, slice_get, if◌then◌else◌}
use Rattle.ndc_event.specs.Key.{key_lt}
use Rattle.ndc_event.specs.declared.key.BatchKey.{BatchKey}

-- a key at a place, or a later one where that is greater
abbrev pub greater_of : ℕ × BatchKey → Option (ℕ × BatchKey) → Option (ℕ × BatchKey)
greater_of one None = Some one
greater_of one (Some other) = if key_lt one.1 other.1 then Some other else Some one

-- the greatest of these keys with its place, counted on from this place
abbrev pub pick_from : ℕ → List BatchKey → Option (ℕ × BatchKey)
pick_from place [] = None
pick_from place (key ∷ keys) = greater_of (place, key) (pick_from (place + 1) keys)

-- the place of what is found
abbrev pub place_of : Option (ℕ × BatchKey) → Option ℕ
place_of None = None
place_of (Some found) = Some found.0

-- the place of the greatest of these keys
abbrev pub pick_of : List BatchKey → Option ℕ
pick_of keys = place_of (pick_from 0 keys)

-- the key at a place is this one, and no key of the list is above it
pub record IsGreatestAt (keys : List BatchKey) (place : ℕ) (key : BatchKey) : Type 0 where
  pub there : slice_get keys place ≡ Some key
  pub top : (other : BatchKey) (at : ℕ) → slice_get keys at ≡ Some other → (other ≡ key) ⊎ (key_lt other key ≡ true)
