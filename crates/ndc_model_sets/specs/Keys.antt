-- Lists of keys.
use Rattle.std.specs.Prelude.{Bool, List, [], ◌∷◌, if◌then◌else◌, false, Option, Some, None}
use Rattle.std.specs.List.{list_any}
use Rattle.std.specs.Set.{remove_key}
use Rattle.ndc_event.specs.Key.{key_lt, key_eq}
use Rattle.ndc_event.specs.declared.key.BatchKey.{BatchKey}

-- whether the key is one of these
abbrev pub is_key_among : BatchKey → List BatchKey → Bool
is_key_among key keys = list_any (λ other. key_eq other key) keys

-- the key at its place among ascending ones, where it is not there
abbrev pub with_key : BatchKey → List BatchKey → List BatchKey
with_key key [] = key ∷ []
with_key key (other ∷ keys) = if key_lt key other then key ∷ other ∷ keys else if key_eq key other then other ∷ keys else other ∷ with_key key keys

-- the keys but for this one
abbrev pub without_key : BatchKey → List BatchKey → List BatchKey
without_key key keys = remove_key (λ other. key_eq other key) keys

-- whether the key is this one, where there is one
abbrev pub is_key : BatchKey → Option BatchKey → Bool
is_key key None = false
is_key key (Some other) = key_eq key other
