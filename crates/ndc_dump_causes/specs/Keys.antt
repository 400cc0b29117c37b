-- Keys of batches that are listed.
use Rattle.std.specs.Prelude.{Bool, List, [], ◌∷◌, ◌++◌, if◌then◌else◌}
use Rattle.std.specs.List.{list_any}
use Rattle.ndc_event.specs.Key.{key_eq}
use Rattle.ndc_event.specs.declared.key.BatchKey.{BatchKey}

-- whether the key is listed
abbrev pub is_listed : BatchKey → List BatchKey → Bool
is_listed key keys = list_any (key_eq key) keys

-- the key goes last, where it is not listed
abbrev pub with_key : BatchKey → List BatchKey → List BatchKey
with_key key keys = if is_listed key keys then keys else keys ++ key ∷ []
