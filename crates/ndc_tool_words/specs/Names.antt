-- Lists of names among the words.
use Rattle.std.specs.Prelude.{ℕ, Bool, false, ◌&&◌, ◌==◌, not, Option, None, Some, List, [], ◌∷◌, ◌++◌, if◌then◌else◌}
use Rattle.std.specs.List.{list_any, slice_split}
use Rattle.std.specs.Str.{bytes_eq}
use Rattle.ndc_event.specs.Name.{is_name}

-- the name stands in the list
abbrev pub stands_in : List (List ℕ) → List ℕ → Bool
stands_in names name = list_any (λ other. bytes_eq other name) names

-- names and these texts after them, where each text is a name that stands nowhere before it
abbrev pub names_on : List (List ℕ) → List (List ℕ) → Option (List (List ℕ))
names_on names [] = Some names
names_on names (text ∷ texts) = if is_name text && not (stands_in names text) then names_on (names ++ text ∷ []) texts else None

-- the text begins with `-`
abbrev pub begins_with_dash : List ℕ → Bool
begins_with_dash [] = false
begins_with_dash (byte ∷ bytes) = byte == 45

-- the names that a text is: separated by single commas, all different
unfoldable pub names_of : List ℕ → Option (List (List ℕ))
names_of text = if begins_with_dash text then None else names_on [] (slice_split (λ byte. byte == 44) text)

-- a name stands in both lists
abbrev pub share_a_name : List (List ℕ) → List (List ℕ) → Bool
share_a_name names others = list_any (stands_in others) names
