-- Entries that a source has told its reader.
use Rattle.std.specs.Prelude.{ℕ, ◌+◌, Bool, true, ◌&&◌, nat_le, nat_lt, List, [], ◌∷◌}
use Rattle.std.specs.Str.{bytes_eq}
use Rattle.ndc_event.specs.Key.{key_eq}
use Rattle.ndc_event.specs.declared.key.BatchKey.{BatchKey}
use Rattle.ndc_event.specs.declared.name.Name.{Name}
use Rattle.ndc_node_lanes.specs.declared.told.Told.{Told}

-- whether an entry brings the batch of this key of a workflow
abbrev pub is_for : Name → Name → BatchKey → Told → Bool
is_for domain workflow key entry = key_eq entry.key key && bytes_eq entry.workflow workflow && bytes_eq entry.domain domain

-- whether entries are in turn: their places rise, from one number on, and are below another
abbrev pub are_in_turn : ℕ → ℕ → List Told → Bool
are_in_turn from next [] = true
are_in_turn from next (entry ∷ entries) = nat_le from entry.place && nat_lt entry.place next && are_in_turn (entry.place + 1) next entries
