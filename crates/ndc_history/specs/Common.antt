-- What two version histories have in common.
use Rattle.std.specs.Prelude.{ℕ, ◌+◌, min, ◌==◌, nat_lt, List, [], ◌∷◌, Option, Some, None, if◌then◌else◌}
use Rattle.ndc_history.specs.declared.item.Item.{Item}

-- the id that a history has for a version
abbrev pub id_of : ℕ → List Item → Option ℕ
id_of version [] = None
id_of version (item ∷ items) = if item.version == version then Some item.id else id_of version items

-- an item with the smaller of its id and another, where there is another, before the items
abbrev pub with_smaller : Item → Option ℕ → List Item → List Item
with_smaller item None items = items
with_smaller item (Some id) items = record { id = min item.id id; version = item.version } ∷ items

-- the versions that stand in both histories, each with the smaller of the two ids
abbrev pub shared : List Item → List Item → List Item
shared [] two = []
shared (item ∷ items) two = with_smaller item (id_of item.version two) (shared items two)

-- the one with the greater version
abbrev pub greater : Item → Option Item → Option Item
greater item None = Some item
greater item (Some other) = if nat_lt item.version other.version then Some other else Some item

-- the item with the greatest version
abbrev pub greatest : List Item → Option Item
greatest [] = None
greatest (item ∷ items) = greater item (greatest items)

-- the greatest version that stands in both histories, with the smaller of the two ids
abbrev pub common_of : List Item → List Item → Option Item
common_of one two = greatest (shared one two)

-- what a place has in common, or what a later place has with a greater id
abbrev pub better : ℕ → Option Item → Option (ℕ × Item) → Option (ℕ × Item)
better place None later = later
better place (Some item) None = Some (place, item)
better place (Some item) (Some later) = if nat_lt item.id later.1.id then Some later else Some (place, item)

-- the place, counted on, with the greatest common id, the first at a tie
abbrev pub best_from : ℕ → List (List Item) → List Item → Option (ℕ × Item)
best_from place [] remote = None
best_from place (history ∷ histories) remote = better place (common_of history remote) (best_from (place + 1) histories remote)

-- an item, or the one before all
abbrev pub item_or_zero : Option Item → Item
item_or_zero None = record { id = 0; version = 0 }
item_or_zero (Some item) = item
