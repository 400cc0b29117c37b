-- Version histories: for each version on a path, in order, the last event id written with it.
use Rattle.std.specs.Prelude.{◌-◌, Bool, true, false, not, ◌&&◌, ◌||◌, ◌==◌, nat_lt, List, [], ◌∷◌, ◌++◌, length, slice_get, slice_set, Option, Some, None, Result, Ok, Err, if◌then◌else◌}
use Rattle.ndc_history.specs.declared.item.Item.{Item}
use Rattle.ndc_history.specs.declared.item.AddError.{AddError}
use Rattle.ndc_history.specs.declared.item.AddError.TheVariants.{NotAfter}

-- ids and versions rise strictly from an item on
abbrev pub rise_from : Item → List Item → Bool
rise_from last [] = true
rise_from last (item ∷ items) = (nat_lt last.id item.id && nat_lt last.version item.version) && rise_from item items

-- ids and versions rise strictly
abbrev pub rises : List Item → Bool
rises [] = true
rises (item ∷ items) = rise_from item items

-- the last item
abbrev pub last_item : List Item → Option Item
last_item items = slice_get items (length items - 1)

-- whether two items are one
abbrev pub same_item : Item → Item → Bool
same_item one two = (one.id == two.id) && (one.version == two.version)

-- whether the item is the last, where there is one
abbrev pub is_last : Item → Option Item → Bool
is_last item None = false
is_last item (Some last) = same_item last item

-- a history with an item after this last one: an equal version has its id replaced, a greater one goes last
abbrev pub added_behind : Option Item → List Item → Item → Result (List Item) AddError
added_behind None items item = Ok (item ∷ [])
added_behind (Some last) items item =
    if not (nat_lt last.id item.id) || nat_lt item.version last.version then Err NotAfter
    else if item.version == last.version then Ok (slice_set items (length items - 1) item)
    else Ok (items ++ item ∷ [])

-- a history with the item added
abbrev pub added : List Item → Item → Result (List Item) AddError
added items item = added_behind (last_item items) items item
