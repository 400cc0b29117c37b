-- Items that may be shared.
use Rattle.std.specs.Prelude.{List, [], Option, Some, None}
use Rattle.std.specs.Arc.{arc_value}
use Rattle.std.specs.declared.sync.Arc.{Arc}
use Rattle.ndc_history.specs.declared.item.Item.{Item}

-- the items that are shared, and none where nothing is
abbrev pub items_shared : {S : Type 0} → Option (Arc (List Item) S) → List Item
items_shared None = []
items_shared (Some shared) = arc_value shared
