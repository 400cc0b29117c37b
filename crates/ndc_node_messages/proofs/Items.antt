-- The items of a history, as values and back.
use Rattle.std.proofs.Common.{◌≡◌, List, [], ◌∷◌, map, refl, ap}
use Rattle.ndc_history.specs.declared.item.Item.{Item}
use Rattle.ndc_node_messages.specs.Read.{item_of}
use Rattle.ndc_node_shapes.specs.Common.{item_shape, item_value}
use Rattle.ndc_node_shapes.specs.Shapes.{Value}

pub items_back : (items : List Item) → map item_of (map item_value items) ≡ items
items_back [] = refl
items_back (item ∷ items) = ap (λ (xs : List Item). item ∷ xs) (items_back items)

pub values_back : (values : List (Value item_shape)) → map item_value (map item_of values) ≡ values
values_back [] = refl
values_back (v ∷ values) = ap (λ (xs : List (Value item_shape)). v ∷ xs) (values_back values)
