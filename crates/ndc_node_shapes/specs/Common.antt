-- Shapes that occur in many texts.
use Rattle.std.specs.Prelude.{◌^◌, codes}
use Rattle.ndc_event.specs.declared.key.BatchKey.{BatchKey}
use Rattle.ndc_history.specs.declared.item.Item.{Item}
use Rattle.ndc_node_shapes.specs.Shapes.{Shape, number, object, next, end, Value}

-- an event id or a task
abbrev pub id : Shape
id = number 1 (10 ^ 12)

-- a version
abbrev pub version : Shape
version = number 0 (10 ^ 13)

-- the key of a batch
abbrev pub key_shape : Shape
key_shape = object (codes "task") id (next (codes "version") version end)

abbrev pub key_value : BatchKey → Value key_shape
key_value key = (key.task, (key.version, tt))

-- the last event id of a version
abbrev pub item_shape : Shape
item_shape = object (codes "id") id (next (codes "version") version end)

abbrev pub item_value : Item → Value item_shape
item_value item = (item.id, (item.version, tt))
