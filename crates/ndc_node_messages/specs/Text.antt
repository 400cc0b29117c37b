-- The text of a message.
use Rattle.std.specs.Prelude.{◌≡◌, ℕ, List, [], ◌∷◌, ◌++◌, Option, Some, None, codes, map, IsTrue, ⊤}
use Rattle.ndc_event.specs.Batch.{fault_of}
use Rattle.ndc_event.specs.declared.batch.Batch.{Batch}
use Rattle.ndc_history.specs.History.{rises}
use Rattle.ndc_history.specs.declared.item.Item.{Item}
use Rattle.ndc_model_cells.specs.declared.message.Message.{Message}
use Rattle.ndc_node_shapes.specs.Bytes.{first_key, next_key}
use Rattle.ndc_node_shapes.specs.Common.{item_shape, item_value}
use Rattle.ndc_node_shapes.specs.Fits.{Fits}
use Rattle.ndc_node_shapes.specs.Shapes.{Shape, list, Value}
use Rattle.ndc_node_shapes.specs.Text.{text_of}
use Rattle.ndc_text.specs.Ranges.{InRange}
use Rattle.ndc_text.specs.Text.{batch_text}

-- a version history
abbrev pub history_shape : Shape
history_shape = list item_shape

abbrev pub history_value : List Item → Value history_shape
history_value items = map item_value items

-- a batch, or `null`
abbrev pub second_text : Option Batch → List ℕ
second_text None = codes "null"
second_text (Some b) = batch_text b

-- the text of a message
abbrev pub message_text : Message → List ℕ
message_text sent =
    first_key (codes "batch") ++ batch_text sent.batch ++ next_key (codes "history") ++ text_of history_shape (history_value sent.history) ++ next_key (codes "second")
    ++ second_text sent.second ++ 125 ∷ []

-- a batch whose numbers are in range, and that has no fault
pub record IsWhole (b : Batch) : Type 0 where
  pub range : InRange b
  pub whole : fault_of b ≡ None

-- one, where it is there
abbrev pub IsWholeIfThere : Option Batch → Type 0
IsWholeIfThere None = ⊤
IsWholeIfThere (Some b) = IsWhole b

-- the batches of a message are whole; its history rises, with ids 1 to 10^12 and versions of at most 10^13
pub record MessageFits (sent : Message) : Type 0 where
  pub batch : IsWhole sent.batch
  pub history : Fits history_shape (history_value sent.history)
  pub rises : IsTrue (rises sent.history)
  pub second : IsWholeIfThere sent.second
