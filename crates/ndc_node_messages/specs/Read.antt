-- The message that a text is, or why it is not one.
use Rattle.std.specs.Prelude.{ℕ, List, [], ◌∷◌, codes, length, map, Bool, true, false, Option, Some, None, Result, Ok, Err}
use Rattle.ndc_event.specs.Outcome.{◌>>=◌}
use Rattle.ndc_event.specs.declared.batch.Batch.{Batch}
use Rattle.ndc_history.specs.History.{rises}
use Rattle.ndc_history.specs.declared.item.Item.{Item}
use Rattle.ndc_model_cells.specs.declared.message.Message.{Message}
use Rattle.ndc_node_messages.specs.Text.{history_shape}
use Rattle.ndc_node_messages.specs.declared.error.MessageError.{MessageError}
use Rattle.ndc_node_messages.specs.declared.error.MessageError.TheVariants as error
use Rattle.ndc_node_shapes.specs.Bytes.{after, expect, first_key, next_key}
use Rattle.ndc_node_shapes.specs.Objects.{object_at}
use Rattle.ndc_node_shapes.specs.Read.{read_of}
use Rattle.ndc_node_shapes.specs.declared.fault.Cause.TheVariants.{Unexpected}
use Rattle.ndc_node_shapes.specs.declared.fault.Fault.{Fault}
use Rattle.ndc_node_shapes.specs.declared.fault.Fault.TheVariants.{At, Memory}
use Rattle.ndc_text.specs.Read.{read_of as batch_of}
use Rattle.ndc_text.specs.declared.error.TextError.{TextError}
use Rattle.ndc_text.specs.declared.form.TextForm.TheVariants.{Two}

-- a fault of the form
abbrev pub of_fault : Fault → MessageError
of_fault (At cause left) = error.Form cause left
of_fault Memory = error.Memory

abbrev pub formed : {A : Type 0} → Result A Fault → Result A MessageError
formed (Ok x) = Ok x
formed (Err fault) = Err (of_fault fault)

-- a batch that was read, with the bytes that are left then
abbrev pub batch_or : List ℕ → List ℕ → Result Batch TextError → Result (Batch × List ℕ) MessageError
batch_or left rest (Ok b) = Ok (b, rest)
batch_or left rest (Err e) = Err (error.Batch e (length left))

-- a batch
abbrev pub batch_at : List ℕ → Result (Batch × List ℕ) MessageError
batch_at left = do
  r ← formed (object_at left)
  batch_or left r.1 (batch_of Two r.0)

-- nothing after `null`, or else a batch
abbrev pub unless_null : Option (List ℕ) → List ℕ → Result (Option Batch × List ℕ) MessageError
unless_null (Some rest) left = Ok (None, rest)
unless_null None left = do
  b ← batch_at left
  Ok (Some b.0, b.1)

abbrev pub second_at : List ℕ → Result (Option Batch × List ℕ) MessageError
second_at left = unless_null (after (codes "null") left) left

-- nothing is left after the closing bracket
abbrev pub ended : List ℕ → Result (Unit {0}) MessageError
ended [] = Ok tt
ended (b ∷ bytes) = Err (error.Form Unexpected (length (b ∷ bytes)))

-- the items of a history
abbrev pub item_of : ℕ × (ℕ × Unit {0}) → Item
item_of v = record { id = v.0; version = v.1.0 }

-- a message of these parts, where its history rises
abbrev pub with_history : Batch → List Item → Option Batch → Bool → Result Message MessageError
with_history b items second true = Ok (record { batch = b; history = items; second = second })
with_history b items second false = Err error.History

-- the message that a text is
unfoldable pub message_at : List ℕ → Result Message MessageError
message_at bytes = do
  left ← formed (expect (first_key (codes "batch")) bytes)
  batch ← batch_at left
  left ← formed (expect (next_key (codes "history")) batch.1)
  history ← formed (read_of history_shape left)
  left ← formed (expect (next_key (codes "second")) history.1)
  second ← second_at left
  left ← formed (expect (125 ∷ []) second.1)
  _ ← ended left
  with_history batch.0 (map item_of history.0) second.0 (rises (map item_of history.0))
