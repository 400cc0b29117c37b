-- The batch that a text is, or why it is not one.
use Rattle.std.specs.Prelude.{ℕ, List, Option, Some, None, Result, Ok, Err, if◌then◌else◌}
use Rattle.std.specs.Str.{bytes_eq, is_utf8}
use Rattle.serde_json.specs.Data.{Data}
use Rattle.serde_json.specs.Read.{read}
use Rattle.ndc_event.specs.Batch.{fault_of}
use Rattle.ndc_event.specs.Outcome.{◌>>=◌}
use Rattle.ndc_event.specs.declared.batch.Batch.{Batch}
use Rattle.ndc_event.specs.declared.batch.BatchFault.{BatchFault}
use Rattle.ndc_text.specs.Text.{batch_text}
use Rattle.ndc_text.specs.Walk.{wanted, batch_at}
use Rattle.ndc_text.specs.declared.error.TextError.{TextError}
use Rattle.ndc_text.specs.declared.error.TextError.TheVariants.{NotJson, NotCanonical, Check}
use Rattle.ndc_text.specs.declared.form.TextForm.{TextForm}

-- the JSON value that the bytes are, nested at most 127 deep
abbrev pub json_at : List ℕ → Result Data TextError
json_at bytes = if is_utf8 bytes then wanted NotJson (read bytes) else Err NotJson

-- the batch, where it is printed as these bytes
abbrev pub canonical : List ℕ → Batch → Result Batch TextError
canonical bytes b = if bytes_eq bytes (batch_text b) then Ok b else Err NotCanonical

-- the batch, where it has no fault
abbrev pub checked_by : Batch → Option BatchFault → Result Batch TextError
checked_by b None = Ok b
checked_by b (Some fault) = Err (Check fault)

-- the batch that a text of this form is
unfoldable pub read_of : TextForm → List ℕ → Result Batch TextError
read_of form bytes = do
  d ← json_at bytes
  b ← batch_at form d
  b ← canonical bytes b
  checked_by b (fault_of b)
