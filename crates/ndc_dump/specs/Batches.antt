-- The batches of a dump, read line by line.
use Rattle.std.specs.Prelude.{ℕ, suc, ◌+◌, Bool, false, not, ◌&&◌, List, [], ◌∷◌, ◌++◌, Option, Some, None, Result, Ok, Err, if◌then◌else◌}
use Rattle.std.specs.Str.{bytes_eq}
use Rattle.ndc_event.specs.Key.{key_eq, key_lt}
use Rattle.ndc_event.specs.Outcome.{◌>>=◌}
use Rattle.ndc_event.specs.declared.batch.Batch.{Batch}
use Rattle.ndc_event.specs.declared.key.BatchKey.{BatchKey}
use Rattle.ndc_text.specs.Read.{read_of}
use Rattle.ndc_text.specs.declared.error.TextError.{TextError}
use Rattle.ndc_text.specs.declared.error.TextError.TheVariants as text
use Rattle.ndc_dump_causes.specs.declared.error.DumpError.{DumpError}
use Rattle.ndc_dump_causes.specs.declared.error.DumpError.TheVariants as dump
use Rattle.ndc_dump_causes.specs.declared.error.LineCause.{LineCause}
use Rattle.ndc_dump_causes.specs.declared.error.LineCause.TheVariants as cause
use Rattle.ndc_dump.specs.declared.frame.Heading.{Heading}
use Rattle.ndc_dump.specs.Frame.{begins_batch}
use Rattle.ndc_dump.specs.Lines.{without_end}

-- why the text of a line is not that of a batch, as the fault of the line with this number
abbrev pub text_fault : ℕ → TextError → DumpError
text_fault number text.NotJson = dump.Line number cause.NotJson
text_fault number text.MissingKey = dump.Line number cause.MissingKey
text_fault number text.WrongKind = dump.Line number cause.WrongKind
text_fault number text.ExtraKey = dump.Line number cause.ExtraKey
text_fault number text.Range = dump.Line number cause.Range
text_fault number text.NotCanonical = dump.Line number cause.NotCanonical
text_fault number (text.Check fault) = dump.Line number (cause.Check fault)
text_fault number text.Memory = dump.Memory

-- the batch, or the fault of the line
abbrev pub on_line : ℕ → Result Batch TextError → Result Batch DumpError
on_line number (Ok b) = Ok b
on_line number (Err error) = Err (text_fault number error)

-- whether a batch is of the heading's domain and workflow
abbrev pub is_own : Heading → Batch → Bool
is_own heading b = bytes_eq b.domain heading.domain && bytes_eq b.workflow heading.workflow

-- whether a key is that of the line before, or comes before it
abbrev pub is_same_as : BatchKey → Option BatchKey → Bool
is_same_as key None = false
is_same_as key (Some last) = key_eq key last

abbrev pub is_behind : BatchKey → Option BatchKey → Bool
is_behind key None = false
is_behind key (Some last) = key_lt key last

-- what is wrong with a batch that was read, where something is: it is of another workflow, or does not come after the one before
abbrev pub out_of_order : Heading → Option BatchKey → Batch → Option LineCause
out_of_order heading last b =
    if not (is_own heading b) then Some cause.Foreign
    else if is_same_as b.key last then Some cause.SameKey
    else if is_behind b.key last then Some cause.BadOrder
    else None

-- the batch, or the fault of the line with this number
abbrev pub placed_or : ℕ → Batch → Option LineCause → Result Batch DumpError
placed_or number b None = Ok b
placed_or number b (Some fault) = Err (dump.Line number fault)

-- the batch of the line with this number, after the batch with the last key
unfoldable pub batch_on : Heading → ℕ → Option BatchKey → List ℕ → Result Batch DumpError
batch_on heading number last line = do
  b ← on_line number (read_of heading.form (without_end line))
  placed_or number b (out_of_order heading last b)

-- the batches after the first ones
abbrev pub behind : List Batch → Result (List Batch) DumpError → Result (List Batch) DumpError
behind front (Ok batches) = Ok (front ++ batches)
behind front (Err error) = Err error

-- the batches of the lines, up to the first line that is not a batch's
abbrev pub batches_on : Heading → ℕ → Option BatchKey → List (List ℕ) → Result (List Batch) DumpError
batches_on heading number last [] = Ok []
batches_on heading number last (line ∷ lines) =
    if begins_batch line
    then batch_on heading number last line >>= (λ b. behind (b ∷ []) (batches_on heading (number + 1) (Some b.key) lines))
    else Ok []

-- the lines after those of batches
abbrev pub view_lines : List (List ℕ) → List (List ℕ)
view_lines [] = []
view_lines (line ∷ lines) = if begins_batch line then view_lines lines else line ∷ lines

-- how many lines stand before the first that is not a batch's
abbrev pub batch_count : List (List ℕ) → ℕ
batch_count [] = 0
batch_count (line ∷ lines) = if begins_batch line then suc (batch_count lines) else 0
