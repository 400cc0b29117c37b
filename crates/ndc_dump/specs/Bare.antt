-- Dumps that are read of the heading and the batches alone.
use Rattle.std.specs.Prelude.{ℕ, ◌+◌, List, [], ◌++◌, length, codes, None, Result, Ok}
use Rattle.std.specs.List.{flat_map}
use Rattle.ndc_event.specs.Outcome.{◌>>=◌}
use Rattle.ndc_event.specs.declared.batch.Batch.{Batch}
use Rattle.ndc_event.specs.declared.name.Name.{Name}
use Rattle.ndc_model_sets.specs.View.{view_of}
use Rattle.ndc_text.specs.Text.{batch_text}
use Rattle.ndc_dump_causes.specs.Causes.{sound_or}
use Rattle.ndc_dump_causes.specs.declared.error.DumpError.{DumpError}
use Rattle.ndc_dump.specs.Batches.{batches_on, view_lines}
use Rattle.ndc_dump.specs.Frame.{heading_of, body_of}
use Rattle.ndc_dump.specs.Lines.{differ_at, lines_of}
use Rattle.ndc_dump.specs.Migrated.{standing_for}
use Rattle.ndc_dump.specs.Read.{dump_with, shown_or}
use Rattle.ndc_dump.specs.declared.dump.Dump.{Dump}

-- the dump whose heading and batches these lines are, with no line after them
unfoldable pub bare_dump_on : List (List ℕ) → Result Dump DumpError
bare_dump_on lines = do
  heading ← heading_of lines
  body ← body_of lines
  batches ← batches_on heading 2 None body
  sound ← sound_or batches
  view ← shown_or (view_of (standing_for heading.form batches)) (differ_at (2 + length batches) (view_lines body) [])
  Ok (dump_with heading view)

-- the dump whose heading and batches bytes are
unfoldable pub bare_dump_of : List ℕ → Result Dump DumpError
bare_dump_of bytes = bare_dump_on (lines_of bytes)
