-- The dump that bytes are, or the first cause why they are not one.
use Rattle.std.specs.Prelude.{ℕ, ◌+◌, List, ◌++◌, length, codes, Option, Some, None, Result, Ok, Err}
use Rattle.std.specs.List.{flat_map}
use Rattle.ndc_event.specs.Outcome.{◌>>=◌}
use Rattle.ndc_model_sets.specs.View.{view_of}
use Rattle.ndc_model_sets.specs.declared.view.View.{View}
use Rattle.ndc_text.specs.Views.{run_state_lines}
use Rattle.ndc_dump.specs.declared.dump.Dump.{Dump}
use Rattle.ndc_dump_causes.specs.declared.error.DumpError.{DumpError}
use Rattle.ndc_dump_causes.specs.declared.error.DumpError.TheVariants.{Line}
use Rattle.ndc_dump_causes.specs.declared.error.LineCause.TheVariants.{BadView}
use Rattle.ndc_dump.specs.Batches.{batches_on, view_lines}
use Rattle.ndc_dump_causes.specs.Causes.{sound_or}
use Rattle.ndc_dump.specs.declared.frame.Heading.{Heading}
use Rattle.ndc_dump.specs.Frame.{heading_of, body_of}
use Rattle.ndc_dump.specs.Lines.{differ_at, lines_of}
use Rattle.ndc_dump.specs.Migrated.{standing_for}

-- the bytes after the batches of a view: its runs with their branches and states, and the last line
abbrev pub view_text : View → List ℕ
view_text view = flat_map run_state_lines view.runs ++ codes "end\n"

-- the view, where no line differs, or else the number of the first that does
abbrev pub shown_or : View → Option ℕ → Result View DumpError
shown_or view None = Ok view
shown_or view (Some number) = Err (Line number BadView)

-- the view of a set, where these lines, with numbers from this one on, are what it shows after its batches
unfoldable pub view_on : ℕ → List (List ℕ) → View → Result View DumpError
view_on number lines view = shown_or view (differ_at number lines (lines_of (view_text view)))

-- the dump of a workflow, its batches and the lines after them
abbrev pub dump_with : Heading → View → Dump
dump_with heading view = record { domain = heading.domain; workflow = heading.workflow; view = view }

-- the dump that these lines are
unfoldable pub dump_on : List (List ℕ) → Result Dump DumpError
dump_on lines = do
  heading ← heading_of lines
  body ← body_of lines
  batches ← batches_on heading 2 None body
  sound ← sound_or batches
  view ← view_on (2 + length batches) (view_lines body) (view_of (standing_for heading.form batches))
  Ok (dump_with heading view)

-- the dump that bytes are: frame and lines first, line by line, then what holds of the batches as a set, then the lines of the view
unfoldable pub dump_of : List ℕ → Result Dump DumpError
dump_of bytes = dump_on (lines_of bytes)
