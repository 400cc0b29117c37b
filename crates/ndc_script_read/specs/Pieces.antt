-- Texts that are cut between two lines.
use Rattle.std.specs.Prelude.{ℕ, ◌==◌, Bool, true, false, List, [], ◌∷◌, ◌++◌, Result, Ok}
use Rattle.ndc_event.specs.Outcome.{◌>>=◌}
use Rattle.ndc_script_types.specs.declared.script.Line.{Line}
use Rattle.ndc_script_types.specs.declared.script.Script.{Script}
use Rattle.ndc_script_types.specs.declared.script.ScriptError.{ScriptError}
use Rattle.ndc_script_words.specs.Text.{KeptLine}
use Rattle.ndc_script_words.specs.Header.{is_cluster_line}

-- the last line of a text, where there is one, has its line end
abbrev pub is_whole : List ℕ → Bool
is_whole [] = true
is_whole (byte ∷ []) = byte == 10
is_whole (byte ∷ next ∷ bytes) = is_whole (next ∷ bytes)

-- the first of the lines that are not skipped begins with the word `cluster`
abbrev pub begins_cluster : List KeptLine → Bool
begins_cluster [] = false
begins_cluster (line ∷ lines) = is_cluster_line line.words

-- lines that were read, with those that are read after them
abbrev pub with_front : List Line → Result (List Line) ScriptError → Result (List Line) ScriptError
with_front front rest = do
  lines ← rest
  Ok (front ++ lines)

-- a script with the lines that are read after its own
abbrev pub with_rest : Script → Result (List Line) ScriptError → Result Script ScriptError
with_rest script rest = do
  lines ← rest
  Ok (record { header = script.header; lines = script.lines ++ lines })
