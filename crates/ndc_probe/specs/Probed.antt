-- What is told of a script that is run: its report, with the answers to its questions and what is told unasked.
use Rattle.std.specs.Prelude.{ℕ, Bool, nat_lt, List, [], ◌∷◌, ◌++◌, drop, take}
use Rattle.std.specs.List.{flat_map, prefix_len}
use Rattle.ndc_model.specs.Bare.{bare}
use Rattle.ndc_model.specs.Lines.{answers_of, world_behind}
use Rattle.ndc_script_types.specs.declared.script.Line.{Line}
use Rattle.ndc_script_types.specs.declared.script.Script.{Script}
use Rattle.ndc_script_words.specs.Text.{KeptLine}
use Rattle.ndc_world.specs.Rest.{opening_of}
use Rattle.ndc_world.specs.Running.{Running, behind_line, ran_at}
use Rattle.ndc_probe.specs.Answers.{answer_to}
use Rattle.ndc_probe.specs.Comments.{commented}
use Rattle.ndc_probe.specs.Notices.{noticed}

-- a part of it: what a line answers, or what is told beside it
pub data Part : Type 0 where
  Told : List ℕ → Part
  Beside : List ℕ → Part

-- the text of a part: what is told beside stands in comments
abbrev pub part_text : Part → List ℕ
part_text (Told text) = text
part_text (Beside text) = commented text

abbrev pub text_of : List Part → List ℕ
text_of parts = flat_map part_text parts

-- what lines answer in a part
abbrev pub told_in : Part → List ℕ
told_in (Told text) = text
told_in (Beside text) = []

-- of some parts what lines answer
abbrev pub told_of_lines : List Part → List ℕ
told_of_lines parts = flat_map told_in parts

-- whether a question stands above a line of this number
abbrev pub stands_above : ℕ → KeptLine → Bool
stands_above number asked = nat_lt asked.number number

-- the questions that stand above a line of this number, and the others
abbrev pub above : ℕ → List KeptLine → List KeptLine
above number asked = take (prefix_len (stands_above number) asked) asked

abbrev pub below : ℕ → List KeptLine → List KeptLine
below number asked = drop (prefix_len (stands_above number) asked) asked

-- the answers to questions where a script runs: of its clusters, which keep no progress reports
abbrev pub answers_to : Running → List KeptLine → List ℕ
answers_to running asked = flat_map (answer_to running.header (bare running.world)) asked

-- what is told unasked after a line
abbrev pub noticed_behind : Running → Line → List ℕ
noticed_behind running line = noticed running.header line.act (bare (world_behind running.world (ran_at running line)))

-- what is told of lines that are left, and of the questions that are left: before each line what is asked above it, and after the last the rest
abbrev pub parts_of : Running → List Line → List KeptLine → List Part
parts_of running [] asked = Beside (answers_to running asked) ∷ []
parts_of running (line ∷ lines) asked =
    Beside (answers_to running (above line.number asked)) ∷ Told (answers_of (ran_at running line)) ∷ Beside (noticed_behind running line)
    ∷ parts_of (behind_line running line) lines (below line.number asked)

-- what is written where a line runs
abbrev pub line_text : Running → Line → List KeptLine → List ℕ
line_text running line asked = commented (answers_to running asked) ++ (answers_of (ran_at running line) ++ commented (noticed_behind running line))

-- what is told of a script with these questions
abbrev pub probed : Script → List KeptLine → List Part
probed script asked = parts_of (opening_of script) script.lines asked
