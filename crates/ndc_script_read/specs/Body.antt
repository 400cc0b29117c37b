-- The lines of a script's body, bursts, and the script that bytes are.
use Rattle.std.specs.Prelude.{ℕ, zero, suc, Bool, false, Option, None, Some, List, [], ◌∷◌, Result, Ok, codes, if◌then◌else◌}
use Rattle.std.specs.Str.{bytes_eq}
use Rattle.ndc_script_types.specs.Print.{lines_within}
use Rattle.ndc_event.specs.Outcome.{◌>>=◌}
use Rattle.ndc_script_types.specs.declared.script.Act.{Act}
use Rattle.ndc_script_types.specs.declared.script.Act.TheVariants as act
use Rattle.ndc_script_types.specs.declared.script.BurstJob.{BurstJob}
use Rattle.ndc_script_types.specs.declared.script.Header.{Header}
use Rattle.ndc_script_types.specs.declared.script.Line.{Line}
use Rattle.ndc_script_types.specs.declared.script.Script.{Script}
use Rattle.ndc_script_types.specs.declared.script.ScriptCause.TheVariants.{BadLine, LineLimit}
use Rattle.ndc_script_types.specs.declared.script.ScriptError.{ScriptError}
use Rattle.ndc_script_words.specs.declared.text.Reading.{Reading}
use Rattle.ndc_script_words.specs.declared.text.Reading.TheVariants.{Readable, Unreadable, PastLimit}
use Rattle.ndc_script_words.specs.declared.verb.CommandVerb.{CommandVerb}
use Rattle.ndc_script_words.specs.declared.verb.Verb.{Verb}
use Rattle.ndc_script_words.specs.declared.verb.Verb.TheVariants as verb
use Rattle.ndc_script_words.specs.Text.{KeptLine, kept_from, kept_of, line_after, line_behind, text_lines}
use Rattle.ndc_script_words.specs.Header.{refused, HeaderRead, header_of}
use Rattle.ndc_script_words.specs.Operands.{named, known}
use Rattle.ndc_script_read.specs.Commands.{command_of, command_line}
use Rattle.ndc_script_read.specs.Register.{register_line}
use Rattle.ndc_script_words.specs.Verbs.{verb_of}
use Rattle.ndc_script_read.specs.Lines.{cluster_line, pair_line, domain_line, retain_line, target_line, handover_line, levels_line, place_line, pull_line, places_line, settle_line, workflow_line, compare_line, reset_line, beat_line, progress_line}

-- the job of a command line, after the workflow
unfoldable pub job_at : ℕ → CommandVerb → List ℕ → List ℕ → List (List ℕ) → Result BurstJob ScriptError
job_at line verb domain workflow operands = do
  command ← command_of line verb operands
  domain ← named line domain
  workflow ← named line workflow
  Ok (record { number = line; domain = domain; workflow = workflow; command = command })

-- the job of a command line at the cluster of this name, after its first word
unfoldable pub job_line : List ℕ → ℕ → CommandVerb → List (List ℕ) → Result BurstJob ScriptError
job_line name line verb (cluster ∷ domain ∷ workflow ∷ operands) =
    if bytes_eq cluster name then job_at line verb domain workflow operands else refused line BadLine
job_line name line verb _ = refused line BadLine

-- the job of a line of a burst, by what its first word begins: command lines alone stand in a burst
abbrev pub job_by : List ℕ → ℕ → Option Verb → List (List ℕ) → Result BurstJob ScriptError
job_by name line (Some (verb.Command command)) words = job_line name line command words
job_by name line _ words = refused line BadLine

-- the job that words are, by the first
unfoldable pub words_job : List ℕ → ℕ → List (List ℕ) → Result BurstJob ScriptError
words_job name line [] = refused line BadLine
words_job name line (word ∷ words) = job_by name line (verb_of word) words

-- the job of a line of a burst, by how it can be read
abbrev pub job_read : List ℕ → ℕ → Reading → List (List ℕ) → Result BurstJob ScriptError
job_read name line PastLimit words = refused line LineLimit
job_read name line Unreadable words = refused line BadLine
job_read name line Readable words = words_job name line words

-- the words are the one word `end`
abbrev pub are_end : List (List ℕ) → Bool
are_end (word ∷ []) = bytes_eq word (codes "end")
are_end _ = false

-- the line ends a burst
abbrev pub is_end : Reading → List (List ℕ) → Bool
is_end Readable words = are_end words
is_end Unreadable words = false
is_end PastLimit words = false

-- the jobs of a burst at the cluster of this name, up to its line `end`; a text ends at the line after the last
unfoldable pub jobs_of : ℕ → List ℕ → List KeptLine → Result (List BurstJob) ScriptError
jobs_of end name [] = refused end BadLine
jobs_of end name (line ∷ lines) =
    if is_end line.reading line.words then Ok []
    else do
      job ← job_read name line.number line.reading line.words
      more ← jobs_of end name lines
      Ok (job ∷ more)

-- `burst C`, by its words after the first and the lines after it
unfoldable pub burst_line : Header → ℕ → ℕ → List (List ℕ) → List KeptLine → Result Act ScriptError
burst_line header end line (name ∷ []) lines = do
  cluster ← known header line name
  jobs ← jobs_of end name lines
  Ok (act.Burst cluster jobs)
burst_line header end line _ lines = refused line BadLine

-- the line that begins with a verb, by its words after the first and the lines after it
unfoldable pub verb_act : Header → ℕ → ℕ → Verb → List (List ℕ) → List KeptLine → Result Act ScriptError
verb_act header end line (verb.Command command) words lines = command_line header line command words
verb_act header end line verb.Burst words lines = burst_line header end line words lines
verb_act header end line verb.Register words lines = register_line header line words
verb_act header end line verb.Retain words lines = retain_line header line words
verb_act header end line (verb.Domain domain) words lines = domain_line header line domain words
verb_act header end line (verb.Target target) words lines = target_line header line target words
verb_act header end line verb.Handover words lines = handover_line header line words
verb_act header end line (verb.Pair pair) words lines = pair_line header line pair words
verb_act header end line verb.Pull words lines = pull_line header line words
verb_act header end line (verb.Place place) words lines = place_line header line place words
verb_act header end line (verb.Places places) words lines = places_line header line places words
verb_act header end line verb.Levels words lines = levels_line header line words
verb_act header end line (verb.Cluster cluster) words lines = cluster_line header line cluster words
verb_act header end line verb.Settle words lines = settle_line line words
verb_act header end line (verb.Workflow workflow) words lines = workflow_line header line workflow words
verb_act header end line verb.Compare words lines = compare_line header line words
verb_act header end line verb.Reset words lines = reset_line header line words
verb_act header end line verb.Beat words lines = beat_line header line words
verb_act header end line verb.Progress words lines = progress_line header line words

-- the same, where the first word is one of the language
abbrev pub act_by : Header → ℕ → ℕ → Option Verb → List (List ℕ) → List KeptLine → Result Act ScriptError
act_by header end line None words lines = refused line BadLine
act_by header end line (Some verb) words lines = verb_act header end line verb words lines

-- the line that these words are, by the first; the lines after it are those of a burst
unfoldable pub words_act : Header → ℕ → ℕ → List (List ℕ) → List KeptLine → Result Act ScriptError
words_act header end line [] lines = refused line BadLine
words_act header end line (word ∷ words) lines = act_by header end line (verb_of word) words lines

-- what a line asks for, by how it can be read
abbrev pub act_read : Header → ℕ → ℕ → Reading → List (List ℕ) → List KeptLine → Result Act ScriptError
act_read header end line PastLimit words lines = refused line LineLimit
act_read header end line Unreadable words lines = refused line BadLine
act_read header end line Readable words lines = words_act header end line words lines

-- the lines of the body, after those that belong to the line before
unfoldable pub body_behind : Header → ℕ → ℕ → List KeptLine → Result (List Line) ScriptError
body_behind header end within [] = Ok []
body_behind header end (suc within) (line ∷ lines) = body_behind header end within lines
body_behind header end zero (line ∷ lines) = do
  act ← act_read header end line.number line.reading line.words lines
  more ← body_behind header end (lines_within act) lines
  Ok (record { number = line.number; act = act } ∷ more)

-- the lines of the body, or the first faulty one
abbrev pub body_of : Header → ℕ → List KeptLine → Result (List Line) ScriptError
body_of header end lines = body_behind header end 0 lines

-- the lines of a piece of a body whose first line has this number, or the first faulty one
abbrev pub lines_read : Header → ℕ → List ℕ → Result (List Line) ScriptError
lines_read header first bytes = body_of header (line_behind first bytes) (kept_from first (text_lines bytes))

-- the script of a header and its body
abbrev pub script_in : ℕ → HeaderRead → Result Script ScriptError
script_in end read = do
  lines ← body_of read.header end read.body
  Ok (record { header = read.header; lines = lines })

-- the script that bytes are, or the first faulty line with its cause
unfoldable pub script_of : List ℕ → Result Script ScriptError
script_of bytes = do
  read ← header_of (line_after bytes) (kept_of bytes)
  script_in (line_after bytes) read
