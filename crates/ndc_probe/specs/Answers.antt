-- The answers to questions: functions of the header of a script and a world.
use Rattle.std.specs.Prelude.{ℕ, List, [], ◌∷◌, ◌++◌, codes, drop, Result, Ok, Err}
use Rattle.ndc_domain.specs.Clusters.{name_of}
use Rattle.ndc_model.specs.Texts.{spaced}
use Rattle.ndc_model.specs.World.{World, flight_at, link_at, queue_at, trimmed_at}
use Rattle.ndc_script_types.specs.declared.script.Header.{Header}
use Rattle.ndc_script_types.specs.declared.script.ScriptError.{ScriptError}
use Rattle.ndc_script_words.specs.Text.{KeptLine}
use Rattle.ndc_probe_questions.specs.Questions.{question_of}
use Rattle.ndc_probe_questions.specs.declared.question.Question.{Question}
use Rattle.ndc_probe_questions.specs.declared.question.Question.TheVariants.{Differs, Dumps, Flight, Forks, Holds, Late, Queue, Workflows}
use Rattle.ndc_probe.specs.Holding.{holds_text}
use Rattle.ndc_probe.specs.Late.{late_text}
use Rattle.ndc_probe.specs.Learned.{workflows_text}
use Rattle.ndc_probe.specs.Sent.{flight_text, queue_text}
use Rattle.ndc_probe.specs.Unasked.{unasked_text}
use Rattle.ndc_probe.specs.Workflows.{differs_text, dumps_text, forks_text, workflows_at}

-- what a world answers to a question
unfoldable pub told_of : Header → Question → World → List ℕ
told_of header (Flight lane) w = flight_text (flight_at lane.reader lane.source lane.shard w)
told_of header (Holds lane) w = holds_text header lane.reader lane.source lane.shard w
told_of header (Queue source shard) w = queue_text (trimmed_at source w shard) (drop (trimmed_at source w shard) (queue_at source shard w))
told_of header (Late reader source) w = late_text (name_of header.clusters reader) (name_of header.clusters source) (link_at reader source w).late
told_of header (Workflows at) w = workflows_text (workflows_at header at.cluster at.domain w)
told_of header (Forks at) w = forks_text header at.cluster at.domain w
told_of header (Dumps at) w = dumps_text header at.cluster at.domain w
told_of header (Differs one two domain) w = differs_text header one two domain w

-- the same, or what was expected where it is not a question
abbrev pub told_where : Header → List (List ℕ) → Result Question ScriptError → World → List ℕ
told_where header words (Ok question) w = told_of header question w
told_where header words (Err error) w = unasked_text header words

-- words with a space between them
abbrev pub joined : List (List ℕ) → List ℕ
joined [] = []
joined (word ∷ words) = word ++ spaced words

-- the answer to a question: its words, and after them what the world answers
unfoldable pub answer_to : Header → World → KeptLine → List ℕ
answer_to header w asked =
    joined asked.words ++ (codes ": " ++ told_where header asked.words (question_of header asked.number asked.words) w)
