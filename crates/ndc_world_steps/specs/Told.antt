-- What a line tells.
use Rattle.std.specs.Prelude.{ℕ, List, [], ◌∷◌}
use Rattle.ndc_model_cells.specs.declared.job.JobReply.{JobReply}
use Rattle.ndc_index.specs.declared.seen.Seen.{Seen}
use Rattle.ndc_model.specs.Steps.{Stepped, outcome_answer}
use Rattle.ndc_model.specs.World.{World}

-- what a line answers, and what it makes learned, in the order of being told
pub record AnswerValue : Type 0 where
  pub text : List ℕ
  pub seen : List Seen

-- a line that makes nothing learned
abbrev pub only_answer : List ℕ → AnswerValue
only_answer text = record { text = text; seen = [] }

-- what a line leaves and tells
abbrev pub leaving : World → AnswerValue → Stepped
leaving w answer = record { world = w; answer = answer.text; seen = answer.seen }

-- what the first of replies answers
abbrev pub first_answer : List JobReply → List ℕ
first_answer [] = []
first_answer (reply ∷ replies) = outcome_answer reply.outcome
