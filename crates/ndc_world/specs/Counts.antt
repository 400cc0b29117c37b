-- What is counted of lines that ran.
use Rattle.std.specs.Prelude.{ℕ, ◌+◌, Bool, List, [], ◌∷◌, if◌then◌else◌}
use Rattle.ndc_model_cells.specs.declared.job.JobReply.{JobReply}
use Rattle.ndc_model.specs.Laws.{is_refusal}
use Rattle.ndc_model.specs.Lines.{AnsweredLine}
use Rattle.ndc_model.specs.Steps.{outcome_answer}

-- one, where this passes
abbrev pub one_if : Bool → ℕ
one_if passes = if passes then 1 else 0

-- how many of the lines that ran were refused
abbrev pub refused_in : List AnsweredLine → ℕ
refused_in [] = 0
refused_in (run ∷ runs) = one_if (is_refusal run.step.answer) + refused_in runs

-- how many of jobs were refused, by their replies
abbrev pub refusals : List JobReply → ℕ
refusals [] = 0
refusals (reply ∷ replies) = one_if (is_refusal (outcome_answer reply.outcome)) + refusals replies
