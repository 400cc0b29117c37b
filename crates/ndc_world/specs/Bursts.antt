-- What the lines in a burst answer.
use Rattle.std.specs.Prelude.{ℕ, List, [], ◌∷◌, ◌++◌, codes, decimal}
use Rattle.ndc_script_types.specs.declared.script.BurstJob.{BurstJob}
use Rattle.ndc_model_cells.specs.declared.job.JobReply.{JobReply}
use Rattle.ndc_model.specs.Steps.{outcome_answer}

-- each answer after the number of its line, by the replies to the jobs
abbrev pub burst_text : List BurstJob → List JobReply → List ℕ
burst_text [] replies = []
burst_text (job ∷ jobs) [] = []
burst_text (job ∷ jobs) (reply ∷ replies) = (decimal job.number ++ codes " " ++ outcome_answer reply.outcome) ++ burst_text jobs replies
