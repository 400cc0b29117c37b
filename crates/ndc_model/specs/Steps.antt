-- What a line leaves, answers and makes learned; lines that write.
use Rattle.std.specs.Prelude.{ℕ, List, [], ◌∷◌, map, length, sum, decimal, option_to_list}
use Rattle.std.specs.List.{flat_map}
use Rattle.ndc_model_cells.specs.declared.job.Arrived.{Arrived}
use Rattle.ndc_model_cells.specs.declared.job.Arrived.TheVariants.{Known, Learned, PutOff}
use Rattle.ndc_model_cells.specs.declared.job.Job.{Job}
use Rattle.ndc_model_cells.specs.declared.job.Job.TheVariants as job
use Rattle.ndc_model_cells.specs.declared.job.Outcome.{Outcome}
use Rattle.ndc_model_cells.specs.declared.job.Outcome.TheVariants as outcome
use Rattle.ndc_model_cells.specs.declared.job.ShardJob.{ShardJob}
use Rattle.ndc_model_cells.specs.declared.job.Written.{Written}
use Rattle.ndc_model_cells.specs.declared.message.Message.{Message}
use Rattle.ndc_model_cells.specs.Cells.{both}
use Rattle.ndc_model_cells.specs.Jobs.{outcome_of}
use Rattle.ndc_model_cells.specs.Shards.{shard_of}
use Rattle.ndc_command.specs.declared.command.Command.{Command}
use Rattle.ndc_command.specs.declared.refusal.CommandError.{CommandError}
use Rattle.ndc_command.specs.declared.refusal.CommandError.TheVariants.{Refused, Memory}
use Rattle.ndc_domain.specs.declared.clusters.ClusterNo.{ClusterNo}
use Rattle.ndc_event.specs.declared.batch.Batch.{Batch}
use Rattle.ndc_event.specs.declared.name.Name.{Name}
use Rattle.ndc_script_types.specs.declared.script.Header.{Header}
use Rattle.ndc_text.specs.Views.{key_text}
use Rattle.ndc_index.specs.declared.seen.Seen.{Seen}
use Rattle.ndc_model.specs.Moves.{Note, Trace, from_world, jobs_done}
use Rattle.ndc_model.specs.Texts.{ok, refusal_words, refused}
use Rattle.ndc_model.specs.World.{World, cell_at, home_at}

-- what a line leaves, what it answers after its number, and what became learned, in the order of being told
pub record Stepped : Type 0 where
  pub world : World
  pub answer : List ℕ
  pub seen : List Seen

-- a line that makes nothing learned
abbrev pub answered : World → List ℕ → Stepped
answered w answer = record { world = w; answer = answer; seen = [] }

-- batches that became learned at a cluster
abbrev pub seen_at : ClusterNo → List Batch → List Seen
seen_at cluster batches = map (λ b. record { cluster = cluster; batch = b }) batches

-- what jobs made learned, in order
abbrev pub seen_of : List Note → List Seen
seen_of notes = flat_map (λ note. seen_at note.cluster note.reply.learned) notes

-- how many batches a message made learned
abbrev pub learned_count : Outcome → List Batch → ℕ
learned_count (outcome.Arrived arrived) learned = length learned
learned_count (outcome.Written written) learned = 0
learned_count (outcome.Refused refusal) learned = 0
learned_count (outcome.Reapplied count) learned = 0

-- whether a message was known
abbrev pub known_count : Outcome → ℕ
known_count (outcome.Arrived Known) = 1
known_count (outcome.Arrived (PutOff missing)) = 0
known_count (outcome.Arrived (Learned keys)) = 0
known_count (outcome.Written written) = 0
known_count (outcome.Refused refusal) = 0
known_count (outcome.Reapplied count) = 0

-- whether a message was put off
abbrev pub put_off_count : Outcome → ℕ
put_off_count (outcome.Arrived Known) = 0
put_off_count (outcome.Arrived (PutOff missing)) = 1
put_off_count (outcome.Arrived (Learned keys)) = 0
put_off_count (outcome.Written written) = 0
put_off_count (outcome.Refused refusal) = 0
put_off_count (outcome.Reapplied count) = 0

-- how many batches a message brought: none where it was known
abbrev pub brought : Message → Arrived → ℕ
brought sent Known = 0
brought sent (PutOff missing) = length (both sent)
brought sent (Learned keys) = length (both sent)

-- how many batches arrived by a job
abbrev pub arrived_count : Job → Outcome → ℕ
arrived_count (job.Arrive sent) (outcome.Arrived arrived) = brought sent arrived
arrived_count other answer = 0

-- how many batches were applied again
abbrev pub applied_count : Outcome → ℕ
applied_count (outcome.Reapplied count) = count
applied_count (outcome.Arrived arrived) = 0
applied_count (outcome.Written written) = 0
applied_count (outcome.Refused refusal) = 0

-- the counts of a job that was done
abbrev pub learned_by : Note → ℕ
learned_by note = learned_count note.reply.outcome note.reply.learned

abbrev pub known_by : Note → ℕ
known_by note = known_count note.reply.outcome

abbrev pub put_off_by : Note → ℕ
put_off_by note = put_off_count note.reply.outcome

abbrev pub arrived_by : Note → ℕ
arrived_by note = arrived_count note.job note.reply.outcome

abbrev pub applied_by : Note → ℕ
applied_by note = applied_count note.reply.outcome

-- the sum of a count over notes, in decimal
abbrev pub total : (Note → ℕ) → List Note → List ℕ
total count notes = decimal (sum (map count notes))

-- a line of jobs, with its answer by what came of them
abbrev pub moved : Trace → List (List ℕ) → Stepped
moved t words = record { world = t.world; answer = ok words; seen = seen_of t.notes }

-- the answer of a line that is refused
abbrev pub error_answer : CommandError → List ℕ
error_answer (Refused refusal) = refused (refusal_words refusal)
error_answer Memory = []

-- the keys of what was written, as words
abbrev pub written_words : Written → List (List ℕ)
written_words written = key_text written.key ∷ map key_text (option_to_list written.second)

-- the answer of a command or a reset: the keys of what it wrote, or its refusal
abbrev pub outcome_answer : Outcome → List ℕ
outcome_answer (outcome.Written written) = ok (written_words written)
outcome_answer (outcome.Refused refusal) = refused (refusal_words refusal)
outcome_answer (outcome.Arrived arrived) = []
outcome_answer (outcome.Reapplied count) = []

-- a cluster does one job that writes: what it leaves and answers
abbrev pub writing_step : Header → ClusterNo → ShardJob → World → Stepped
writing_step header cluster asked w = record {
  world = (jobs_done header cluster (asked ∷ []) (from_world w)).world;
  answer = outcome_answer (outcome_of (home_at header cluster w) asked.job (cell_at cluster asked.shard w));
  seen = seen_of (jobs_done header cluster (asked ∷ []) (from_world w)).notes;
}

-- a command line
unfoldable pub command_step : Header → ClusterNo → Name → Name → Command → World → Stepped
command_step header cluster domain workflow command w =
    writing_step header cluster (record { shard = shard_of domain workflow header.shards; job = job.Command domain workflow command }) w

-- `reset`
unfoldable pub reset_step : Header → ClusterNo → Name → Name → ℕ → World → Stepped
reset_step header cluster domain workflow event w =
    writing_step header cluster (record { shard = shard_of domain workflow header.shards; job = job.Reset domain workflow event }) w
