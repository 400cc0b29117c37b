-- Jobs: what a cell does where it is asked to, and what it replies; jobs one after the other on the cells of a cluster.
use Rattle.std.specs.Prelude.{ℕ, List, [], ◌∷◌, ◌++◌, length, slice_index_or, slice_set, Some, None, Result, Ok, Err, not}
use Rattle.std.specs.List.{filter, flat_map}
use Rattle.ndc_model_cells.specs.declared.job.Job.{Job}
use Rattle.ndc_model_cells.specs.declared.job.Job.TheVariants as job
use Rattle.ndc_model_cells.specs.declared.job.JobReply.{JobReply}
use Rattle.ndc_model_cells.specs.declared.job.Outcome.{Outcome}
use Rattle.ndc_model_cells.specs.declared.job.Outcome.TheVariants as outcome
use Rattle.ndc_model_cells.specs.declared.job.ShardJob.{ShardJob}
use Rattle.ndc_model_cells.specs.Arrival.{arrival_of, arrived_at, learned_by}
use Rattle.ndc_model_cells.specs.Cells.{Cell, empty_cell}
use Rattle.ndc_model_cells.specs.Places.{is_of}
use Rattle.ndc_model_cells.specs.Writing.{Entry, Desk, batches_in, command_of, reapplication_of, reset_at, with_all_written}
use Rattle.ndc_command.specs.declared.refusal.CommandError.{CommandError}
use Rattle.ndc_command.specs.declared.refusal.CommandError.TheVariants.{Refused, Memory}
use Rattle.ndc_event.specs.declared.batch.Batch.{Batch}

-- the first batch of each workflow, of batches in order of place
abbrev pub workflows_of : List Batch → List Batch
workflows_of [] = []
workflows_of (b ∷ batches) = b ∷ filter (λ other. not (is_of b.domain b.workflow other)) (workflows_of batches)

-- the cell after what was to be written; a refusal leaves it as it was
abbrev pub written_at : Result (List Entry) CommandError → Cell → Cell
written_at (Ok entries) cell = with_all_written entries cell
written_at (Err error) cell = cell

-- the batches of entries, in the order of writing
abbrev pub all_batches : List Entry → List Batch
all_batches entries = flat_map batches_in entries

-- the batches of what was to be written
abbrev pub written_now : Result (List Entry) CommandError → List Batch
written_now (Ok entries) = all_batches entries
written_now (Err error) = []

-- the keys of batches that were written: there is one, or there are two
abbrev pub keys_written : List Batch → Outcome
keys_written [] = outcome.Reapplied 0
keys_written (b ∷ []) = outcome.Written (record { key = b.key; second = None })
keys_written (b ∷ second ∷ batches) = outcome.Written (record { key = b.key; second = Some second.key })

-- what a command or a reset answers; want of memory is not an answer of the model
abbrev pub written_outcome : Result (List Entry) CommandError → Outcome
written_outcome (Ok entries) = keys_written (all_batches entries)
written_outcome (Err (Refused refusal)) = outcome.Refused refusal
written_outcome (Err Memory) = outcome.Reapplied 0

-- the cell after reapplication in the workflows of these batches, in order
abbrev pub reapplied_in : Desk → List Batch → Cell → Cell
reapplied_in home [] cell = cell
reapplied_in home (b ∷ workflows) cell = reapplied_in home workflows (with_all_written (reapplication_of home b.domain b.workflow cell) cell)

-- what reapplication in the workflows of these batches writes, in order
abbrev pub reapplied_now : Desk → List Batch → Cell → List Batch
reapplied_now home [] cell = []
reapplied_now home (b ∷ workflows) cell =
    all_batches (reapplication_of home b.domain b.workflow cell) ++ reapplied_now home workflows (with_all_written (reapplication_of home b.domain b.workflow cell) cell)

-- the cell after a job
unfoldable pub after_job : Desk → Job → Cell → Cell
after_job home (job.Command domain workflow command) cell = written_at (command_of home domain workflow command cell) cell
after_job home (job.Arrive message) cell = arrived_at message cell
after_job home job.Reapply cell = reapplied_in home (workflows_of cell.arrived) cell
after_job home (job.Reset domain workflow event) cell = written_at (reset_at home domain workflow event cell) cell

-- what a job answers
unfoldable pub outcome_of : Desk → Job → Cell → Outcome
outcome_of home (job.Command domain workflow command) cell = written_outcome (command_of home domain workflow command cell)
outcome_of home (job.Arrive message) cell = outcome.Arrived (arrival_of message cell)
outcome_of home job.Reapply cell = outcome.Reapplied (length (reapplied_now home (workflows_of cell.arrived) cell))
outcome_of home (job.Reset domain workflow event) cell = written_outcome (reset_at home domain workflow event cell)

-- the batches that a job makes learned, in the order of being told
unfoldable pub learned_in : Desk → Job → Cell → List Batch
learned_in home (job.Command domain workflow command) cell = written_now (command_of home domain workflow command cell)
learned_in home (job.Arrive message) cell = learned_by message cell
learned_in home job.Reapply cell = reapplied_now home (workflows_of cell.arrived) cell
learned_in home (job.Reset domain workflow event) cell = written_now (reset_at home domain workflow event cell)

-- what a cell replies to a job
abbrev pub reply_to : Desk → Job → Cell → JobReply
reply_to home asked cell = record { outcome = outcome_of home asked cell; learned = learned_in home asked cell }

-- the cell of a shard
abbrev pub cell_for : ℕ → List Cell → Cell
cell_for shard cells = slice_index_or cells shard empty_cell

-- the cells of a cluster after a job
abbrev pub cells_behind : Desk → ShardJob → List Cell → List Cell
cells_behind home asked cells = slice_set cells asked.shard (after_job home asked.job (cell_for asked.shard cells))

-- the cells of a cluster after jobs, done one after the other
unfoldable pub cells_after : Desk → List ShardJob → List Cell → List Cell
cells_after home [] cells = cells
cells_after home (asked ∷ jobs) cells = cells_after home jobs (cells_behind home asked cells)

-- what they reply, in the order of the jobs
unfoldable pub replies_to : Desk → List ShardJob → List Cell → List JobReply
replies_to home [] cells = []
replies_to home (asked ∷ jobs) cells = reply_to home asked.job (cell_for asked.shard cells) ∷ replies_to home jobs (cells_behind home asked cells)
