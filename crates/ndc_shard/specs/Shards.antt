-- Words for a shard.
use Rattle.std.specs.Prelude.{◌≡◌, true, List, [], ◌∷◌, None, Result, Ok, Err}
use Rattle.std.specs.List.{AllByRecursion}
use Rattle.ndc_model_cells.specs.declared.job.JobReply.{JobReply}
use Rattle.ndc_model_cells.specs.declared.job.Outcome.TheVariants as outcome
use Rattle.ndc_model_cells.specs.declared.message.Message.{Message}
use Rattle.ndc_model_cells.specs.Cells.{Cell, IsCell, learned_of}
use Rattle.ndc_model_cells.specs.Jobs.{all_batches, keys_written}
use Rattle.ndc_model_cells.specs.Places.{is_of}
use Rattle.ndc_model_cells.specs.Writing.{Entry, with_written}
use Rattle.ndc_command.specs.declared.refusal.CommandError.{CommandError}
use Rattle.ndc_command.specs.declared.refusal.CommandError.TheVariants.{Memory, Refused}
use Rattle.ndc_event.specs.Outcome.{◌>>=◌}
use Rattle.ndc_event.specs.declared.batch.Batch.{Batch}
use Rattle.ndc_event.specs.declared.name.Name.{Name}
use Rattle.ndc_model_sets.specs.Sound.{IsSound}
use Rattle.ndc_model_cells.specs.Messages.{carrying}
use Rattle.ndc_shard_workflows.specs.Workflow.{IsWorkflow}
use Rattle.ndc_model_cells.specs.Workflow.{workflow_of}
use Rattle.ndc_shard_workflows.specs.Writing.{GoesBehind, MayBeWritten}

-- the cell that has written these messages
abbrev pub having_written : List Message → Cell → Cell
having_written messages cell = record cell { written = messages }

-- a workflow of a cell as it should be: the cell is in order, what waits lies beside what is learned, and what is learned is sound
pub record IsFit (domain workflow : Name) (cell : Cell) : Type 0 where
  pub cell_is : IsCell cell
  pub workflow_is : IsWorkflow (workflow_of domain workflow cell)
  pub sound : IsSound (learned_of domain workflow cell)

-- entries may be written one after the other
abbrev pub AreWritable : List Entry → Cell → Type 0
AreWritable [] cell = Unit {0}
AreWritable (entry ∷ entries) cell =
    MayBeWritten (carrying entry.batch entry.second) (workflow_of entry.batch.domain entry.batch.workflow cell) × AreWritable entries (with_written entry cell)

-- the second of two entries goes right after the first, in the same workflow, and neither carries a batch
pub record GoAsTwo (first second : Entry) : Type 0 where
  pub first_alone : first.second ≡ None
  pub second_alone : second.second ≡ None
  pub behind : GoesBehind first.batch second.batch
  pub own : is_of first.batch.domain first.batch.workflow second.batch ≡ true

-- entries are one, or two of which the second goes right after the first
abbrev pub AreOneOrTwo : List Entry → Type 0
AreOneOrTwo [] = ⊥
AreOneOrTwo (entry ∷ []) = Unit {0}
AreOneOrTwo (first ∷ second ∷ []) = GoAsTwo first second
AreOneOrTwo (first ∷ second ∷ third ∷ entries) = ⊥

-- no batch of the entries is carried by another, but for what an entry carries itself
abbrev pub AreLone : List Entry → Type 0
AreLone entries = AllByRecursion (λ entry. entry.batch.carrier ≡ None) entries

-- the batches of what was to be written, in the order of writing, or the refusal
abbrev pub batches_written : Result (List Entry) CommandError → Result (List Batch) CommandError
batches_written written = written >>= λ entries. Ok (all_batches entries)

-- the reply to a command or a reset that has written these batches, or was refused
abbrev pub reply_of : Result (List Batch) CommandError → JobReply
reply_of (Ok batches) = record { outcome = keys_written batches; learned = batches }
reply_of (Err (Refused refusal)) = record { outcome = outcome.Refused refusal; learned = [] }
reply_of (Err Memory) = record { outcome = outcome.Reapplied 0; learned = [] }
