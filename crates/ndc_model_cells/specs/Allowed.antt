-- What a cell asks of a job: that what is learned after it is sound, and room for numbers.
use Rattle.std.specs.Prelude.{◌≡◌, ◌+◌, ◌≤◌, ◌^◌, false, true, length, List, [], ◌∷◌, IfSome, None, Result, Ok, Err}
use Rattle.std.specs.List.{AllByRecursion}
use Rattle.ndc_model_cells.specs.declared.job.Job.{Job}
use Rattle.ndc_model_cells.specs.declared.job.Job.TheVariants as job
use Rattle.ndc_model_cells.specs.declared.message.Message.{Message}
use Rattle.ndc_model_cells.specs.Arrival.{arrived_at, has_arrived}
use Rattle.ndc_model_cells.specs.Cells.{Cell, arrived_of, both, learned_of}
use Rattle.ndc_model_cells.specs.Jobs.{workflows_of}
use Rattle.ndc_model_cells.specs.Places.{is_of}
use Rattle.ndc_model_cells.specs.Writing.{Entry, Desk, command_of, greatest_task, reapplication_of, reset_at, state_under, with_all_written, with_written}
use Rattle.ndc_command.specs.declared.refusal.CommandError.{CommandError}
use Rattle.ndc_event.specs.declared.batch.Batch.{Batch}
use Rattle.ndc_event.specs.declared.name.Name.{Name}
use Rattle.ndc_model_sets.specs.Branches.{workflow_tip}
use Rattle.ndc_model_sets.specs.Current.{strays}
use Rattle.ndc_model_sets.specs.Sound.{IsSound}
use Rattle.ndc_model_cells.specs.Messages.{IsMessage, IsNewTo, batches_of, waits_for, HasSmallIds, carrying}
use Rattle.ndc_model_cells.specs.Workflow.{workflow_of}

-- a message may arrive: it is one as cells write them, of a batch that is not carried by another, its batches have arrived together or not at
-- all, and what is learned after it is sound
pub record MayArrive (sent : Message) (cell : Cell) : Type 0 where
  pub message : IsMessage sent
  pub lone : sent.batch.carrier ≡ None
  pub own : IfSome sent.second (λ second. is_of sent.batch.domain sent.batch.workflow second ≡ true)
  pub new : has_arrived sent.batch cell ≡ false → IsNewTo (arrived_of sent.batch.domain sent.batch.workflow cell) sent
  pub sound : IsSound (learned_of sent.batch.domain sent.batch.workflow (arrived_at sent cell))
  pub ids : AllByRecursion HasSmallIds (both sent)

-- an entry may be written to a workflow: what is learned after it is sound, and nothing that is put off has the key of one of its batches, or
-- waits for it
pub record MayWrite (domain workflow : Name) (entry : Entry) (cell : Cell) : Type 0 where
  pub sound : IsSound (learned_of domain workflow (with_written entry cell))
  pub new : IsNewTo (batches_of (workflow_of domain workflow cell).waiting) (carrying entry.batch entry.second)
  pub awaited : AllByRecursion (λ sent. waits_for (both (carrying entry.batch entry.second)) sent ≡ false) (workflow_of domain workflow cell).waiting

-- entries may be written one after the other
abbrev pub MayWriteAll : Name → Name → List Entry → Cell → Type 0
MayWriteAll domain workflow [] cell = Unit {0}
MayWriteAll domain workflow (entry ∷ entries) cell = MayWrite domain workflow entry cell × MayWriteAll domain workflow entries (with_written entry cell)

-- the tasks of what is learned of a workflow, and the events of its current branch with its strays, leave room for more
pub record HasRoom (batches : List Batch) : Type 0 where
  pub tasks : greatest_task batches ≤ 10 ^ 11
  pub ids : IfSome (state_under (workflow_tip batches) batches) (λ s. s.next + length (strays batches) + 2 ≤ 10 ^ 12)

-- what is to be written may be; a refusal asks for nothing
abbrev pub MayTake : Name → Name → Result (List Entry) CommandError → Cell → Type 0
MayTake domain workflow (Ok entries) cell = MayWriteAll domain workflow entries cell
MayTake domain workflow (Err error) cell = Unit {0}

-- a command or a reset may write to a workflow
pub record MayBeAsked (home : Desk) (domain workflow : Name) (written : Result (List Entry) CommandError) (cell : Cell) : Type 0 where
  pub limit : home.limit ≤ 204800
  pub room : HasRoom (learned_of domain workflow cell)
  pub takes : MayTake domain workflow written cell

-- strays may be applied again in the workflows of these batches, in order
abbrev pub MayReapply : Desk → List Batch → Cell → Type 0
MayReapply home [] cell = Unit {0}
MayReapply home (b ∷ workflows) cell =
    HasRoom (learned_of b.domain b.workflow cell) × MayWriteAll b.domain b.workflow (reapplication_of home b.domain b.workflow cell) cell
    × MayReapply home workflows (with_all_written (reapplication_of home b.domain b.workflow cell) cell)

-- a cell may be asked to do a job
abbrev pub IsAllowed : Desk → Job → Cell → Type 0
IsAllowed home (job.Command domain workflow command) cell = MayBeAsked home domain workflow (command_of home domain workflow command cell) cell
IsAllowed home (job.Arrive sent) cell = MayArrive sent cell
IsAllowed home job.Reapply cell = MayReapply home (workflows_of cell.arrived) cell
IsAllowed home (job.Reset domain workflow event) cell = MayBeAsked home domain workflow (reset_at home domain workflow event cell) cell
