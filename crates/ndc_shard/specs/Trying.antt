-- What a shard that nobody vouches for writes, or why it does not.
use Rattle.std.specs.Prelude.{◌≡◌, ◌≤◌, ◌^◌, ◌++◌, map, List, [], ◌∷◌, Option, Some, None, IfSome, IfOk, IsOk, Result, Ok, Err, ⊤}
use Rattle.std.specs.List.{AllByRecursion}
use Rattle.ndc_command.specs.declared.refusal.CommandError.{CommandError}
use Rattle.ndc_command.specs.declared.refusal.CommandError.TheVariants as command
use Rattle.ndc_event.specs.declared.batch.Batch.{Batch}
use Rattle.ndc_event.specs.declared.key.BatchKey.{BatchKey}
use Rattle.ndc_event.specs.declared.name.Name.{Name}
use Rattle.ndc_model_cells.specs.Cells.{Cell, both, learned_of}
use Rattle.ndc_model_cells.specs.Messages.{HasSmallIds, IsMessage, carrying}
use Rattle.ndc_model_cells.specs.Workflow.{WorkflowValue, workflow_of}
use Rattle.ndc_model_cells.specs.Jobs.{all_batches}
use Rattle.ndc_model_cells.specs.Writing.{Desk, Entry, greatest_task, reapplication_of, state_under}
use Rattle.ndc_model_cells.specs.declared.message.Message.{Message}
use Rattle.ndc_model_sets.specs.Branches.{workflow_tip}
use Rattle.ndc_shard.specs.Answers.{names_of}
use Rattle.ndc_shard.specs.Shards.{GoAsTwo}
use Rattle.ndc_shard.specs.declared.error.TryError.{TryError}
use Rattle.ndc_shard.specs.declared.error.TryError.TheVariants as error
use Rattle.ndc_shard.specs.declared.trying.Skipped.{Skipped}
use Rattle.ndc_shard_workflows.specs.Reapplied.{AreReapplied, reapplied_at}
use Rattle.ndc_shard_workflows.specs.Refused.{IsNotWritten}
use Rattle.ndc_shard_workflows.specs.Writing.{IsMadeTogether}
use Rattle.ndc_shard_workflows.specs.declared.admission.NotWritten.{NotWritten}
use Rattle.ndc_shard_workflows.specs.declared.admission.NotWritten.TheVariants as refused

-- why a command is not planned, as why it is not written
abbrev pub as_try_error : CommandError → TryError
as_try_error (command.Refused why) = error.Refused why
as_try_error command.Memory = error.NotWritten refused.Memory

-- what is written together, as a message without a history: an entry with the batch that it carries, or the batches of two
abbrev pub together : List Entry → Option Message
together [] = None
together (entry ∷ []) = Some (carrying entry.batch entry.second)
together (first ∷ second ∷ entries) = Some (carrying first.batch (Some second.batch))

-- the ids of all events of what would be written are small
abbrev pub HasSmallIdsIn : Entry → Type 0
HasSmallIdsIn entry = AllByRecursion HasSmallIds (both (carrying entry.batch entry.second))

-- there is room for what would be written to a workflow: by the tasks of what is learned, and by the ids of what would be written
pub record HasRoomFor (domain workflow : Name) (written : Result (List Entry) CommandError) (cell : Cell) : Type 0 where
  pub tasks : greatest_task (learned_of domain workflow cell) ≤ 10 ^ 12
  pub ids : IfOk written (AllByRecursion HasSmallIdsIn)

-- these entries are not written together to a workflow, because of what has arrived
pub record AreNotWritten (why : NotWritten) (written : Result (List Entry) CommandError) (w : WorkflowValue) : Type 0 where
  pub planned : IsOk written
  pub entries : IfOk written (λ list. IfSome (together list) (λ new. IsNotWritten why new w))

-- why what was to be written to a workflow is not
abbrev pub IsNotTaken : TryError → Name → Name → Result (List Entry) CommandError → Cell → Type 0
IsNotTaken error.Full domain workflow written cell = HasRoomFor domain workflow written cell → ⊥
IsNotTaken (error.Refused why) domain workflow written cell = written ≡ Err (command.Refused why)
IsNotTaken (error.NotWritten refused.Memory) domain workflow written cell = ⊤
IsNotTaken (error.NotWritten why) domain workflow written cell = AreNotWritten why written (workflow_of domain workflow cell)

-- entries as cells make them: one, or two of which the second goes right after the first
abbrev pub AreMade : List Entry → Type 0
AreMade [] = ⊥
AreMade (entry ∷ []) = IsMessage (carrying entry.batch entry.second) × IsMadeTogether (carrying entry.batch entry.second)
AreMade (first ∷ second ∷ []) = GoAsTwo first second × IsMadeTogether (carrying first.batch (Some second.batch))
AreMade (first ∷ second ∷ third ∷ entries) = ⊥

-- there is room for one more batch of the current run: by the tasks of what is learned, and by the ids of its current branch
pub record LeavesRoom (batches : List Batch) : Type 0 where
  pub tasks : greatest_task batches ≤ 10 ^ 12
  pub next : IfSome (state_under (workflow_tip batches) batches) (λ s. s.next ≤ 10 ^ 12)

-- there is room for what reapplication would write to a workflow
pub record HasRoomAgain (home : Desk) (domain workflow : Name) (cell : Cell) : Type 0 where
  pub before : LeavesRoom (learned_of domain workflow cell)
  pub ids : AllByRecursion HasSmallIdsIn (reapplication_of home domain workflow cell)

-- why what reapplication would write to a workflow is not written
abbrev pub IsPassedOver : TryError → Desk → Name × Name → Cell → Type 0
IsPassedOver error.Full home names cell = HasRoomAgain home names.0 names.1 cell → ⊥
IsPassedOver (error.Refused why) home names cell = ⊥
IsPassedOver (error.NotWritten refused.Memory) home names cell = ⊥
IsPassedOver (error.NotWritten why) home names cell = AreNotWritten why (Ok (reapplication_of home names.0 names.1 cell)) (workflow_of names.0 names.1 cell)

-- where a batch stands: its domain, its workflow and its key
abbrev pub Standing : Type 0
Standing = Name × Name × BatchKey

-- reapplication is tried in a workflow: what it would write is written there, or the workflow is skipped and the cell is as it was
abbrev pub IsTriedIn : Desk → Name × Name → Cell → List Standing → List Skipped → Cell → Type 0
IsTriedIn home names before written [] after =
    (after ≡ reapplied_at home names before) × (written ≡ map names_of (all_batches (reapplication_of home names.0 names.1 before)))
IsTriedIn home names before written (one ∷ []) after =
    IsPassedOver one.cause home names before × ((one.domain, one.workflow) ≡ names) × (after ≡ before) × (written ≡ [])
IsTriedIn home names before written (one ∷ other ∷ more) after = ⊥

-- reapplication is tried in a workflow, and then in others
pub record IsTriedFirst (home : Desk) (names : Name × Name) (Others : Cell → List Standing → List Skipped → Type 0)
    (before : Cell) (written : List Standing) (skipped : List Skipped) : Type 0 where
  pub between : Cell
  pub own : List Standing
  pub more : List Standing
  pub told : List Skipped
  pub others : List Skipped
  pub tried : IsTriedIn home names before own told between
  pub then_tried : Others between more others
  pub written_is : written ≡ own ++ more
  pub skipped_is : skipped ≡ told ++ others

-- reapplication is tried in these workflows, in order
abbrev pub AreTried : Desk → List (Name × Name) → Cell → List Standing → List Skipped → Cell → Type 0
AreTried home [] before written skipped after = (after ≡ before) × (written ≡ []) × (skipped ≡ [])
AreTried home (names ∷ list) before written skipped after =
    IsTriedFirst home names (λ between more others. AreTried home list between more others after) before written skipped

-- reapplication is tried in all workflows to which it would write something, in order
pub record IsTriedAgain (home : Desk) (written : List Standing) (skipped : List Skipped) (before after : Cell) : Type 0 where
  pub workflows : List (Name × Name)
  pub are : AreReapplied home workflows before
  pub tried : AreTried home workflows before written skipped after

-- reapplication was tried in some workflows, in order
pub record IsTriedInSome (home : Desk) (before after : Cell) : Type 0 where
  pub workflows : List (Name × Name)
  pub written : List Standing
  pub skipped : List Skipped
  pub tried : AreTried home workflows before written skipped after

-- reapplication was tried in a workflow: this is told after what was told before
pub record IsTriedOnce (home : Desk) (names : Name × Name) (before after : Cell) (written written_then : List Standing) (skipped skipped_then : List Skipped) : Type 0 where
  pub own : List Standing
  pub told : List Skipped
  pub tried : IsTriedIn home names before own told after
  pub written_is : written_then ≡ written ++ own
  pub skipped_is : skipped_then ≡ skipped ++ told
