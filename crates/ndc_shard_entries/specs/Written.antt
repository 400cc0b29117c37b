-- What is written to a workflow comes after all that is learned of it.
use Rattle.std.specs.Prelude.{◌≡◌, ◌≤◌, ◌+◌, ℕ, true, All, List, [], ◌∷◌, IfSome}
use Rattle.std.specs.List.{AllByRecursion}
use Rattle.ndc_model_cells.specs.Laws.{arrived_second}
use Rattle.ndc_model_cells.specs.Writing.{Entry, batches_in, greatest_task}
use Rattle.ndc_event.specs.Key.{key_lt, run_of}
use Rattle.ndc_event.specs.declared.batch.Batch.{Batch}
use Rattle.ndc_event.specs.declared.name.Name.{Name}
use Rattle.ndc_model_sets.specs.Sets.{Has, PointsBack, arrived}
use Rattle.ndc_model_cells.specs.Messages.{IsCarriedBy}

-- a batch of a workflow
pub record IsOf (domain workflow : Name) (b : Batch) : Type 0 where
  pub domain_is : b.domain ≡ domain
  pub workflow_is : b.workflow ≡ workflow

-- the batch that another one carries, of its workflow: the first of its run
pub record IsSecond (domain workflow : Name) (b second : Batch) : Type 0 where
  pub of : IsOf domain workflow second
  pub carried : IsCarriedBy b second
  pub run : second.run ≡ run_of second.key

-- an entry of a workflow after all that is learned of it: its batch comes after each learned one with the next task at most, and points back
pub record IsWrittenTo (batches : List Batch) (domain workflow : Name) (entry : Entry) : Type 0 where
  pub of : IsOf domain workflow entry.batch
  pub above : (b : Batch) → Has batches b → key_lt b.key entry.batch.key ≡ true
  pub task_most : entry.batch.key.task ≤ greatest_task batches + 1
  pub back : PointsBack entry.batch
  pub second : IfSome entry.second (IsSecond domain workflow entry.batch)

-- no event of an entry's batches has an id above this one
abbrev pub HasIdsUpTo : ℕ → Entry → Type 0
HasIdsUpTo most entry = AllByRecursion (λ b. All (λ event. event.id ≤ most) b.events) (batches_in entry)

-- entries that are written in order, each after all that is learned with those before it
abbrev pub AreWrittenTo : List Batch → Name → Name → List Entry → Type 0
AreWrittenTo batches domain workflow [] = Unit {0}
AreWrittenTo batches domain workflow (entry ∷ entries) =
    IsWrittenTo batches domain workflow entry × AreWrittenTo (arrived_second entry.second (arrived entry.batch batches)) domain workflow entries
