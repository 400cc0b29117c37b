-- Reapplication in some workflows of a cell, one after the other.
use Rattle.std.specs.Prelude.{◌≡◌, ℕ, false, List, [], ◌∷◌, ◌++◌, take}
use Rattle.std.specs.List.Sorted.{IsStrictlySortedBy}
use Rattle.ndc_model_cells.specs.Cells.{Cell, learned_of}
use Rattle.ndc_model_cells.specs.Jobs.{all_batches, reapplied_in}
use Rattle.ndc_model_cells.specs.Writing.{Desk, reapplication_of, with_all_written}
use Rattle.ndc_event.specs.declared.batch.Batch.{Batch}
use Rattle.ndc_event.specs.declared.name.Name.{Name}
use Rattle.ndc_model_cells.specs.Allowed.{HasRoom, MayWriteAll}
use Rattle.ndc_shard_workflows.specs.Due.{is_listed, names_order}

-- the cell after reapplication in a workflow
abbrev pub reapplied_at : Desk → Name × Name → Cell → Cell
reapplied_at home names cell = with_all_written (reapplication_of home names.0 names.1 cell) cell

-- the cell after reapplication in these workflows, in order
abbrev pub reapplied_among : Desk → List (Name × Name) → Cell → Cell
reapplied_among home [] cell = cell
reapplied_among home (names ∷ list) cell = reapplied_among home list (reapplied_at home names cell)

-- what reapplication in these workflows writes, in order
abbrev pub written_among : Desk → List (Name × Name) → Cell → List Batch
written_among home [] cell = []
written_among home (names ∷ list) cell = all_batches (reapplication_of home names.0 names.1 cell) ++ written_among home list (reapplied_at home names cell)

-- strays may be applied again in these workflows, in order
abbrev pub MayReapplyAmong : Desk → List (Name × Name) → Cell → Type 0
MayReapplyAmong home [] cell = Unit {0}
MayReapplyAmong home (names ∷ list) cell =
    HasRoom (learned_of names.0 names.1 cell) × MayWriteAll names.0 names.1 (reapplication_of home names.0 names.1 cell) cell × MayReapplyAmong home list (reapplied_at home names cell)

-- reapplication writes to no workflow of the cell but these, in order
pub record AreReapplied (home : Desk) (list : List (Name × Name)) (cell : Cell) : Type 0 where
  pub ordered : IsStrictlySortedBy names_order list
  pub each : (domain workflow : Name) → is_listed domain workflow list ≡ false → reapplication_of home domain workflow cell ≡ []

-- the cell is after reapplication in some first ones of these workflows
pub record IsReappliedAmongFirst (home : Desk) (list : List (Name × Name)) (before after : Cell) : Type 0 where
  pub count : ℕ
  pub cell : after ≡ reapplied_among home (take count list) before

-- the same of the workflows of batches
pub record IsReappliedInFirst (home : Desk) (workflows : List Batch) (before after : Cell) : Type 0 where
  pub count : ℕ
  pub cell : after ≡ reapplied_in home (take count workflows) before
