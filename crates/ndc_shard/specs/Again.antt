-- Reapplication in the workflows of some domains.
use Rattle.std.specs.Prelude.{◌≡◌, true, false, List, []}
use Rattle.std.specs.List.{AllByRecursion, list_any}
use Rattle.std.specs.List.Sorted.{IsStrictlySortedBy}
use Rattle.std.specs.Str.{bytes_eq}
use Rattle.ndc_event.specs.declared.name.Name.{Name}
use Rattle.ndc_model_cells.specs.Cells.{Cell}
use Rattle.ndc_model_cells.specs.Writing.{Desk, reapplication_of}
use Rattle.ndc_shard_workflows.specs.Due.{is_listed, names_order}

-- of the workflows of these domains reapplication writes to none but these, in order
pub record AreReappliedOf (home : Desk) (domains : List Name) (list : List (Name × Name)) (cell : Cell) : Type 0 where
  pub ordered : IsStrictlySortedBy names_order list
  pub own : AllByRecursion (λ names. list_any (bytes_eq names.0) domains ≡ true) list
  pub each : (domain workflow : Name) → list_any (bytes_eq domain) domains ≡ true → is_listed domain workflow list ≡ false → reapplication_of home domain workflow cell ≡ []
