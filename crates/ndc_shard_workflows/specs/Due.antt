-- Workflows in which reapplication may be due.
use Rattle.std.specs.Prelude.{◌≡◌, Bool, false, ◌&&◌, List}
use Rattle.std.specs.List.{AllByRecursion, list_any}
use Rattle.std.specs.List.Sorted.{IsStrictlySortedBy}
use Rattle.std.specs.Ordering.{ordering_then}
use Rattle.std.specs.Str.{bytes_eq}
use Rattle.std.specs.declared.cmp.Ordering.{Ordering}
use Rattle.ndc_model_cells.specs.Cells.{Cell, learned_of}
use Rattle.ndc_domain.specs.Records.{names_cmp}
use Rattle.ndc_event.specs.declared.name.Name.{Name}
use Rattle.ndc_shard_runs.specs.Kept.{is_due}

-- how workflows are ordered: by domain, then by name
abbrev pub names_order : Name × Name → Name × Name → Ordering
names_order one two = ordering_then (names_cmp one.0 two.0) (names_cmp one.1 two.1)

-- whether these are the names of this workflow
abbrev pub is_named : Name → Name → Name × Name → Bool
is_named domain workflow names = bytes_eq names.0 domain && bytes_eq names.1 workflow

-- whether a workflow is one of these
abbrev pub is_listed : Name → Name → List (Name × Name) → Bool
is_listed domain workflow list = list_any (is_named domain workflow) list

-- reapplication is due in no workflow of the cell but these
abbrev pub HoldDue : List (Name × Name) → Cell → Type 0
HoldDue list cell = (domain workflow : Name) → is_listed domain workflow list ≡ false → is_due (learned_of domain workflow cell) ≡ false

-- the same of workflows in order, each once
pub record AreDue (list : List (Name × Name)) (cell : Cell) : Type 0 where
  pub ordered : IsStrictlySortedBy names_order list
  pub each : HoldDue list cell

-- reapplication is due in no workflow of another domain than these, in order
pub record AreDueDomains (domains : List Name) (cell : Cell) : Type 0 where
  pub ordered : IsStrictlySortedBy names_cmp domains
  pub each : (domain workflow : Name) → list_any (bytes_eq domain) domains ≡ false → is_due (learned_of domain workflow cell) ≡ false

-- it is due in no workflow of a domain but these of it, in order
pub record AreDueIn (domain : Name) (list : List (Name × Name)) (cell : Cell) : Type 0 where
  pub ordered : IsStrictlySortedBy names_order list
  pub own : AllByRecursion (λ names. names.0 ≡ domain) list
  pub each : (workflow : Name) → is_listed domain workflow list ≡ false → is_due (learned_of domain workflow cell) ≡ false
