-- Workflows that are listed by domain.
use Rattle.std.specs.Prelude.{◌≡◌, ◌==◌, false, length, List}
use Rattle.std.specs.List.{AllByRecursion}
use Rattle.std.specs.List.Sorted.{IsStrictlySortedBy}
use Rattle.std.specs.Str.{bytes_eq}
use Rattle.ndc_event.specs.declared.name.Name.{Name}
use Rattle.ndc_shard_workflows.specs.Due.{is_listed, names_order}
use Rattle.ndc_shard_workflows.specs.Named.{HoldUnder, all_under}

-- the workflows of all domains, in order
abbrev pub all_listed : List (Name × List (Name × Name)) → List (Name × Name)
all_listed domains = all_under (λ list. list) domains

-- some workflows of a domain, and none of another
pub record AreOf (domain : Name) (list : List (Name × Name)) : Type 0 where
  pub some : (length list == 0) ≡ false
  pub own : (d w : Name) → bytes_eq d domain ≡ false → is_listed d w list ≡ false

-- each domain has some workflows of it
abbrev pub AreByDomain : List (Name × List (Name × Name)) → Type 0
AreByDomain domains = HoldUnder AreOf domains

-- of listed workflows those of a domain, in order
pub record AreThoseOf (domain : Name) (list all : List (Name × Name)) : Type 0 where
  pub ordered : IsStrictlySortedBy names_order list
  pub own : AllByRecursion (λ names. names.0 ≡ domain) list
  pub listed : (w : Name) → is_listed domain w list ≡ is_listed domain w all
