-- Values under names, in order of the names.
use Rattle.std.specs.Prelude.{◌≡◌, false, List, [], ◌∷◌, ◌++◌, Option, Some, if◌then◌else◌}
use Rattle.std.specs.BTreeMap.{is_at}
use Rattle.std.specs.List.Sorted.{IsStrictlySortedBy}
use Rattle.std.specs.Map.{keys_of, lookup}
use Rattle.std.specs.Str.{bytes_eq}
use Rattle.ndc_domain.specs.Records.{names_cmp}
use Rattle.ndc_event.specs.declared.name.Name.{Name}

-- what stands under a name
abbrev pub under : {X : Type 0} → Name → List (Name × X) → Option X
under name entries = lookup (is_at (names_cmp name)) entries

-- the names rise, and this holds of what stands under each
pub record HoldUnder {X : Type 0} (P : Name → X → Type 0) (entries : List (Name × X)) : Type 0 where
  pub ordered : IsStrictlySortedBy names_cmp (keys_of entries)
  pub each : (name : Name) (x : X) → under name entries ≡ Some x → P name x

-- the names rise, this value stands under the name, and under each other name what stood there before
pub record IsPut {X : Type 0} (name : Name) (x : X) (before after : List (Name × X)) : Type 0 where
  pub ordered : IsStrictlySortedBy names_cmp (keys_of after)
  pub found : (other : Name) → under other after ≡ (if bytes_eq name other then Some x else under other before)

-- under each other name stands what stood there before
abbrev pub StayUnder : {X : Type 0} → Name → List (Name × X) → List (Name × X) → Type 0
StayUnder name before after = (other : Name) → bytes_eq name other ≡ false → under other after ≡ under other before

-- the items of all values, in order
abbrev pub all_under : {X Y : Type 0} → (X → List Y) → List (Name × X) → List Y
all_under items [] = []
all_under items (entry ∷ entries) = items entry.1 ++ all_under items entries
