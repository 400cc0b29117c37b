-- What is pending by name, in the order of scheduling.
use Rattle.std.specs.Prelude.{ℕ, zero, suc, Bool, false, not, is_some, is_none, nat_eq, List, [], ◌∷◌, ◌++◌, Option, Some, None, if◌then◌else◌, drop, take}
use Rattle.std.specs.Cmp.Lexicographic.{pointwise}
use Rattle.std.specs.List.{filter, list_any}
use Rattle.std.specs.Map.{lookup, values_of}
use Rattle.ndc_event.specs.declared.name.Name.{Name}
use Rattle.ndc_state.specs.declared.pendings.Pending.{Pending}

-- whether two names are one
abbrev pub same_name : Name → Name → Bool
same_name one two = pointwise nat_eq one two

-- what is pending under this name
abbrev pub pending_of : Name → List (Name × Pending) → Option Pending
pending_of name entries = lookup (same_name name) entries

-- whether something is pending and not started
abbrev pub is_waiting : Option Pending → Bool
is_waiting None = false
is_waiting (Some pending) = is_none pending.started

-- whether something is pending and started
abbrev pub is_started : Option Pending → Bool
is_started None = false
is_started (Some pending) = is_some pending.started

-- what the event with this id schedules
abbrev pub scheduled_by : ℕ → Pending
scheduled_by id = record { scheduled = id; started = None }

-- the same, started by the event with this id
abbrev pub started_by : ℕ → Pending → Pending
started_by id pending = record pending { started = Some id }

-- the entry of this name goes last
abbrev pub with_scheduled : Name → ℕ → List (Name × Pending) → List (Name × Pending)
with_scheduled name id entries = entries ++ (name, scheduled_by id) ∷ []

-- the entry of this name is started by the event with this id
abbrev pub with_started : Name → ℕ → List (Name × Pending) → List (Name × Pending)
with_started name id [] = []
with_started name id (entry ∷ entries) =
    if same_name name entry.0 then (entry.0, started_by id entry.1) ∷ entries else entry ∷ with_started name id entries

-- what stands under this name is gone, and the others keep their order
abbrev pub without : Name → List (Name × Pending) → List (Name × Pending)
without name [] = []
without name (entry ∷ entries) = if same_name name entry.0 then without name entries else entry ∷ without name entries

-- whether the name is one of these
abbrev pub is_gone : List Name → Name → Bool
is_gone names name = list_any (same_name name) names

-- what stands under none of these names, in order
abbrev pub remaining : List Name → List (Name × Pending) → List (Name × Pending)
remaining names entries = filter (λ entry. not (is_gone names entry.0)) entries

-- the same of the entries from a place on, without the names
abbrev pub values_from : ℕ → List Name → List (Name × Pending) → List Pending
values_from place names entries = values_of (remaining names (drop place entries))

-- the entry at a place is not started
abbrev pub unstarted_at : ℕ → List (Name × Pending) → List (Name × Pending)
unstarted_at place [] = []
unstarted_at zero (entry ∷ entries) = (entry.0, record entry.1 { started = None }) ∷ entries
unstarted_at (suc place) (entry ∷ entries) = entry ∷ unstarted_at place entries

-- the entries at these places are not started
abbrev pub unstarted : List ℕ → List (Name × Pending) → List (Name × Pending)
unstarted [] entries = entries
unstarted (place ∷ places) entries = unstarted places (unstarted_at place entries)

-- the first entries as they were when none of those at these places was started
abbrev pub gone_back : ℕ → List ℕ → List (Name × Pending) → List (Name × Pending)
gone_back count places entries = unstarted places (take count entries)
