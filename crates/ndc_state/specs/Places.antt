-- The fields of what is pending, as the entries now and at the last mark.
use Rattle.std.specs.Prelude.{◌≡◌, ℕ, ◌≤◌, List, length, Option, Some, None}
use Rattle.indexmap.specs.IndexMap.{IndexMap}
use Rattle.ndc_event.specs.declared.name.Name.{Name}
use Rattle.ndc_state.specs.declared.pendings.Pending.{Pending}
use Rattle.ndc_state.specs.declared.held.Held.TheInside.{Inside}
use Rattle.ndc_state.specs.Marked.{Marked}
use Rattle.ndc_state.specs.Pendings.{gone_back, remaining}

-- the entries at the mark: those kept, or those now taken back
abbrev pub marked_of : {S : Type 0} → Option (IndexMap Name Pending S) → ℕ → List ℕ → List (Name × Pending) → List (Name × Pending)
marked_of None count places entries = gone_back count places entries
marked_of (Some kept) count places entries = kept.entries

-- these entries are kept
abbrev pub IsKeptAs : {S : Type 0} → Option (IndexMap Name Pending S) → List (Name × Pending) → Type 0
IsKeptAs None entries = ⊥
IsKeptAs (Some kept) entries = kept.entries ≡ entries

-- the entries now, which are those that were not taken out, and at the mark
abbrev pub held_of : Inside → Marked (List (Name × Pending))
held_of p = record {
  current = remaining p.removed.keys p.entries.entries;
  marked = marked_of p.kept p.count p.started.items p.entries.entries;
}

-- as long as none is kept, those at the mark are among those now
abbrev pub IsCountWithin : {S : Type 0} → Option (IndexMap Name Pending S) → ℕ → List (Name × Pending) → Type 0
IsCountWithin None count entries = count ≤ length entries
IsCountWithin (Some kept) count entries = Unit {0}

abbrev pub IsMarkWithin : Inside → Type 0
IsMarkWithin p = IsCountWithin p.kept p.count p.entries.entries
