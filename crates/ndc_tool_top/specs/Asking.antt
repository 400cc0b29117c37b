-- What the program is asked for.
use Rattle.std.specs.Prelude.{ℕ, ⊤, Bool, true, false, not, ◌++◌, List, Option, None, Some}
use Rattle.ndc_event.specs.declared.name.Name.{Name}
use Rattle.ndc_index.specs.Seats.{IndexerValue, all_known}
use Rattle.ndc_tool_words.specs.declared.words.Asked.{Asked}
use Rattle.ndc_tool_words.specs.declared.words.Asked.TheVariants.{Run, Rebuild, Inspect, Make, Demo}
use Rattle.ndc_tool_top.specs.declared.show.ShownAs.{ShownAs}
use Rattle.ndc_tool_top.specs.declared.show.ShownAs.TheVariants as shown

-- whether the program refuses what its words ask for: nothing, or an indexer that is not among these
abbrev pub is_refused : List IndexerValue → Option Asked → Bool
is_refused all None = true
is_refused all (Some (Run workers index late)) = not (all_known all (index ++ late))
is_refused all (Some _) = false

-- what holds where a script is to be run
abbrev pub IfRun : Option Asked → (List Name → List Name → Type 0) → Type 0
IfRun (Some (Run workers index late)) P = P index late
IfRun _ P = ⊤

-- what holds where a dump is to be shown
abbrev pub IfShown : Option Asked → (ShownAs → Type 0) → Type 0
IfShown (Some Rebuild) P = P shown.Dump
IfShown (Some Inspect) P = P shown.Tree
IfShown _ P = ⊤

-- what holds where a script is to be made
abbrev pub IfMade : Option Asked → (ℕ → ℕ → Type 0) → Type 0
IfMade (Some (Make count seed)) P = P count seed
IfMade _ P = ⊤

-- what holds where it is to be shown what becomes of a script
abbrev pub IfDemo : Option Asked → (ℕ → Type 0) → Type 0
IfDemo (Some (Demo count)) P = P count
IfDemo _ P = ⊤

-- whether a script is to be run
abbrev pub is_run : Option Asked → Bool
is_run (Some (Run workers index late)) = true
is_run _ = false

-- whether a dump is to be shown
abbrev pub is_shown : Option Asked → Bool
is_shown (Some Rebuild) = true
is_shown (Some Inspect) = true
is_shown _ = false
