-- Index lines: what each indexer shows that was told all of a script, up to its first call that fails.
use Rattle.std.specs.Prelude.{ℕ, ◌+◌, Bool, nat_eq, nat_lt, List, [], ◌∷◌, ◌++◌, length, codes, decimal, if◌then◌else◌}
use Rattle.std.specs.List.{flat_map, list_any}
use Rattle.std.specs.Str.{bytes_eq}
use Rattle.ndc_event.specs.declared.batch.Event.{Event}
use Rattle.ndc_event.specs.declared.name.Name.{Name}
use Rattle.ndc_index.specs.Texts.{events_told, kinds_text, open_text, signals_text}
use Rattle.ndc_index.specs.declared.seen.Seen.{Seen}

-- an indexer that is asked for: its name, the numbers of its calls that fail, counted from 1, and the text that it appends of its own
pub record Asked : Type 0 where
  pub name : Name
  pub failing : List ℕ
  pub own : List ℕ

-- what an indexer that was told all of this shows: by its name, or its own text
abbrev pub index_text : Asked → List Event → List ℕ
index_text asked events =
    if bytes_eq asked.name (codes "kinds") then kinds_text events
    else if bytes_eq asked.name (codes "open") then open_text events
    else if bytes_eq asked.name (codes "signals") then signals_text events
    else asked.own

-- how many calls go well before one fails, where the next call has this number
abbrev pub calls_well : List ℕ → ℕ → List Seen → ℕ
calls_well failing number [] = 0
calls_well failing number (told ∷ seen) = if list_any (nat_eq number) failing then 0 else 1 + calls_well failing (number + 1) seen

-- whether an indexer that is to be told all of this is dropped: one of its calls fails
abbrev pub is_dropped : Asked → List Seen → Bool
is_dropped asked seen = nat_lt (calls_well asked.failing 1 seen) (length seen)

-- what an indexer shows: it is dropped at its first call that fails
abbrev pub shown_by : Asked → List Seen → List ℕ
shown_by asked seen =
    if is_dropped asked seen then codes "failed after " ++ decimal (calls_well asked.failing 1 seen)
    else index_text asked (events_told seen)

-- `index NAME TEXT`, or `index NAME failed after CALLS`
abbrev pub index_line : List Seen → Asked → List ℕ
index_line seen asked = codes "index " ++ asked.name ++ codes " " ++ shown_by asked seen ++ codes "\n"

-- a line for each indexer that is asked for
abbrev pub index_lines : List Seen → List Asked → List ℕ
index_lines seen asked = flat_map (index_line seen) asked
