-- Indexers that were asked for, and what becomes of them as they are told.
use Rattle.std.specs.Prelude.{ℕ, ◌+◌, Bool, is_some, find, List, [], ◌∷◌, ◌++◌, map, codes, decimal, Option, Some, None, if◌then◌else◌}
use Rattle.std.specs.List.{fold, list_all}
use Rattle.std.specs.Option.{option_map}
use Rattle.std.specs.Str.{bytes_eq}
use Rattle.ndc_event.specs.declared.name.Name.{Name}
use Rattle.ndc_index.specs.Told.{fails_next, text_of}
use Rattle.ndc_index.specs.declared.seen.Seen.{Seen}

-- an indexer: its name, the numbers of its calls that fail, and what it was told
pub record IndexerValue : Type 0 where
  pub title : List ℕ
  pub failing : List ℕ
  pub list : List Seen

-- a seat: the name that was asked for, how many calls went well, and the indexer, until one of its calls fails
pub record SeatValue : Type 0 where
  pub name : Name
  pub calls : ℕ
  pub living : Option IndexerValue

-- an indexer by its parts
abbrev pub shown : List ℕ → List ℕ → List Seen → IndexerValue
shown title failing list = record { title = title; failing = failing; list = list }

-- a seat by its parts
abbrev pub seat_of : Name → ℕ → Option IndexerValue → SeatValue
seat_of name calls living = record { name = name; calls = calls; living = living }

-- a seat after a call of its indexer: it loses one that fails
abbrev pub told_living : Seen → SeatValue → IndexerValue → SeatValue
told_living seen seat one =
    if fails_next one.failing one.list then record seat { living = None }
    else record { name = seat.name; calls = seat.calls + 1; living = Some (record one { list = one.list ++ seen ∷ [] }) }

-- the same where there is an indexer; else nothing changes
abbrev pub told_by : Seen → SeatValue → Option IndexerValue → SeatValue
told_by seen seat None = seat
told_by seen seat (Some one) = told_living seen seat one

-- a seat that is told of a batch
unfoldable pub after_told : Seen → SeatValue → SeatValue
after_told seen seat = told_by seen seat seat.living

-- a seat that is told of each of these
abbrev pub after_all : List Seen → SeatValue → SeatValue
after_all seen seat = fold (λ behind one. after_told one behind) seat seen

-- what a seat shows: what its indexer does, or after how many calls it failed
abbrev pub seat_text : ℕ → Option IndexerValue → List ℕ → List ℕ
seat_text calls None own = codes "failed after " ++ decimal calls
seat_text calls (Some one) own = text_of one.title own one.list

-- the line of a seat, where its indexer has this text of its own
unfoldable pub seat_line : SeatValue → List ℕ → List ℕ
seat_line seat own = codes "index " ++ seat.name ++ codes " " ++ seat_text seat.calls seat.living own ++ codes "\n"

-- the text of an indexer's own, where there is an indexer
abbrev pub own_text : Option (List ℕ) → List ℕ
own_text None = []
own_text (Some text) = text

-- the seat of an indexer that is to be told
abbrev pub new_seat : Name → IndexerValue → SeatValue
new_seat name one = record { name = name; calls = 0; living = Some one }

-- an indexer that was taken out of a list, and what is left
pub record Taken : Type 0 where
  pub one : IndexerValue
  pub rest : List IndexerValue

-- an indexer and those that are left, by their parts
abbrev pub taken_of : IndexerValue → List IndexerValue → Taken
taken_of one rest = record { one = one; rest = rest }

-- an indexer is left where it stands
abbrev pub left_there : IndexerValue → Option Taken → Option Taken
left_there one taken = option_map (λ (t : Taken). record t { rest = one ∷ t.rest }) taken

-- the first indexer of a name is taken out; none, where none has it
abbrev pub taken_out : Name → List IndexerValue → Option Taken
taken_out name [] = None
taken_out name (one ∷ all) = if bytes_eq one.title name then Some (taken_of one all) else left_there one (taken_out name all)

-- seats, and the indexers that are left
pub record Seated : Type 0 where
  pub seats : List SeatValue
  pub rest : List IndexerValue

-- one seat before others
abbrev pub seat_before : SeatValue → Option Seated → Option Seated
seat_before seat seated = option_map (λ (s : Seated). record s { seats = seat ∷ s.seats }) seated

-- what is done with an indexer that was taken out, where one was
abbrev pub with_taken : Option Taken → (Taken → Option Seated) → Option Seated
with_taken None next = None
with_taken (Some taken) next = next taken

-- the seats of names, each with the first indexer of its name that is left; none, where a name has none
abbrev pub seated : List Name → List IndexerValue → Option Seated
seated [] all = Some (record { seats = []; rest = all })
seated (name ∷ names) all = with_taken (taken_out name all) (λ taken. seat_before (new_seat name taken.one) (seated names taken.rest))

-- seats and the indexers that are left, by their parts
abbrev pub seated_of : List SeatValue → List IndexerValue → Seated
seated_of seats rest = record { seats = seats; rest = rest }

-- the seats of those that are told as the script runs, and of those that are told late
pub record Chosen : Type 0 where
  pub asked : List SeatValue
  pub late : List SeatValue

-- both, by their parts
abbrev pub chosen_of : List SeatValue → List SeatValue → Chosen
chosen_of asked late = record { asked = asked; late = late }

-- both, where all names have an indexer
abbrev pub with_late : List SeatValue → Option Seated → Option Chosen
with_late asked None = None
with_late asked (Some second) = Some (chosen_of asked second.seats)

-- what is seated of the late ones, after the others
abbrev pub then_late : List Name → Option Seated → Option Chosen
then_late late None = None
then_late late (Some first) = with_late first.seats (seated late first.rest)

-- the seats of the names that are told as the script runs, and then of the late ones; none, where a name has no indexer
unfoldable pub chosen : List Name → List Name → List IndexerValue → Option Chosen
chosen names late all = then_late late (seated names all)

-- the first indexer of a name
abbrev pub indexer_of : Name → List IndexerValue → Option IndexerValue
indexer_of name all = find (λ one. bytes_eq one.title name) all

-- the seat of a name among these indexers
abbrev pub seat_in : List IndexerValue → Name → SeatValue
seat_in all name = record { name = name; calls = 0; living = indexer_of name all }

-- whether each of the names has an indexer
abbrev pub all_known : List IndexerValue → List Name → Bool
all_known all names = list_all (λ name. is_some (indexer_of name all)) names

-- the seats of names that all have an indexer
abbrev pub seats_known : List IndexerValue → List Name → List Name → Option Chosen
seats_known all names late = if all_known all (names ++ late) then Some (chosen_of (map (seat_in all) names) (map (seat_in all) late)) else None
