-- What indexers that were asked for show after a script.
use Rattle.std.specs.Prelude.{◌≡◌, ℕ, Bool, true, ◌||◌, List, [], ◌∷◌, ◌++◌, codes, Option, Some, None}
use Rattle.std.specs.List.{AllByRecursion}
use Rattle.std.specs.Str.{bytes_eq}
use Rattle.ndc_script_types.specs.declared.script.Script.{Script}
use Rattle.ndc_event.specs.declared.name.Name.{Name}
use Rattle.ndc_index.specs.Lines.{Asked}
use Rattle.ndc_index.specs.Seats.{IndexerValue, SeatValue, after_all, indexer_of, seat_line}
use Rattle.ndc_index.specs.declared.seen.Seen.{Seen}
use Rattle.ndc_model.specs.Lines.{answers_of, ran_of, seen_in}
use Rattle.ndc_model.specs.Report.{report_of}
use Rattle.ndc_port.specs.Bytes.{Appends, AppendsFront}

-- the numbers of an indexer's calls that fail
abbrev pub failing_of : Option IndexerValue → List ℕ
failing_of None = []
failing_of (Some one) = one.failing

-- the first indexer of a name among these, with a text of its own, as a report asks it
abbrev pub asked_for : List IndexerValue → Name → List ℕ → Asked
asked_for all name own = record { name = name; failing = failing_of (indexer_of name all); own = own }

-- the indexers of names, each with a text of its own, where there is one for it
abbrev pub all_asked : List IndexerValue → List Name → List (List ℕ) → List Asked
all_asked all [] owns = []
all_asked all (name ∷ names) [] = asked_for all name [] ∷ all_asked all names []
all_asked all (name ∷ names) (own ∷ owns) = asked_for all name own ∷ all_asked all names owns

-- each of these indexers was told nothing yet
abbrev pub AreNew : List IndexerValue → Type 0
AreNew all = AllByRecursion (λ one. one.list ≡ []) all

-- the lines of seats that were told all of this, each with a text of its own, where there is one for it
abbrev pub seat_lines : List Seen → List SeatValue → List (List ℕ) → List ℕ
seat_lines seen [] owns = []
seat_lines seen (seat ∷ seats) [] = seat_line (after_all seen seat) [] ++ seat_lines seen seats []
seat_lines seen (seat ∷ seats) (own ∷ owns) = seat_line (after_all seen seat) own ++ seat_lines seen seats owns

-- the answers of a script, and the lines of the seats that are told as it runs and of those that are told late
abbrev pub told_text : Script → List SeatValue → List SeatValue → List (List ℕ) → List (List ℕ) → List ℕ
told_text script asked late owns late_owns = answers_of (ran_of script) ++ (seat_lines (seen_in (ran_of script)) asked owns ++ seat_lines (seen_in (ran_of script)) late late_owns)

-- all of that was written, for some texts of the indexers' own
abbrev pub WritesAll : Script → List SeatValue → List SeatValue → Option (List ℕ) → Option (List ℕ) → Type 0
WritesAll script asked late before after = (owns : List (List ℕ)) × (late_owns : List (List ℕ)) × Appends before after (told_text script asked late owns late_owns)

-- a prefix of it was written
abbrev pub WritesFront : Script → List SeatValue → List SeatValue → Option (List ℕ) → Option (List ℕ) → Type 0
WritesFront script asked late before after = (owns : List (List ℕ)) × (late_owns : List (List ℕ)) × AppendsFront before after (told_text script asked late owns late_owns)

-- whether a name is that of an indexer that ships: what it shows is told by its name
abbrev pub is_shipped : Name → Bool
is_shipped name = bytes_eq name (codes "kinds") || (bytes_eq name (codes "open") || bytes_eq name (codes "signals"))

-- each of these names is
abbrev pub AreShipped : List Name → Type 0
AreShipped names = AllByRecursion (λ name. is_shipped name ≡ true) names

-- the report of a script was written, for some texts of the indexers' own; and where all indexers are among those that ship, it is one text, with
-- nothing of their own in it
pub record Reports (script : Script) (all : List IndexerValue) (names late : List Name) (before after : Option (List ℕ)) : Type 0 where
  pub owns : List (List ℕ)
  pub late_owns : List (List ℕ)
  pub written : Appends before after (report_of script (all_asked all names owns) (all_asked all late late_owns))
  pub one_text : AreShipped names → AreShipped late → Appends before after (report_of script (all_asked all names []) (all_asked all late []))

-- a prefix of the report of a script was written, for some texts of the indexers' own
abbrev pub ReportsFront : Script → List IndexerValue → List Name → List Name → Option (List ℕ) → Option (List ℕ) → Type 0
ReportsFront script all names late before after =
    (owns : List (List ℕ)) × (late_owns : List (List ℕ)) × AppendsFront before after (report_of script (all_asked all names owns) (all_asked all late late_owns))
