-- What the caller of a cell vouches for: of each workflow a sound set of batches that holds all that has arrived there.
use Rattle.std.specs.Prelude.{◌≡◌, ℕ, ◌≤◌, ◌^◌, true, is_some, length, List, [], ◌∷◌, Some, None, IfSome, Result, Ok, Err}
use Rattle.std.specs.List.{AllByRecursion, flat_map}
use Rattle.ndc_command.specs.declared.refusal.CommandError.{CommandError}
use Rattle.ndc_domain.specs.Clusters.{writer_of}
use Rattle.ndc_event.specs.declared.batch.Batch.{Batch}
use Rattle.ndc_event.specs.declared.name.Name.{Name}
use Rattle.ndc_model_cells.specs.declared.message.Message.{Message}
use Rattle.ndc_model_cells.specs.Cells.{Cell, arrived_of, learned_of}
use Rattle.ndc_model_cells.specs.Laws.{arrived_second}
use Rattle.ndc_model_cells.specs.Places.{is_of}
use Rattle.ndc_model_cells.specs.Writing.{Desk, Entry, goes_on}
use Rattle.ndc_model_sets.specs.Learned.{IsPart}
use Rattle.ndc_model_sets.specs.Paths.{events_to, versions_of}
use Rattle.ndc_model_sets.specs.Sets.{Has, arrived}
use Rattle.ndc_model_sets.specs.Sound.{CopiesNamed, IsSound}

-- a sound set of batches of a workflow holds all that has arrived of it in a cell
pub record IsKept (all : List Batch) (domain workflow : Name) (cell : Cell) : Type 0 where
  pub own : AllByRecursion (λ b. is_of domain workflow b ≡ true) all
  pub sound : IsSound all
  pub within : IsPart (arrived_of domain workflow cell) all

-- no batch has a task above this one
abbrev pub HaveTasksUpTo : ℕ → List Batch → Type 0
HaveTasksUpTo most batches = (b : Batch) → Has batches b → b.key.task ≤ most

-- a set of batches is in range: its events are at most 10^11 in all, and so are its tasks
pub record HasRange (all : List Batch) : Type 0 where
  pub events_most : length (flat_map (λ b. b.events) all) ≤ 10 ^ 11
  pub tasks_most : HaveTasksUpTo (10 ^ 11) all

-- a batch of the set that names the other as its carrier
pub record IsCarried (all : List Batch) (b second : Batch) : Type 0 where
  pub has : Has all second
  pub carrier : second.carrier ≡ Some b.key

-- a message of a set: that of a batch which no other carries, with the version history of its path, and with the batch that it carries
-- exactly where it goes on as another run
pub record IsMessageOf (all : List Batch) (sent : Message) : Type 0 where
  pub has : Has all sent.batch
  pub lone : sent.batch.carrier ≡ None
  pub history : sent.history ≡ versions_of (events_to sent.batch.key all)
  pub goes : is_some sent.second ≡ goes_on sent.batch
  pub second : IfSome sent.second (IsCarried all sent.batch)

-- a cell may write to a workflow: each origin in the set names an event of it, and all that was written with versions of the cell's cluster is
-- learned
pub record IsAuthor (home : Desk) (all : List Batch) (domain workflow : Name) (cell : Cell) : Type 0 where
  pub named : CopiesNamed all
  pub own : (b : Batch) → Has all b → writer_of home.clusters b.key.version ≡ Some home.me → Has (learned_of domain workflow cell) b

-- the set with the batches of an entry
abbrev pub with_entry : Entry → List Batch → List Batch
with_entry entry all = arrived_second entry.second (arrived entry.batch all)

-- the set with those of entries, in order
abbrev pub with_entries : List Entry → List Batch → List Batch
with_entries [] all = all
with_entries (entry ∷ entries) all = with_entries entries (with_entry entry all)

-- a message may be handed to a cell: it is one of a set that is kept for its workflow, and in range
pub record CanArrive (sent : Message) (cell : Cell) : Type 0 where
  pub all : List Batch
  pub kept : IsKept all sent.batch.domain sent.batch.workflow cell
  pub message : IsMessageOf all sent
  pub range : HasRange all

-- a cell may be asked to write to a workflow: a set is kept for it, in range, of which the cell is an author
pub record CanWrite (home : Desk) (domain workflow : Name) (cell : Cell) : Type 0 where
  pub all : List Batch
  pub kept : IsKept all domain workflow cell
  pub author : IsAuthor home all domain workflow cell
  pub range : HasRange all
  pub limit_most : home.limit ≤ 204800

-- the same of each workflow
abbrev pub CanWriteEach : Desk → Cell → Type 0
CanWriteEach home cell = (domain workflow : Name) → CanWrite home domain workflow cell

-- the set with what was to be written; a refusal leaves it as it was
abbrev pub set_behind : Result (List Entry) CommandError → List Batch → List Batch
set_behind (Ok entries) all = with_entries entries all
set_behind (Err error) all = all

-- what has arrived of a workflow is whole: each batch that no other carries, and that goes on as another run, has arrived with one that it carries
abbrev pub IsWhole : Name → Name → Cell → Type 0
IsWhole domain workflow cell =
    (b : Batch) → Has (arrived_of domain workflow cell) b → b.carrier ≡ None → goes_on b ≡ true → (second : Batch) × Has (arrived_of domain workflow cell) second × (second.carrier ≡ Some b.key)

-- a set that a writer keeps for a workflow
pub record IsAuthored (home : Desk) (all : List Batch) (domain workflow : Name) (cell : Cell) : Type 0 where
  pub kept : IsKept all domain workflow cell
  pub author : IsAuthor home all domain workflow cell
  pub whole : IsWhole domain workflow cell
