-- What each call of a shard keeps: the set of a workflow, with what was written.
use Rattle.std.proofs.Common.{◌≡◌, ℕ, true, false, List, Some, Result, Ok, Err, refl, sym, ◌∙◌, true≢false}
use Rattle.std.specs.List.{AllByRecursion}
use Rattle.ndc_command.specs.declared.command.Command.{Command}
use Rattle.ndc_command.specs.declared.refusal.CommandError.{CommandError}
use Rattle.ndc_event.specs.declared.batch.Batch.{Batch}
use Rattle.ndc_event.specs.declared.key.BatchKey.{BatchKey}
use Rattle.ndc_event.specs.declared.name.Name.{Name}
use Rattle.ndc_model_cells.specs.Keeping.{HasRange, IsAuthor, IsAuthored, IsKept, IsMessageOf, IsWhole, set_behind, with_entries}
use Rattle.ndc_laws_cells.proofs.AskLemmas.{IsFine, Takes, command-takes, reapplication-takes, reset-takes}
use Rattle.ndc_laws_cells.proofs.KeptLemmas.{arrival-keeps-authors, arrival-keeps-sets}
use Rattle.ndc_laws_cells.proofs.SentLemmas.{arrival-keeps-whole, found-is-of}
use Rattle.ndc_model_cells.specs.declared.message.Message.{Message}
use Rattle.ndc_model_cells.specs.Arrival.{arrived_at}
use Rattle.ndc_model_cells.specs.Cells.{Cell, empty_cell, message_at}
use Rattle.ndc_model_cells.specs.Jobs.{written_at}
use Rattle.ndc_model_cells.specs.Places.{is_of}
use Rattle.ndc_model_cells.specs.Writing.{Desk, Entry, command_of, reapplication_of, reset_at, with_all_written}
use Rattle.ndc_model_sets.specs.Sound.{IsSound}
use Rattle.ndc_shard.specs.Orderly.{IsOrderly}
use Rattle.ndc_shard.proofs.KeepingLemmas.{fine-of}

fine : (all : List Batch) (domain workflow : Name) (cell : Cell) → IsOrderly cell → IsKept all domain workflow cell → IsFine all domain workflow cell
fine all domain workflow cell is kept = fine-of all domain workflow cell is.cell_is (is.workflows domain workflow) kept

-- any sound set of a workflow is kept where nothing has arrived
pub empty-keeps : (all : List Batch) (domain workflow : Name) → AllByRecursion (λ b. is_of domain workflow b ≡ true) all → IsSound all → IsKept all domain workflow empty_cell
empty-keeps all domain workflow own sound = record { own = own; sound = sound; within = λ b has. absurd (cc) }

-- a message of the set arrives
pub arrival-keeps-set : (all : List Batch) (sent : Message) (cell : Cell) → IsOrderly cell → IsKept all sent.batch.domain sent.batch.workflow cell → IsMessageOf all sent
    → IsKept all sent.batch.domain sent.batch.workflow (arrived_at sent cell)
arrival-keeps-set all sent cell is kept message = arrival-keeps-sets all all sent.batch.domain sent.batch.workflow sent cell is.cell_is kept message (λ _. refl) kept

pub arrival-keeps-author : (home : Desk) (all : List Batch) (sent : Message) (cell : Cell) → IsOrderly cell → IsKept all sent.batch.domain sent.batch.workflow cell → IsMessageOf all sent
    → IsAuthor home all sent.batch.domain sent.batch.workflow cell → IsAuthor home all sent.batch.domain sent.batch.workflow (arrived_at sent cell)
arrival-keeps-author home all sent cell is kept message author = arrival-keeps-authors home all all sent.batch.domain sent.batch.workflow sent cell is.cell_is kept message author

pub arrival-keeps-others : (all own : List Batch) (domain workflow : Name) (sent : Message) (cell : Cell) → IsOrderly cell → IsKept own sent.batch.domain sent.batch.workflow cell → IsMessageOf own sent
    → is_of domain workflow sent.batch ≡ false → IsKept all domain workflow cell → IsKept all domain workflow (arrived_at sent cell)
arrival-keeps-others all own domain workflow sent cell is mine message apart kept =
    arrival-keeps-sets all own domain workflow sent cell is.cell_is mine message (λ same. absurd (true≢false (sym same ∙ apart))) kept

pub arrival-keeps-this-whole : (all : List Batch) (sent : Message) (cell : Cell) → IsOrderly cell → IsKept all sent.batch.domain sent.batch.workflow cell → IsMessageOf all sent
    → IsWhole sent.batch.domain sent.batch.workflow cell → IsWhole sent.batch.domain sent.batch.workflow (arrived_at sent cell)
arrival-keeps-this-whole all sent cell is kept message whole = arrival-keeps-whole all sent cell is.cell_is kept message whole

-- what is written is in the set then, and the writer an author still
module _ (home : Desk) (all : List Batch) (domain workflow : Name) (cell : Cell) (is : IsOrderly cell) (by_author : IsAuthored home all domain workflow cell) (range : HasRange all) where
  pub fine-here : IsFine all domain workflow cell
  fine-here = fine all domain workflow cell is by_author.kept

  behind : (r : Result (List Entry) CommandError) → ((entries : List Entry) → r ≡ Ok entries → Takes home all domain workflow cell fine-here by_author.author range entries) → IsAuthored home (set_behind r all) domain workflow (written_at r cell)
  behind (Ok entries) takes = let t = takes entries refl in record { kept = t.fine_then.kept; author = t.author_then; whole = t.whole by_author.whole }
  behind (Err error) takes = by_author

  pub command-keeps : (command : Command) → IsAuthored home (set_behind (command_of home domain workflow command cell) all) domain workflow (written_at (command_of home domain workflow command cell) cell)
  command-keeps command = behind (command_of home domain workflow command cell) (command-takes home all domain workflow cell fine-here by_author.author range command)

  pub reset-keeps : (event : ℕ) → IsAuthored home (set_behind (reset_at home domain workflow event cell) all) domain workflow (written_at (reset_at home domain workflow event cell) cell)
  reset-keeps event = behind (reset_at home domain workflow event cell) (reset-takes home all domain workflow cell fine-here by_author.author range event)

  pub reapplication-keeps : IsAuthored home (with_entries (reapplication_of home domain workflow cell) all) domain workflow (with_all_written (reapplication_of home domain workflow cell) cell)
  reapplication-keeps = let t = reapplication-takes home all domain workflow cell fine-here by_author.author range in record { kept = t.fine_then.kept; author = t.author_then; whole = t.whole by_author.whole }

  -- another cell keeps the set then too, and so does the author of other versions there
  elsewhere : (r : Result (List Entry) CommandError) → ((entries : List Entry) → r ≡ Ok entries → Takes home all domain workflow cell fine-here by_author.author range entries) → (there : Desk) (other : Cell)
      → there.clusters ≡ home.clusters → (there.me ≡ home.me → ⊥) → IsAuthored there all domain workflow other → IsAuthored there (set_behind r all) domain workflow other
  elsewhere (Ok entries) takes there other same apart a =
      let t = takes entries refl in record { kept = t.elsewhere_kept other a.kept; author = t.elsewhere_author there other same apart a.author; whole = a.whole }
  elsewhere (Err error) takes there other same apart a = a

  pub command-elsewhere : (command : Command) (there : Desk) (other : Cell) → there.clusters ≡ home.clusters → (there.me ≡ home.me → ⊥) → IsAuthored there all domain workflow other
      → IsAuthored there (set_behind (command_of home domain workflow command cell) all) domain workflow other
  command-elsewhere command = elsewhere (command_of home domain workflow command cell) (command-takes home all domain workflow cell fine-here by_author.author range command)

  pub reset-elsewhere : (event : ℕ) (there : Desk) (other : Cell) → there.clusters ≡ home.clusters → (there.me ≡ home.me → ⊥) → IsAuthored there all domain workflow other
      → IsAuthored there (set_behind (reset_at home domain workflow event cell) all) domain workflow other
  reset-elsewhere event = elsewhere (reset_at home domain workflow event cell) (reset-takes home all domain workflow cell fine-here by_author.author range event)

  pub reapplication-elsewhere : (there : Desk) (other : Cell) → there.clusters ≡ home.clusters → (there.me ≡ home.me → ⊥) → IsAuthored there all domain workflow other
      → IsAuthored there (with_entries (reapplication_of home domain workflow cell) all) domain workflow other
  reapplication-elsewhere there other same apart a =
      let t = reapplication-takes home all domain workflow cell fine-here by_author.author range in
      record { kept = t.elsewhere_kept other a.kept; author = t.elsewhere_author there other same apart a.author; whole = a.whole }

-- what a cell sends is of the set
pub sent-is-of : (all : List Batch) (domain workflow : Name) (key : BatchKey) (cell : Cell) → IsOrderly cell → IsKept all domain workflow cell → IsWhole domain workflow cell → (sent : Message)
    → message_at cell (record { domain = domain; workflow = workflow; key = key }) ≡ Some sent → IsMessageOf all sent × (is_of domain workflow sent.batch ≡ true)
sent-is-of all domain workflow key cell is kept whole sent e = found-is-of all domain workflow key cell is.cell_is kept whole sent e
