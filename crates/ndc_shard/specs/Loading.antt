-- A cell that is loaded from what another one has learned.
use Rattle.std.specs.Prelude.{◌≡◌, List, [], ◌∷◌, Some}
use Rattle.std.specs.List.{IsAmong}
use Rattle.ndc_event.specs.declared.batch.Batch.{Batch}
use Rattle.ndc_event.specs.declared.name.Name.{Name}
use Rattle.ndc_model_cells.specs.declared.message.Message.{Message}
use Rattle.ndc_model_cells.specs.Arrival.{arrived_at}
use Rattle.ndc_model_cells.specs.Cells.{Cell, learned_message, learned_of}
use Rattle.ndc_model_cells.specs.Domains.{learned_of_domains}
use Rattle.ndc_model_sets.specs.Sets.{Has}

-- a message of what a cell has learned
pub record IsSentBy (cell : Cell) (sent : Message) : Type 0 where
  pub batch : Batch
  pub learned : Has (learned_of batch.domain batch.workflow cell) batch
  pub is : learned_message cell batch ≡ Some sent

-- these messages are those of all that a cell has learned of a domain, in any order, and each any number of times
pub record AreAllOf (domain : Name) (cell : Cell) (messages : List Message) : Type 0 where
  pub told : (sent : Message) → IsAmong messages sent → IsAmong (learned_of_domains (domain ∷ []) cell) sent
  pub all : (sent : Message) → IsAmong (learned_of_domains (domain ∷ []) cell) sent → IsAmong messages sent

-- a cell to which messages were handed, one after the other
abbrev pub handed : List Message → Cell → Cell
handed [] cell = cell
handed (sent ∷ messages) cell = handed messages (arrived_at sent cell)
