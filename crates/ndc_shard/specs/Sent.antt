-- What a shard has written, kept as the places of its batches.
use Rattle.std.specs.Prelude.{◌≡◌, Bool, true, false, not, is_some, IfSome, List, Option, Some, None}
use Rattle.std.specs.List.{AllByRecursion, filter_map}
use Rattle.ndc_event.specs.declared.batch.Batch.{Batch}
use Rattle.ndc_model_cells.specs.declared.message.Message.{Message}
use Rattle.ndc_model_cells.specs.declared.place.Place.{Place}
use Rattle.ndc_model_cells.specs.Cells.{Cell, arrived_of, message_at}
use Rattle.ndc_model_sets.specs.Sets.{batch_at}
use Rattle.ndc_shard_workflows.specs.Admitting.{IsLone}

-- the messages of the batches at places, as the cell has them
abbrev pub messages_at : List Place → Cell → List Message
messages_at places cell = filter_map (message_at cell) places

-- the cell has the message of a place
abbrev pub IsSent : Cell → Place → Type 0
IsSent cell place = is_some (message_at cell place) ≡ true

-- there is a batch, which no other one carries
abbrev pub is_lone : Option Batch → Bool
is_lone None = false
is_lone (Some b) = not (is_some b.carrier)

-- a batch that another one carries has arrived with it, and no other one carries that
abbrev pub HasCarrier : Cell → Batch → Type 0
HasCarrier cell b = IfSome b.carrier (λ key. is_lone (batch_at key (arrived_of b.domain b.workflow cell)) ≡ true)

-- the cell has the message of each place, no batch has arrived without its carrier, which none carries, and none carries the batch of a message
-- that waits
pub record AreSent (places : List Place) (cell : Cell) : Type 0 where
  pub sent : AllByRecursion (IsSent cell) places
  pub carried : AllByRecursion (HasCarrier cell) cell.arrived
  pub lone : AllByRecursion IsLone cell.waiting
