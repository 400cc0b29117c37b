-- Arrival of messages at a cell.
use Rattle.std.specs.Prelude.{Bool, is_some, map, not, List, [], ◌∷◌, Option, Some, None, if◌then◌else◌, unwrap_or}
use Rattle.std.specs.List.{filter}
use Rattle.ndc_model_cells.specs.declared.job.Arrived.{Arrived}
use Rattle.ndc_model_cells.specs.declared.job.Arrived.TheVariants.{Known, Learned, PutOff}
use Rattle.ndc_model_cells.specs.declared.message.Message.{Message}
use Rattle.ndc_model_cells.specs.Cells.{Cell, arrived_of, is_learned_in, learned_of, missing_of}
use Rattle.ndc_model_cells.specs.Places.{batch_there, is_at, placed, place_lt, place_of}
use Rattle.ndc_event.specs.declared.batch.Batch.{Batch}
use Rattle.ndc_model_sets.specs.Learned.{has_key}

-- the second batch goes to its place, where there is one
abbrev pub placed_second : Option Batch → List Batch → List Batch
placed_second None batches = batches
placed_second (Some second) batches = placed second batches

-- whether a batch has arrived at the place of this one
abbrev pub has_arrived : Batch → Cell → Bool
has_arrived b cell = is_some (batch_there cell.arrived (place_of b))

-- a message goes to the place of its batch among others, where none is there
abbrev pub message_placed : Message → List Message → List Message
message_placed new [] = new ∷ []
message_placed new (sent ∷ messages) =
    if place_lt (place_of new.batch) (place_of sent.batch) then new ∷ sent ∷ messages
    else if is_at (place_of new.batch) sent.batch then sent ∷ messages
    else sent ∷ message_placed new messages

-- the messages whose batches are put off wait, the others do not
abbrev pub still_waiting : Cell → Cell
still_waiting cell = record cell { waiting = filter (λ sent. not (is_learned_in cell sent.batch)) cell.waiting }

-- the cell after the arrival of a batch, and of the one that it carries
abbrev pub cell_with : Message → Cell → Cell
cell_with sent cell = still_waiting (record cell { arrived = placed_second sent.second (placed sent.batch cell.arrived); waiting = message_placed sent cell.waiting })

-- the batches that are learned after and were not before
abbrev pub newly_learned : List Batch → List Batch → List Batch
newly_learned before after = filter (λ b. not (has_key (Some b.key) before)) after

-- the batches that a message makes learned where it is not known, in key order
abbrev pub learned_with : Message → Cell → List Batch
learned_with sent cell =
    newly_learned (learned_of sent.batch.domain sent.batch.workflow cell) (learned_of sent.batch.domain sent.batch.workflow (cell_with sent cell))

-- the batches that the arrival of a message makes learned, in key order
unfoldable pub learned_by : Message → Cell → List Batch
learned_by sent cell = if has_arrived sent.batch cell then [] else learned_with sent cell

-- what comes of an arrival that is not known: what it made learned, or what is missing
abbrev pub arrival_in : Message → List Batch → List Batch → Arrived
arrival_in sent newly arrived =
    if has_key (Some sent.batch.key) newly then Learned (map (λ b. b.key) newly) else PutOff (unwrap_or (missing_of sent.batch arrived) sent.batch.key)

-- arrival of a message: what comes of it
unfoldable pub arrival_of : Message → Cell → Arrived
arrival_of sent cell =
    if has_arrived sent.batch cell then Known
    else arrival_in sent (learned_with sent cell) (arrived_of sent.batch.domain sent.batch.workflow (cell_with sent cell))

-- the cell after the arrival of a message: a known one changes nothing
unfoldable pub arrived_at : Message → Cell → Cell
arrived_at sent cell = if has_arrived sent.batch cell then cell else cell_with sent cell
