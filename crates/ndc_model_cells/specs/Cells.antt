-- Cells: one shard of one cluster, as what has arrived there and what it has written.
use Rattle.std.specs.Prelude.{Bool, true, ◌&&◌, not, find, is_some, option_to_list, List, [], ◌∷◌, Option, Some, None, if◌then◌else◌}
use Rattle.std.specs.List.{AllByRecursion, filter}
use Rattle.ndc_model_cells.specs.declared.message.Message.{Message}
use Rattle.ndc_model_cells.specs.declared.place.Place.{Place}
use Rattle.ndc_model_cells.specs.Places.{AreInOrder, batch_there, is_of}
use Rattle.ndc_event.specs.declared.batch.Batch.{Batch}
use Rattle.ndc_event.specs.declared.key.BatchKey.{BatchKey}
use Rattle.ndc_event.specs.declared.name.Name.{Name}
use Rattle.ndc_model_sets.specs.Learned.{has_key, learned}
use Rattle.ndc_model_sets.specs.Paths.{Walk, events_to, is_wanted, versions_of}
use Rattle.ndc_model_sets.specs.Sets.{earlier, PointsBack}

-- a cell: the batches that have arrived, in order of place; the messages that it has written, in the order of writing, which are its
-- queue; and the messages of what is put off, in order of place
pub record Cell : Type 0 where
  pub arrived : List Batch
  pub written : List Message
  pub waiting : List Message

-- the cell where nothing has happened
abbrev pub empty_cell : Cell
empty_cell = record { arrived = []; written = []; waiting = [] }

-- the batches of a message: its own, and the one that it carries
abbrev pub both : Message → List Batch
both sent = sent.batch ∷ option_to_list sent.second

-- the batches of a workflow that have arrived
abbrev pub arrived_of : Name → Name → Cell → List Batch
arrived_of domain workflow cell = filter (is_of domain workflow) cell.arrived

-- the batches of a workflow that are learned
abbrev pub learned_of : Name → Name → Cell → List Batch
learned_of domain workflow cell = learned (arrived_of domain workflow cell)

-- whether a batch is learned in a cell
abbrev pub is_learned_in : Cell → Batch → Bool
is_learned_in cell b = has_key (Some b.key) (learned_of b.domain b.workflow cell)

-- the batches of a cell that are put off
abbrev pub put_off_in : Cell → List Batch
put_off_in cell = filter (λ b. not (is_learned_in cell b)) cell.arrived

-- a wanted batch is found, and its earlier key is wanted next
abbrev pub ancestors_over : Batch → Walk → Walk
ancestors_over b walk = if is_wanted walk.wanted b then record { wanted = earlier b; path = b ∷ walk.path } else walk

-- following earlier keys through batches, from the last one to the first
abbrev pub ancestors_down : List Batch → Walk → Walk
ancestors_down [] walk = walk
ancestors_down (b ∷ batches) walk = ancestors_over b (ancestors_down batches walk)

-- the way from a batch to its ancestors among these: what was found, and the key that is wanted next
abbrev pub ancestry : Batch → List Batch → Walk
ancestry b batches = ancestors_down batches (record { wanted = earlier b; path = [] })

-- the nearest ancestor of a batch that has not arrived, where there is one
abbrev pub missing_of : Batch → List Batch → Option BatchKey
missing_of b batches = (ancestry b batches).wanted

-- whether the first batch carries the second: the second is of its workflow and names it as its carrier
abbrev pub carries : Batch → Batch → Bool
carries b other = is_of b.domain b.workflow other && is_wanted other.carrier b

-- the message of a batch, as these batches of its workflow and those that have arrived have it: the version history of its path, and
-- the one that it carries
abbrev pub message_of : List Batch → List Batch → Batch → Message
message_of own all b = record { batch = b; history = versions_of (events_to b.key own); second = find (carries b) all }

-- the same, where the batch is not carried by another one; a carried batch has no message of its own
abbrev pub own_message : List Batch → List Batch → Batch → Option Message
own_message own all b = if is_some b.carrier then None else Some (message_of own all b)

-- the message of a batch that a cell has learned
abbrev pub learned_message : Cell → Batch → Option Message
learned_message cell b = own_message (learned_of b.domain b.workflow cell) cell.arrived b

-- the message of what a cell has learned at a place, where there is one
abbrev pub message_found : Cell → Option Batch → Option Message
message_found cell None = None
message_found cell (Some b) = learned_message cell b

abbrev pub message_at : Cell → Place → Option Message
message_at cell place = message_found cell (batch_there (learned_of place.domain place.workflow cell) place)

-- whether the batch that is carried is learned, where there is one
abbrev pub is_second_learned : Cell → Option Batch → Bool
is_second_learned cell None = true
is_second_learned cell (Some second) = is_learned_in cell second

-- whether a message is learned: its batch and the one that it carries are
abbrev pub is_message_learned : Cell → Message → Bool
is_message_learned cell sent = is_learned_in cell sent.batch && is_second_learned cell sent.second

-- a cell as it should be: what has arrived stands in order of place, and each batch comes after its earlier key
pub record IsCell (cell : Cell) : Type 0 where
  pub ordered : AreInOrder cell.arrived
  pub back : AllByRecursion PointsBack cell.arrived
