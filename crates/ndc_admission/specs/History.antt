-- Whether the version history of a message ends with its batch, and whether it is that of its path.
use Rattle.std.specs.Prelude.{◌≡◌, Bool, false, List, Result, Ok, Err}
use Rattle.std.specs.Cmp.Lexicographic.{pointwise}
use Rattle.ndc_event.specs.declared.batch.Batch.{Batch}
use Rattle.ndc_history.specs.History.{added, is_last, last_item, same_item}
use Rattle.ndc_history.specs.declared.item.AddError.{AddError}
use Rattle.ndc_history.specs.declared.item.Item.{Item}
use Rattle.ndc_model_cells.specs.declared.message.Message.{Message}
use Rattle.ndc_model_sets.specs.Paths.{events_to, last_id, versions_of}
use Rattle.ndc_model_sets.specs.Reading.{items_of, named}

-- the item of a batch: the id of its last event, and its version
abbrev pub item_of_batch : Batch → Item
item_of_batch b = record { id = last_id b.events; version = b.key.version }

-- whether the message's history has a last item, and this is its batch's
abbrev pub history_ends : Message → Bool
history_ends sent = is_last (item_of_batch sent.batch) (last_item sent.history)

-- whether two histories have the same items
abbrev pub same_items : List Item → List Item → Bool
same_items one two = pointwise same_item one two

-- whether a history is what adding an item gave
abbrev pub is_given : Result (List Item) AddError → List Item → Bool
is_given (Ok items) history = same_items items history
is_given (Err why) history = false

-- whether the message's history is this one with the item of its batch added
abbrev pub history_continues : List Item → Message → Bool
history_continues before sent = is_given (added before (item_of_batch sent.batch)) sent.history

-- whether the message's history is that of the path to its batch, whose parent, where it has one, is one of these batches
abbrev pub tells_path : List Batch → Message → Bool
tells_path batches sent = history_continues (items_of (named sent.batch.parent batches) batches) sent

-- the message's history is that of the path to its batch in a set
abbrev pub TellsPathIn : List Batch → Message → Type 0
TellsPathIn all sent = sent.history ≡ versions_of (events_to sent.batch.key all)
