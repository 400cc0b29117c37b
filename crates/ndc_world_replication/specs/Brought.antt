-- Messages that were brought, found by key, and the keys of their batches.
use Rattle.std.specs.Prelude.{◌≡◌, List, Some, map}
use Rattle.std.specs.Map.{values_of}
use Rattle.ndc_event.specs.declared.key.BatchKey.{BatchKey}
use Rattle.ndc_model_cells.specs.declared.message.Message.{Message}
use Rattle.ndc_model_cells.specs.Messages.{batches_of}
use Rattle.ndc_model_sets.specs.Keys.{is_key_among}
use Rattle.ndc_model_sets.specs.Learned.{has_key}
use Rattle.ndc_world_replication.specs.declared.brought.Brought.TheInside.{Inside}

-- each message under its batch's key
abbrev pub by_key : List Message → List (BatchKey × Message)
by_key messages = map (λ sent. (sent.batch.key, sent)) messages

abbrev pub messages_of : Inside → List Message
messages_of brought = values_of brought.map.entries

abbrev pub StandUnderKeys : Inside → Type 0
StandUnderKeys brought = brought.map.entries ≡ by_key (values_of brought.map.entries)

-- the keys are those of the batches of the messages
abbrev pub AreKeysOf : List Message → List BatchKey → Type 0
AreKeysOf messages keys = (key : BatchKey) → is_key_among key keys ≡ has_key (Some key) (batches_of messages)
