-- The fields of messages that are found by key, as the list in key order.
use Rattle.std.specs.Prelude.{◌≡◌, List, map}
use Rattle.std.specs.Map.{values_of}
use Rattle.ndc_model_cells.specs.declared.message.Message.{Message}
use Rattle.ndc_event.specs.declared.key.BatchKey.{BatchKey}
use Rattle.ndc_shard_waiting.specs.declared.messages.Messages.TheInside.{Inside}

-- each message under its batch's key
abbrev pub by_key : List Message → List (BatchKey × Message)
by_key messages = map (λ sent. (sent.batch.key, sent)) messages

abbrev pub messages_of : Inside → List Message
messages_of m = values_of m.map.entries

abbrev pub StandUnderKeys : Inside → Type 0
StandUnderKeys m = m.map.entries ≡ by_key (values_of m.map.entries)
