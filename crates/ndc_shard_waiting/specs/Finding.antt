-- Messages by the key of their batch.
use Rattle.std.specs.Prelude.{◌-◌, ◌==◌, List, [], ◌∷◌, find, is_some, Option, Some, None, if◌then◌else◌}
use Rattle.ndc_model_cells.specs.declared.message.Message.{Message}
pub use Rattle.ndc_model_cells.specs.Messages.{message_with}
use Rattle.ndc_event.specs.declared.batch.Batch.{Batch}
use Rattle.ndc_event.specs.declared.key.BatchKey.{BatchKey}
use Rattle.ndc_event.specs.Key.{key_eq}

-- the message whose batch has this key
abbrev pub message_at : BatchKey → List Message → Option Message
message_at key messages = find (λ sent. key_eq sent.batch.key key) messages

-- the messages but for the one whose batch has this key
abbrev pub without_message : BatchKey → List Message → List Message
without_message key [] = []
without_message key (sent ∷ messages) = if key_eq sent.batch.key key then messages else sent ∷ without_message key messages

-- the key of the same version one task before, where there is one
abbrev pub key_before : BatchKey → Option BatchKey
key_before key = if key.task == 0 then None else Some (record { version = key.version; task = key.task - 1 })

-- what a message carries
abbrev pub carried_of : Option Message → Option Batch
carried_of None = None
carried_of (Some sent) = sent.second

-- what the message carries whose batch has this key
abbrev pub carried_at : Option BatchKey → List Message → Option Batch
carried_at None messages = None
carried_at (Some key) messages = carried_of (message_at key messages)

-- the message, where it carries a batch
abbrev pub if_carrying : Option Message → Option Message
if_carrying None = None
if_carrying (Some sent) = if is_some sent.second then Some sent else None

-- the message whose batch has this key, where it carries one
abbrev pub carrier_at : Option BatchKey → List Message → Option Message
carrier_at None messages = None
carrier_at (Some key) messages = if_carrying (message_at key messages)
