-- The fields of what waits in a workflow, in a box where something does.
use Rattle.std.specs.Prelude.{Box, List, [], Option, Some, None}
use Rattle.ndc_model_cells.specs.declared.message.Message.{Message}
use Rattle.ndc_shard_waiting.specs.declared.waiting.Waiting.TheInside.{Inside}

-- the messages in a box, and none where there is no box
abbrev pub messages_in : {Z : Type 0} → Option (Box (List Message) Z) → List Message
messages_in None = []
messages_in (Some box) = box.value

abbrev pub waiting_of : Inside → List Message
waiting_of w = messages_in w.held
