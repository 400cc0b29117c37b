-- How what is learned of a workflow grows.
use Rattle.std.specs.Prelude.{◌≡◌, List, [], ◌∷◌}
use Rattle.ndc_event.specs.declared.batch.Batch.{Batch}
use Rattle.ndc_model_cells.specs.Messages.{IsMessage, IsNewTo}
use Rattle.ndc_model_cells.specs.declared.message.Message.{Message}
use Rattle.ndc_shard_waiting.specs.Learning.{with_message, with_messages}
use Rattle.ndc_shard_workflows.specs.Admitting.{IsLone}

-- messages as cells write them, whose batches no other carries, arrive one after the other, each new to what is there by then
abbrev pub AreArriving : List Batch → List Message → Type 0
AreArriving known [] = Unit {0}
AreArriving known (sent ∷ messages) = (IsMessage sent × IsLone sent × IsNewTo known sent) × AreArriving (with_message sent known) messages

-- a set came from another one by messages that arrived
pub record ComesFrom (known after : List Batch) : Type 0 where
  pub messages : List Message
  pub are : AreArriving known messages
  pub is : after ≡ with_messages messages known
