-- What is learned of a workflow beside what waits.
use Rattle.std.specs.Prelude.{◌≡◌, true, false, List, [], ◌∷◌, None}
use Rattle.std.specs.List.{AllByRecursion}
use Rattle.ndc_model_cells.specs.declared.message.Message.{Message}
use Rattle.ndc_model_cells.specs.Laws.{arrived_second}
use Rattle.ndc_event.specs.declared.batch.Batch.{Batch}
use Rattle.ndc_model_sets.specs.Learned.{has_key, IsClosed}
use Rattle.ndc_model_sets.specs.Sets.{earlier, arrived, batch_at, IsSet}
use Rattle.ndc_shard_waiting.specs.Waiting.{AreWaiting}
use Rattle.ndc_model_cells.specs.Messages.{IsNewTo, batches_of}

-- the set that a message arrives in
abbrev pub with_message : Message → List Batch → List Batch
with_message sent batches = arrived_second sent.second (arrived sent.batch batches)

-- messages arrive, one after the other
abbrev pub with_messages : List Message → List Batch → List Batch
with_messages [] batches = batches
with_messages (sent ∷ messages) batches = with_messages messages (with_message sent batches)

-- beside these learned batches the messages are put off: no key is there, and none whose earlier key is there
pub record ArePutOff (learned : List Batch) (waiting : List Message) : Type 0 where
  pub set : IsSet learned
  pub closed : IsClosed learned
  pub messages : AreWaiting waiting
  pub apart : AllByRecursion (λ b. batch_at b.key learned ≡ None) (batches_of waiting)
  pub off : AllByRecursion (λ b. has_key (earlier b) learned ≡ false) (batches_of waiting)

-- messages can be learned one after the other: none is there, and the earlier key of each is, where it has one
abbrev pub AreLearnable : List Batch → List Message → Type 0
AreLearnable learned [] = Unit {0}
AreLearnable learned (sent ∷ messages) = (IsNewTo learned sent × (has_key (earlier sent.batch) learned ≡ true)) × AreLearnable (with_message sent learned) messages
