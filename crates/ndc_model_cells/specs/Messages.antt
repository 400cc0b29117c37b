-- Messages as cells write them.
use Rattle.std.specs.Prelude.{◌≡◌, List, Some, None, IfSome, Bool, ◌≤◌, ◌^◌, All, [], Option, find}
use Rattle.std.specs.List.{AllByRecursion, flat_map}
use Rattle.ndc_model_cells.specs.declared.message.Message.{Message}
use Rattle.ndc_model_cells.specs.Cells.{both}
use Rattle.ndc_model_cells.specs.Writing.{key_behind}
use Rattle.ndc_event.specs.declared.batch.Batch.{Batch}
use Rattle.ndc_event.specs.declared.key.BatchKey.{BatchKey}
use Rattle.ndc_model_sets.specs.Learned.{has_key}
use Rattle.ndc_model_sets.specs.Sets.{earlier, batch_at, PointsBack}

-- the message that has a batch of this key, its own or the one that it carries
abbrev pub message_with : BatchKey → List Message → Option Message
message_with key messages = find (λ sent. has_key (Some key) (both sent)) messages

-- the batches of messages, each followed by the one that it carries
abbrev pub batches_of : List Message → List Batch
batches_of messages = flat_map both messages

-- a batch that is carried by another: it begins a run, has the next key, and names the other as its carrier
pub record IsCarriedBy (b second : Batch) : Type 0 where
  pub key : second.key ≡ key_behind b.key
  pub parent : second.parent ≡ None
  pub carrier : second.carrier ≡ Some b.key

-- a message as cells write them: its batch points back, and carries what it brings along
pub record IsMessage (sent : Message) : Type 0 where
  pub back : PointsBack sent.batch
  pub second : IfSome sent.second (IsCarriedBy sent.batch)

-- no batch of a message has the key of one of these
abbrev pub IsNewTo : List Batch → Message → Type 0
IsNewTo batches new = AllByRecursion (λ b. batch_at b.key batches ≡ None) (both new)

-- whether a message waits for one of these batches
abbrev pub waits_for : List Batch → Message → Bool
waits_for batches sent = has_key (earlier sent.batch) batches

-- the event ids of a batch are at most 10^12
abbrev pub HasSmallIds : Batch → Type 0
HasSmallIds b = All (λ event. event.id ≤ 10 ^ 12) b.events

-- a batch and the one that it carries, as a message without a history
abbrev pub carrying : Batch → Option Batch → Message
carrying b second = record { batch = b; history = []; second = second }
