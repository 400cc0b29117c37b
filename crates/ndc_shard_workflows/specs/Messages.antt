-- The messages of what is learned of a workflow, and what its batches carry.
use Rattle.std.specs.Prelude.{Bool, false, List, [], ◌∷◌, Option, Some, None, if◌then◌else◌}
use Rattle.std.specs.List.{filter_map}
use Rattle.std.specs.Map.{lookup}
use Rattle.ndc_model_cells.specs.declared.message.Message.{Message}
use Rattle.ndc_model_cells.specs.Cells.{carries, own_message}
use Rattle.ndc_model_cells.specs.Places.{is_of}
use Rattle.ndc_event.specs.Key.{key_eq, key_lt}
use Rattle.ndc_event.specs.declared.batch.Batch.{Batch}
use Rattle.ndc_event.specs.declared.key.BatchKey.{BatchKey}
use Rattle.ndc_model_sets.specs.Keys.{is_key}
use Rattle.ndc_model_sets.specs.Learned.{learned}
use Rattle.ndc_model_sets.specs.Sets.{batch_at}
use Rattle.ndc_model_cells.specs.Workflow.{WorkflowValue}

-- the own message of a learned batch, where there is one, as these batches of its workflow that have arrived have it
abbrev pub own_message_of : List Batch → Option Batch → Option Message
own_message_of arrived None = None
own_message_of arrived (Some b) = own_message (learned arrived) arrived b

-- the own messages of what is learned of a workflow, in key order
abbrev pub messages_in : WorkflowValue → List Message
messages_in w = filter_map (own_message (learned w.arrived) w.arrived) (learned w.arrived)

-- whether a batch is of the workflow of this one, where there is one
abbrev pub is_beside : Option Batch → Batch → Bool
is_beside None other = false
is_beside (Some b) other = is_of b.domain b.workflow other

-- the carrier's key of a batch, where these have a batch of that key in the same workflow
abbrev pub carrier_in : List Batch → Batch → Option BatchKey → Option BatchKey
carrier_in all other None = None
carrier_in all other (Some key) = if is_beside (batch_at key all) other then Some key else None

-- whether a batch is carried by the one of this key among these
abbrev pub is_under : List Batch → BatchKey → Batch → Bool
is_under all key other = is_key key (carrier_in all other other.carrier)

-- the lesser of two keys, where there are two
abbrev pub lesser : BatchKey → Option BatchKey → BatchKey
lesser key None = key
lesser key (Some other) = if key_lt other key then other else key

-- the least key of the batches gone over for which a test holds, with one more
abbrev pub least_with : (Batch → Bool) → Batch → Option BatchKey → Option BatchKey
least_with test b found = if test b then Some (lesser b.key found) else found

-- the same with more of them
abbrev pub least_of : (Batch → Bool) → List Batch → Option BatchKey → Option BatchKey
least_of test [] found = found
least_of test (b ∷ batches) found = least_of test batches (least_with test b found)

-- the key of the first batch for which a test holds
abbrev pub first_key : (Batch → Bool) → List Batch → Option BatchKey
first_key test [] = None
first_key test (b ∷ batches) = if test b then Some b.key else first_key test batches

-- the key of the other batch, where there is one and it is carried by the first
abbrev pub key_if_carried : Batch → Option Batch → Option BatchKey
key_if_carried b None = None
key_if_carried b (Some other) = if carries b other then Some other.key else None

-- the key that is noted for a carrier's key
abbrev pub noted_at : BatchKey → List (BatchKey × BatchKey) → Option BatchKey
noted_at key entries = lookup (λ other. key_eq other key) entries
