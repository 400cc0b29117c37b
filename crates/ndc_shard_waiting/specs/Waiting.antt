-- The messages of one workflow that are put off, in key order, and what one that is learned frees.
use Rattle.std.specs.Prelude.{map, List, [], ◌∷◌, ◌++◌, Option, Some, IsSome, if◌then◌else◌}
use Rattle.std.specs.List.{AllByRecursion}
use Rattle.ndc_model_cells.specs.declared.message.Message.{Message}
use Rattle.ndc_model_cells.specs.Cells.{both, ancestors_down}
use Rattle.ndc_event.specs.declared.batch.Batch.{Batch}
use Rattle.ndc_event.specs.declared.key.BatchKey.{BatchKey}
use Rattle.ndc_event.specs.Key.{key_lt, key_eq}
use Rattle.ndc_model_sets.specs.Sets.{earlier, IsSet}
use Rattle.ndc_model_cells.specs.Messages.{batches_of, IsMessage, waits_for}

-- a message that can wait: its batch has an earlier key
pub record CanWait (sent : Message) : Type 0 where
  pub message : IsMessage sent
  pub waits : IsSome (earlier sent.batch)

-- messages that wait: their batches are a set, in this order
pub record AreWaiting (waiting : List Message) : Type 0 where
  pub set : IsSet (batches_of waiting)
  pub each : AllByRecursion CanWait waiting

-- the waiting messages with this one at its place
abbrev pub put_off : Message → List Message → List Message
put_off new [] = new ∷ []
put_off new (sent ∷ waiting) =
    if key_lt new.batch.key sent.batch.key then new ∷ sent ∷ waiting
    else if key_eq new.batch.key sent.batch.key then sent ∷ waiting
    else sent ∷ put_off new waiting

-- the messages that wait for one of these batches, or for a batch of one of them
abbrev pub freed_by : List Batch → List Message → List Message
freed_by batches [] = []
freed_by batches (sent ∷ waiting) = if waits_for batches sent then sent ∷ freed_by (batches ++ both sent) waiting else freed_by batches waiting

-- the others
abbrev pub kept_by : List Batch → List Message → List Message
kept_by batches [] = []
kept_by batches (sent ∷ waiting) = if waits_for batches sent then kept_by (batches ++ both sent) waiting else sent ∷ kept_by batches waiting

-- what is learned where this message is: it, and what waits for it, in key order
unfoldable pub freed : Message → List Message → List Message
freed new waiting = new ∷ freed_by (both new) waiting

-- what waits on where this message is learned
unfoldable pub still_put_off : Message → List Message → List Message
still_put_off new waiting = kept_by (both new) waiting

-- the nearest key upwards from this one that is none of these batches', where there is one
abbrev pub missing_from : Option BatchKey → List Batch → Option BatchKey
missing_from wanted batches = (ancestors_down batches (record { wanted = wanted; path = [] })).wanted

-- of each of these batches its key, and the nearest one upwards that is none of theirs
abbrev pub all_missing : List Batch → List (BatchKey × Option BatchKey)
all_missing batches = map (λ b. (b.key, missing_from (Some b.key) batches)) batches
