-- The first and the last of some batches in key order.
use Rattle.std.specs.Prelude.{Bool, true, false, not, List, [], ◌∷◌, find, Option, Some, None}
use Rattle.std.specs.Option.{option_or}
use Rattle.ndc_event.specs.Key.{key_lt}
use Rattle.ndc_event.specs.declared.batch.Batch.{Batch}
use Rattle.ndc_event.specs.declared.key.BatchKey.{BatchKey}

-- whether there is none
abbrev pub is_nil : List Batch → Bool
is_nil [] = true
is_nil (b ∷ batches) = false

-- the last of these batches
abbrev pub last_batch : List Batch → Option Batch
last_batch [] = None
last_batch (b ∷ batches) = option_or (last_batch batches) (Some b)

-- the first of these batches whose key is not before this one
abbrev pub first_from : BatchKey → List Batch → Option Batch
first_from key batches = find (λ b. not (key_lt b.key key)) batches
