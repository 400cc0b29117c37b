-- Shortcuts upwards through what waits.
use Rattle.std.specs.Prelude.{◌≡◌, true, List, Option, Some, None, IsSome, unwrap_or}
use Rattle.std.specs.Map.{lookup}
use Rattle.ndc_event.specs.declared.batch.Batch.{Batch}
use Rattle.ndc_event.specs.declared.key.BatchKey.{BatchKey}
use Rattle.ndc_event.specs.Key.{key_lt, key_eq}
use Rattle.ndc_model_sets.specs.Sets.{earlier, batch_at}
use Rattle.ndc_shard_waiting.specs.Waiting.{missing_from}

-- the shortcut of a key, where it has one
abbrev pub shortcut_at : BatchKey → List (BatchKey × BatchKey) → Option BatchKey
shortcut_at key shortcuts = lookup (λ other. key_eq other key) shortcuts

-- from the key of one of the batches one goes to a key before it, and upwards from both one comes to the same key
pub record LeadsUp (batches : List Batch) (key to : BatchKey) : Type 0 where
  pub there : IsSome (batch_at key batches)
  pub before : key_lt to key ≡ true
  pub same : missing_from (Some to) batches ≡ missing_from (Some key) batches

-- where one goes from a key: nowhere, where it is that of none of the batches
abbrev pub GoesUp : List Batch → BatchKey → Option BatchKey → Type 0
GoesUp batches key None = batch_at key batches ≡ None
GoesUp batches key (Some to) = LeadsUp batches key to

-- what a batch of this earlier key misses, where these are the ends of those before it
abbrev pub missed_from : List (BatchKey × BatchKey) → BatchKey → Option BatchKey → BatchKey
missed_from ends key None = key
missed_from ends key (Some before) = unwrap_or (shortcut_at before ends) before

abbrev pub missed_by : List (BatchKey × BatchKey) → Batch → BatchKey
missed_by ends b = missed_from ends b.key (earlier b)
