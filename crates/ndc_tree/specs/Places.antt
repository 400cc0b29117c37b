-- Where a key stands in a list in key order, or would go.
use Rattle.std.specs.Prelude.{◌≡◌, ℕ, ◌<◌, ◌≤◌, true, false, List, length, slice_get, insert, None}
use Rattle.std.specs.List.{remove}
use Rattle.ndc_event.specs.Key.{key_lt}
use Rattle.ndc_event.specs.declared.batch.Batch.{Batch}
use Rattle.ndc_event.specs.declared.key.BatchKey.{BatchKey}
use Rattle.ndc_model_sets.specs.Keys.{is_key_among, with_key, without_key}
use Rattle.ndc_model_sets.specs.Last.{first_from}
use Rattle.ndc_model_sets.specs.Sets.{batch_at, arrived}
use Rattle.ndc_event.specs.Sorted.{InOrder}

-- the first key comes before the second
abbrev pub key_before : BatchKey → BatchKey → Type 0
key_before one two = key_lt one two ≡ true

-- the first batch comes before the second
abbrev pub comes_before : Batch → Batch → Type 0
comes_before one two = key_before one.key two.key

-- the batch of the key is at the place
pub record IsAt (batches : List Batch) (key : BatchKey) (place : ℕ) : Type 0 where
  pub in_range : place < length batches
  pub found : batch_at key batches ≡ slice_get batches place
  pub first : first_from key batches ≡ slice_get batches place
  pub same : (new : Batch) → new.key ≡ key → arrived new batches ≡ batches

-- there is no batch of the key, and one goes in at the place
pub record IsGap (batches : List Batch) (key : BatchKey) (place : ℕ) : Type 0 where
  pub in_range : place ≤ length batches
  pub absent : batch_at key batches ≡ None
  pub first : first_from key batches ≡ slice_get batches place
  pub put : (new : Batch) → new.key ≡ key → arrived new batches ≡ insert batches place new
  pub order : (new : Batch) → new.key ≡ key → InOrder comes_before (insert batches place new)

-- the key is at the place
pub record IsKeyAt (keys : List BatchKey) (key : BatchKey) (place : ℕ) : Type 0 where
  pub in_range : place < length keys
  pub among : is_key_among key keys ≡ true
  pub same : with_key key keys ≡ keys
  pub taken : without_key key keys ≡ remove keys place
  pub order : InOrder key_before (remove keys place)

-- the key is not there, and goes in at the place
pub record IsKeyGap (keys : List BatchKey) (key : BatchKey) (place : ℕ) : Type 0 where
  pub in_range : place ≤ length keys
  pub absent : is_key_among key keys ≡ false
  pub same : without_key key keys ≡ keys
  pub put : with_key key keys ≡ insert keys place key
  pub order : InOrder key_before (insert keys place key)
