-- A key that is not there has no path.
use Rattle.std.proofs.Common.{◌≡◌, Bool, true, false, List, [], ◌∷◌, Some, None, if◌then◌else◌, refl, ◌∙◌, ap}
use Rattle.ndc_event.specs.Key.{key_eq}
use Rattle.ndc_event.specs.declared.batch.Batch.{Batch}
use Rattle.ndc_event.specs.declared.key.BatchKey.{BatchKey}
use Rattle.ndc_model_sets.specs.Paths.{Walk, path_to, walk_down, walk_over}
use Rattle.ndc_model_sets.specs.Sets.{batch_at}

-- a walk that wants a key that is not there finds nothing
abbrev wanting : BatchKey → Walk
wanting key = record { wanted = Some key; path = [] }

no-walk : (batches : List Batch) (key : BatchKey) → batch_at key batches ≡ None → walk_down batches (wanting key) ≡ wanting key
no-walk [] key e = refl
no-walk (b ∷ batches) key e = by (key_eq b.key key) refl e (no-walk batches key)
  where
    by : (t : Bool) → key_eq b.key key ≡ t → (if t then Some b else batch_at key batches) ≡ None → (batch_at key batches ≡ None → walk_down batches (wanting key) ≡ wanting key)
        → walk_over b (walk_down batches (wanting key)) ≡ wanting key
    by true e f rest = absurd (cc)
    by false e f rest = ap (walk_over b) (rest f) ∙ ap (λ t. if t then record { wanted = b.parent; path = b ∷ [] } else wanting key) e

pub no-path : (batches : List Batch) (key : BatchKey) → batch_at key batches ≡ None → path_to key batches ≡ []
no-path batches key e = ap (λ (w : Walk). w.path) (no-walk batches key e)
