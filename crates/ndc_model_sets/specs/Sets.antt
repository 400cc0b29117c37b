-- Sets of batches of one workflow: lists that rise by key, so that equal sets are equal lists.
use Rattle.std.specs.Prelude.{◌≡◌, true, List, [], ◌∷◌, Option, Some, None, find, if◌then◌else◌}
use Rattle.std.specs.List.{AllByRecursion}
use Rattle.ndc_event.specs.Key.{key_lt, key_eq}
use Rattle.ndc_event.specs.declared.batch.Batch.{Batch}
use Rattle.ndc_event.specs.declared.key.BatchKey.{BatchKey}

-- the parent's key, or else the carrier's
abbrev pub earlier_of : Option BatchKey → Option BatchKey → Option BatchKey
earlier_of (Some parent) carrier = Some parent
earlier_of None carrier = carrier

-- the earlier key of a batch: the key of its parent or of its carrier
abbrev pub earlier : Batch → Option BatchKey
earlier b = earlier_of b.parent b.carrier

-- the earlier key, where there is one, comes before the batch's own
abbrev pub PointsBack : Batch → Type 0
PointsBack b = (key : BatchKey) → earlier b ≡ Some key → key_lt key b.key ≡ true

-- all of the batches come after the key
abbrev pub ComeAfter : BatchKey → List Batch → Type 0
ComeAfter key batches = AllByRecursion (λ b. key_lt key b.key ≡ true) batches

-- the keys rise
abbrev pub Rise : List Batch → Type 0
Rise [] = Unit {0}
Rise (b ∷ batches) = ComeAfter b.key batches × Rise batches

-- a set of batches of one workflow
pub record IsSet (batches : List Batch) : Type 0 where
  pub ordered : Rise batches
  pub back : AllByRecursion PointsBack batches

-- the batch with this key
abbrev pub batch_at : BatchKey → List Batch → Option Batch
batch_at key batches = find (λ b. key_eq b.key key) batches

-- the batch is one of them
abbrev pub Has : List Batch → Batch → Type 0
Has batches b = batch_at b.key batches ≡ Some b

-- arrival of a batch: it is put at its place in the order, where its key has not arrived
abbrev pub arrived : Batch → List Batch → List Batch
arrived new [] = new ∷ []
arrived new (b ∷ batches) =
    if key_lt new.key b.key then new ∷ b ∷ batches
    else if key_eq new.key b.key then b ∷ batches
    else b ∷ arrived new batches
