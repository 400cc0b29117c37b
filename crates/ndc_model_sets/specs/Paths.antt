-- Paths: a batch with its ancestors in its own run.
use Rattle.std.specs.Prelude.{◌≡◌, ◌≢◌, ℕ, Bool, false, ◌==◌, List, [], ◌∷◌, ◌++◌, Option, Some, None, if◌then◌else◌}
use Rattle.ndc_event.specs.Key.{key_eq}
use Rattle.ndc_event.specs.declared.batch.Batch.{Batch}
use Rattle.ndc_event.specs.declared.batch.Event.{Event}
use Rattle.ndc_event.specs.declared.key.BatchKey.{BatchKey}
use Rattle.ndc_history.specs.declared.item.Item.{Item}
use Rattle.ndc_state.specs.Replay.{history_of}
use Rattle.ndc_model_sets.specs.Sets.{batch_at, Has}

-- a walk down a set, from the last batch to the first: the key that is wanted next, and the path found so far
pub record Walk : Type 0 where
  pub wanted : Option BatchKey
  pub path : List Batch

-- whether the batch is the wanted one
abbrev pub is_wanted : Option BatchKey → Batch → Bool
is_wanted None b = false
is_wanted (Some key) b = key_eq b.key key

-- a wanted batch goes before the path, and its parent is wanted next
abbrev pub walk_over : Batch → Walk → Walk
walk_over b w = if is_wanted w.wanted b then record { wanted = b.parent; path = b ∷ w.path } else w

-- the walk down through these batches, from the last one to the first
abbrev pub walk_down : List Batch → Walk → Walk
walk_down [] w = w
walk_down (b ∷ batches) w = walk_over b (walk_down batches w)

-- the path that ends where this key is wanted
abbrev pub path_from : Option BatchKey → List Batch → List Batch
path_from wanted batches = (walk_down batches (record { wanted = wanted; path = [] })).path

-- the path to the batch of this key: its ancestors in its own run, then the batch
abbrev pub path_to : BatchKey → List Batch → List Batch
path_to key batches = path_from (Some key) batches

-- following parents upwards from a batch, one meets this path, up to a batch without a parent
pub data IsPath (batches : List Batch) : Batch → List Batch → Type 0 where
  first : (b : Batch) → Has batches b → b.parent ≡ None → IsPath batches b (b ∷ [])
  below : (b before : Batch) (key : BatchKey) (path : List Batch) → Has batches b → b.parent ≡ Some key → batch_at key batches ≡ Some before
      → IsPath batches before path → IsPath batches b (path ++ b ∷ [])

-- the events of the path to the batch of this key
abbrev pub events_to : BatchKey → List Batch → List Event
events_to key batches = history_of (path_to key batches)

-- an event, and after it the last of these
abbrev pub last_from : Event → List Event → Event
last_from event [] = event
last_from event (next ∷ events) = last_from next events

-- the last of these events
abbrev pub last_event : List Event → Option Event
last_event [] = None
last_event (event ∷ events) = Some (last_from event events)

-- the id of an event, 0 where there is none
abbrev pub id_or_zero : Option Event → ℕ
id_or_zero None = 0
id_or_zero (Some event) = event.id

-- the id of the last of these events, 0 where there is none
abbrev pub last_id : List Event → ℕ
last_id events = id_or_zero (last_event events)

-- the id of the first of these events, 0 where there is none
abbrev pub first_id : List Event → ℕ
first_id [] = 0
first_id (event ∷ events) = event.id

-- the item of an event: its id and its version
abbrev pub item_of : Event → Item
item_of event = record { id = event.id; version = event.version }

-- an item before the items of the later events; a later event of its version takes its place
abbrev pub before_items : Item → List Item → List Item
before_items item [] = item ∷ []
before_items item (next ∷ items) = if item.version == next.version then next ∷ items else item ∷ next ∷ items

-- the version history of these events: one item for each version on them, in order, with the last id of that version
abbrev pub versions_of : List Event → List Item
versions_of [] = []
versions_of (event ∷ events) = before_items (item_of event) (versions_of events)

-- the later id, or that of an earlier event where it is of the version
abbrev pub later_id : Option ℕ → Bool → ℕ → Option ℕ
later_id (Some id) mine earlier = Some id
later_id None mine earlier = if mine then Some earlier else None

-- the id of the last of these events that was written with this version
abbrev pub last_id_of : ℕ → List Event → Option ℕ
last_id_of version [] = None
last_id_of version (event ∷ events) = later_id (last_id_of version events) (event.version == version) event.id

-- two lists go apart: they do not begin with the same item
abbrev pub GoApart : {X : Type 0} → List X → List X → Type 0
GoApart [] ys = Unit {0}
GoApart (x ∷ xs) [] = Unit {0}
GoApart (x ∷ xs) (y ∷ ys) = x ≢ y

-- the item of an event, where there is one
abbrev pub item_at : Option Event → Option Item
item_at None = None
item_at (Some event) = Some (item_of event)

-- the item of the last of these events
abbrev pub last_item_of : List Event → Option Item
last_item_of events = item_at (last_event events)

-- the item of what is best, where there is one
abbrev pub best_item : Option (ℕ × Item) → Option Item
best_item None = None
best_item (Some best) = Some best.1
