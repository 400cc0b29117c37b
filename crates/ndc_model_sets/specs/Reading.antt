-- What is read of a tree: paths and version histories.
use Rattle.std.specs.Prelude.{List, [], map, Option, Some, None}
use Rattle.std.specs.Option.{option_map}
use Rattle.ndc_event.specs.declared.batch.Batch.{Batch}
use Rattle.ndc_event.specs.declared.key.BatchKey.{BatchKey}
use Rattle.ndc_event.specs.declared.key.RunId.{RunId}
use Rattle.ndc_history.specs.declared.item.Item.{Item}
use Rattle.ndc_model_sets.specs.Sets.{batch_at}
use Rattle.ndc_model_sets.specs.Branches.{current_tip}
use Rattle.ndc_model_sets.specs.Paths.{path_to, events_to, versions_of}
use Rattle.ndc_model_sets.specs.Last.{first_from}

-- the key of the current branch's tip, where there is a batch
abbrev pub current_key : RunId → List Batch → Option BatchKey
current_key run batches = option_map (λ tip. tip.key) (current_tip run batches)

-- the path to the batch of this key, where it is there
abbrev pub path_at : BatchKey → List Batch → Option (List Batch)
path_at key batches = option_map (λ _. path_to key batches) (batch_at key batches)

-- its keys
abbrev pub path_keys : BatchKey → List Batch → Option (List BatchKey)
path_keys key batches = option_map (λ path. map (λ b. b.key) path) (path_at key batches)

-- the version history of the path to the batch of this key, where it is there
abbrev pub history_at : BatchKey → List Batch → Option (List Item)
history_at key batches = option_map (λ _. versions_of (events_to key batches)) (batch_at key batches)

-- the path to a batch, where there is one
abbrev pub path_of : Option Batch → List Batch → List Batch
path_of None batches = []
path_of (Some b) batches = path_to b.key batches

-- the version history of the path to a batch, where there is one
abbrev pub items_of : Option Batch → List Batch → List Item
items_of None batches = []
items_of (Some b) batches = versions_of (events_to b.key batches)

-- the batch that a key names, where there is one
abbrev pub named : Option BatchKey → List Batch → Option Batch
named None batches = None
named (Some key) batches = batch_at key batches

-- the parent's key of a batch, where there is one
abbrev pub parent_of : Option Batch → Option BatchKey
parent_of None = None
parent_of (Some b) = b.parent

-- the last batch of a smaller version on the path to this one: the parent of the first batch of its version
abbrev pub elder_of : Batch → List Batch → Option Batch
elder_of b batches = named (parent_of (first_from (record { version = b.key.version; task = 0 }) batches)) batches
