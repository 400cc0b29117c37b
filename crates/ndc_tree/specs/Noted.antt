-- A version history that is noted, so that those of later batches are read off it.
use Rattle.std.specs.Prelude.{◌≡◌, List, Option, true}
use Rattle.ndc_event.specs.declared.batch.Batch.{Batch}
use Rattle.ndc_event.specs.declared.key.BatchKey.{BatchKey}
use Rattle.ndc_history.specs.declared.item.Item.{Item}
use Rattle.ndc_model_sets.specs.Learned.{has_key}
use Rattle.ndc_model_sets.specs.Reading.{items_of, named}

-- what is noted is the version history of the path to a batch that is there, and nothing where no batch is named
abbrev pub IsNoted : List Batch → Option BatchKey → List Item → Type 0
IsNoted batches to items = (items ≡ items_of (named to batches) batches) × (has_key to batches ≡ true)
