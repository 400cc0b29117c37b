-- Links from earlier keys to the keys of the batches that wait for them.
use Rattle.std.specs.Prelude.{Bool, false, ◌&&◌, List, Option, Some, None}
use Rattle.std.specs.List.{list_any}
use Rattle.ndc_model_cells.specs.declared.message.Message.{Message}
use Rattle.ndc_event.specs.declared.batch.Batch.{Batch}
use Rattle.ndc_event.specs.declared.key.BatchKey.{BatchKey}
use Rattle.ndc_event.specs.Key.{key_eq}
use Rattle.ndc_model_sets.specs.Sets.{earlier}
use Rattle.ndc_model_cells.specs.Messages.{waits_for}
use Rattle.ndc_shard_waiting.specs.declared.links.Link.{Link}

-- whether the second pair of keys is the first one
abbrev pub is_link : BatchKey → BatchKey → BatchKey → BatchKey → Bool
is_link before one earlier own = key_eq earlier before && key_eq own one

-- the same, where there is an earlier key
abbrev pub is_link_for : BatchKey → BatchKey → Option BatchKey → BatchKey → Bool
is_link_for before one None own = false
is_link_for before one (Some earlier) own = is_link before one earlier own

-- whether the batch of the second key waits for that of the first
abbrev pub is_linked : BatchKey → BatchKey → List Link → Bool
is_linked before one links = list_any (λ link. is_link before one link.earlier link.own) links

-- whether among the messages the batch of the second key waits for that of the first
abbrev pub is_awaited : BatchKey → BatchKey → List Message → Bool
is_awaited before one messages = list_any (λ sent. is_link_for before one (earlier sent.batch) sent.batch.key) messages

-- whether the key is that of a message that waits for one of these batches
abbrev pub is_woken : List Batch → BatchKey → List Message → Bool
is_woken batches one messages = list_any (λ sent. key_eq sent.batch.key one && waits_for batches sent) messages
