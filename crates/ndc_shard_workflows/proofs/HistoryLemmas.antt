-- The version history of the path to a learned batch.
use Rattle.std.proofs.Common.{◌≡◌, List, Option, Some, None, refl, sym, ◌∙◌, ap}
use Rattle.std.specs.Option.{option_map}
use Rattle.ndc_event.specs.declared.batch.Batch.{Batch}
use Rattle.ndc_event.specs.declared.key.BatchKey.{BatchKey}
use Rattle.ndc_history.specs.declared.item.Item.{Item}
use Rattle.ndc_model_sets.proofs.SetLemmas.{found-key}
use Rattle.ndc_model_sets.specs.Paths.{events_to, versions_of}
use Rattle.ndc_model_sets.specs.Reading.{history_at, items_of, named}
use Rattle.ndc_model_sets.specs.Sets.{batch_at}

-- the history that is found by a batch's key is that of the batch
pub history_is : (batches : List Batch) (key : BatchKey) (history : List Item) → Some history ≡ history_at key batches → history ≡ items_of (named (Some key) batches) batches
history_is batches key history e = by (batch_at key batches) refl e
  where
    by : (o : Option Batch) → batch_at key batches ≡ o → Some history ≡ option_map (λ _. versions_of (events_to key batches)) o → history ≡ items_of o batches
    by None at h = absurd (cc)
    by (Some b) at h =
        let same : history ≡ versions_of (events_to key batches) = cc in
        same ∙ ap (λ (k : BatchKey). versions_of (events_to k batches)) (sym (found-key batches key b at))
