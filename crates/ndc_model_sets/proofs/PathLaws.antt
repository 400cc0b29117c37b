-- The laws of paths.
use Rattle.std.proofs.Common.{◌≡◌, ℕ, true, List, [], ◌∷◌, ◌++◌, Some}
use Rattle.ndc_event.specs.declared.batch.Batch.{Batch}
use Rattle.ndc_event.specs.declared.key.BatchKey.{BatchKey}
use Rattle.ndc_event.specs.Batch.{follow_from}
use Rattle.ndc_history.specs.Common.{id_of}
use Rattle.ndc_history.specs.History.{rises}
use Rattle.ndc_model_sets.specs.Sets.{IsSet, Has}
use Rattle.ndc_model_sets.specs.Learned.{IsClosed}
use Rattle.ndc_model_sets.specs.Paths.{path_to, events_to, last_event, versions_of, last_id_of}
use Rattle.ndc_model_sets.specs.Sound.{AreFaultless, ParentsFit}
use Rattle.ndc_model_sets.proofs.PathLemmas.{path_is, path-below}
use Rattle.ndc_model_sets.proofs.PathIds.{AreEventsTo, path-events}
use Rattle.ndc_model_sets.proofs.HistoryLemmas.{versions-rise, versions-ids}

pub events-to : (batches : List Batch) (b : Batch) → IsSet batches → IsClosed batches → AreFaultless batches → ParentsFit batches → Has batches b → AreEventsTo b (events_to b.key batches)
events-to batches b set closed faultless fit has = path-events batches b (path_to b.key batches) faultless fit (path_is batches b set closed has)

pub counts_from_one : (batches : List Batch) (b : Batch) → IsSet batches → IsClosed batches → AreFaultless batches → ParentsFit batches → Has batches b
    → follow_from 0 (events_to b.key batches) ≡ true
counts_from_one batches b set closed faultless fit has = (events-to batches b set closed faultless fit has).follow

pub ends_with_batch : (batches : List Batch) (b : Batch) → IsSet batches → IsClosed batches → AreFaultless batches → ParentsFit batches → Has batches b
    → last_event (events_to b.key batches) ≡ last_event b.events
ends_with_batch batches b set closed faultless fit has = (events-to batches b set closed faultless fit has).last

pub behind_parent : (batches : List Batch) (b : Batch) (parent : BatchKey) → IsSet batches → Has batches b → b.parent ≡ Some parent → path_to b.key batches ≡ path_to parent batches ++ b ∷ []
behind_parent batches b parent set has e = path-below batches b parent set has e

pub histories_rise : (batches : List Batch) (b : Batch) → IsSet batches → IsClosed batches → AreFaultless batches → ParentsFit batches → Has batches b → rises (versions_of (events_to b.key batches)) ≡ true
histories_rise batches b set closed faultless fit has =
    let a = events-to batches b set closed faultless fit has in (versions-rise 0 0 (events_to b.key batches) a.follow a.climb).0

pub histories_name_last_ids : (batches : List Batch) (b : Batch) (version : ℕ) → IsSet batches → IsClosed batches → AreFaultless batches → ParentsFit batches → Has batches b
    → id_of version (versions_of (events_to b.key batches)) ≡ last_id_of version (events_to b.key batches)
histories_name_last_ids batches b version set closed faultless fit has =
    let a = events-to batches b set closed faultless fit has in versions-ids version 0 (events_to b.key batches) a.climb
