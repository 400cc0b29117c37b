use Rattle.std.proofs.Common.{◌≡◌, Some}
use Rattle.ndc_model_sets.specs.Sound.{Names}
use Rattle.ndc_model_sets.proofs.Lists.{all-from}
use Rattle.ndc_shard_runs.specs.Copies.{event_of}
use Rattle.ndc_shard_runs.proofs.OriginLemmas.{named-found}
use Rattle.ndc_shard_runs.proofs.laws.an_origin_names_one_event.Goals as goal

pub returns : goal.returns
returns c = λ batches origin b sound has.
    all-from (λ event. Names origin b.run event → event_of origin batches ≡ Some event) b.events (λ event h names. named-found batches sound origin b event has h names)
