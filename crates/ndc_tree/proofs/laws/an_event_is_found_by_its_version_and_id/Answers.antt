use Rattle.std.proofs.Common.{◌≡◌, Some}
use Rattle.ndc_model_sets.proofs.BranchLemmas.{has-among}
use Rattle.ndc_model_sets.proofs.Lists.{all-from}
use Rattle.ndc_tree.specs.Events.{event_at}
use Rattle.ndc_tree.proofs.RiseLemmas.{found, ids-rise}
use Rattle.ndc_tree.proofs.laws.an_event_is_found_by_its_version_and_id.Goals as goal

pub returns : goal.returns
returns c = λ run batches b tree has.
    all-from (λ event. event_at event.version event.id batches ≡ Some event) b.events (λ event h. found batches b event (ids-rise run batches tree) (has-among batches b has) h)
