-- Sets that a dump is printed of.
use Rattle.std.specs.Prelude.{◌≡◌, ◌≢◌, List, []}
use Rattle.std.specs.List.{AllByRecursion}
use Rattle.ndc_event.specs.declared.batch.Batch.{Batch}
use Rattle.ndc_event.specs.declared.name.Name.{Name}
use Rattle.ndc_model_sets.specs.Sound.{IsSound}
use Rattle.ndc_text.specs.Ranges.{InRange, IsName}

-- a batch of this domain and workflow
pub record IsOwn (domain workflow : Name) (b : Batch) : Type 0 where
  pub domain_is : b.domain ≡ domain
  pub workflow_is : b.workflow ≡ workflow

-- a sound set of batches of this domain and workflow, not empty, with all numbers in range
pub record CanBeDumped (domain workflow : Name) (batches : List Batch) : Type 0 where
  pub domain_name : IsName domain
  pub workflow_name : IsName workflow
  pub some : batches ≢ []
  pub own : AllByRecursion (IsOwn domain workflow) batches
  pub range : AllByRecursion InRange batches
  pub sound : IsSound batches
