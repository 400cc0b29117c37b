-- What one write does to a sound set: a batch below the tip of a closed part of it, or the first batch of a new run.
use Rattle.std.specs.Prelude.{◌≡◌, ◌≢◌, ◌+◌, true, List, Some, None}
use Rattle.std.specs.List.{AllByRecursion}
use Rattle.ndc_event.specs.Key.{key_lt}
use Rattle.ndc_event.specs.declared.batch.Batch.{Batch}
use Rattle.ndc_event.specs.declared.key.BatchKey.{BatchKey}
use Rattle.ndc_event.specs.Batch.{fault_of}
use Rattle.ndc_model_sets.specs.Sets.{IsSet, batch_at, Has}
use Rattle.ndc_model_sets.specs.Learned.{IsClosed, IsPart}
use Rattle.ndc_model_sets.specs.Paths.{first_id, last_id}
use Rattle.ndc_model_sets.specs.Branches.{greatest_key}
use Rattle.ndc_model_sets.specs.Sound.{IsCopyFit, ContinuesAs}

-- a batch goes below a tip: the greatest batch of what its writer has learned, which is a closed part of the set
-- with no key above the batch's, and with all batches of the batch's version
pub record GoesBelow (batches part : List Batch) (tip new : Batch) : Type 0 where
  pub part_set : IsSet part
  pub part_closed : IsClosed part
  pub within : IsPart part batches
  pub greatest : greatest_key part ≡ Some tip
  pub above : (b : Batch) → Has part b → key_lt b.key new.key ≡ true
  pub own : (b : Batch) → Has batches b → b.key.version ≡ new.key.version → Has part b
  pub fresh : batch_at new.key batches ≡ None
  pub faultless : fault_of new ≡ None
  pub parent : new.parent ≡ Some tip.key
  pub run : new.run ≡ tip.run
  pub ids : last_id tip.events + 1 ≡ first_id new.events

-- a batch begins a run that no other batch is of; where it has a carrier, this is one of the batches and continues as the run
pub record Begins (batches : List Batch) (new : Batch) : Type 0 where
  pub fresh : batch_at new.key batches ≡ None
  pub faultless : fault_of new ≡ None
  pub parent : new.parent ≡ None
  pub alone : (b : Batch) → Has batches b → b.run ≢ new.run
  pub carrier : (key : BatchKey) → new.carrier ≡ Some key → (carrier : Batch) × (batch_at key batches ≡ Some carrier) × ContinuesAs new.run carrier.events

-- the copies in the batch fit the events of the other, and those in the other fit the events of the batch
pub record CopiesFitBothWays (new other : Batch) : Type 0 where
  pub mine : AllByRecursion (λ copy. AllByRecursion (IsCopyFit copy other.run) other.events) new.events
  pub theirs : AllByRecursion (λ copy. AllByRecursion (IsCopyFit copy new.run) new.events) other.events

-- the copies in the batch fit the events of the set and its own, and those of the set fit its events
pub record CopiesFitWith (batches : List Batch) (new : Batch) : Type 0 where
  pub own : AllByRecursion (λ copy. AllByRecursion (IsCopyFit copy new.run) new.events) new.events
  pub others : (b : Batch) → Has batches b → CopiesFitBothWays new b
