-- What one write adds to all that was written of a workflow.
use Rattle.std.specs.Prelude.{◌≡◌, ℕ, ◌≤◌, true, List, None}
use Rattle.ndc_event.specs.Key.{key_lt}
use Rattle.ndc_event.specs.declared.batch.Batch.{Batch}
use Rattle.ndc_event.specs.declared.key.BatchKey.{BatchKey}
use Rattle.ndc_model_sets.specs.Learned.{IsClosed, IsPart}
use Rattle.ndc_model_sets.specs.Sets.{IsSet, Has, arrived, batch_at}
use Rattle.ndc_model_sets.specs.Sound.{AreFaultless, CopiesNamed, IsSound, ParentsFit, VersionsAreChains}

-- a closed set without faults, where parents fit and the batches of one run and one version form a chain
pub record IsChained (batches : List Batch) : Type 0 where
  pub set : IsSet batches
  pub closed : IsClosed batches
  pub faultless : AreFaultless batches
  pub parents : ParentsFit batches
  pub chains : VersionsAreChains batches

-- with this version a writer may add to all that was written: this is sound and its copies name originals, and what the writer has
-- learned is a closed part of it with all batches of the version and none of a greater one
pub record MayAdd (all part : List Batch) (version : ℕ) : Type 0 where
  pub sound : IsSound all
  pub named : CopiesNamed all
  pub part_set : IsSet part
  pub part_closed : IsClosed part
  pub within : IsPart part all
  pub own : (b : Batch) → Has all b → b.key.version ≡ version → Has part b
  pub top : (b : Batch) → Has part b → b.key.version ≤ version

-- a batch is added: its key is new, and with it all is sound and copies name originals
pub record Added (all : List Batch) (new : Batch) : Type 0 where
  pub fresh : batch_at new.key all ≡ None
  pub sound : IsSound (arrived new all)
  pub named : CopiesNamed (arrived new all)

-- all batches of the key's version come before it
abbrev pub IsNewest : List Batch → BatchKey → Type 0
IsNewest all key = (b : Batch) → Has all b → b.key.version ≡ key.version → key_lt b.key key ≡ true
