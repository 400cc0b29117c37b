-- Batches as they are read of a dump.
use Rattle.std.specs.Prelude.{◌≤◌, ◌^◌, All, List}
use Rattle.std.specs.List.{AllByRecursion}
use Rattle.ndc_event.specs.declared.batch.Batch.{Batch}
use Rattle.ndc_model_sets.specs.Sets.{IsSet}
use Rattle.ndc_model_sets.specs.Sound.{AreFaultless}
use Rattle.ndc_text.specs.Ranges.{InRange}

-- a set of batches, each without a fault and with its numbers in range
pub record AreRead (batches : List Batch) : Type 0 where
  pub set : IsSet batches
  pub faultless : AreFaultless batches
  pub range : AllByRecursion InRange batches

-- the ids of a batch's events are at most 10^12
abbrev pub HasSmallIds : Batch → Type 0
HasSmallIds b = All (λ event. event.id ≤ 10 ^ 12) b.events
