-- Paths of batches.
use Rattle.std.specs.Prelude.{◌≤◌, ◌^◌, List, All}
use Rattle.ndc_event.specs.declared.batch.Batch.{Batch}

-- the ids of the batches' events are at most 10^12
abbrev pub HaveSmallIds : List Batch → Type 0
HaveSmallIds batches = All (λ batch. All (λ event. event.id ≤ 10 ^ 12) batch.events) batches
