-- What is found of a workflow.
use Rattle.std.specs.Prelude.{List, [], Option, Some, None}
use Rattle.ndc_event.specs.declared.batch.Batch.{Batch}

-- the batches that are found; none where there is nothing
abbrev pub batches_or_none : Option (List Batch) → List Batch
batches_or_none None = []
batches_or_none (Some batches) = batches
