-- Batches that are listed under their runs.
use Rattle.std.specs.Prelude.{List, []}
use Rattle.std.specs.Map.{lookup}
use Rattle.std.specs.Option.{unwrap_or}
use Rattle.ndc_event.specs.declared.batch.Batch.{Batch}
use Rattle.ndc_event.specs.declared.key.RunId.{RunId}
use Rattle.ndc_model_sets.specs.Branches.{same_run}

-- the batches that are listed under a run
abbrev pub listed : RunId → List (RunId × List Batch) → List Batch
listed run lists = unwrap_or (lookup (same_run run) lists) []
