-- Whether the batches of each run and version hang below one another, by the last one of each run so far.
use Rattle.std.specs.Prelude.{◌==◌, Bool, false, not, ◌&&◌, List, [], ◌∷◌, Option, Some, None, if◌then◌else◌}
use Rattle.ndc_event.specs.declared.batch.Batch.{Batch}
use Rattle.ndc_event.specs.declared.key.BatchKey.{BatchKey}
use Rattle.ndc_event.specs.declared.key.RunId.{RunId}
use Rattle.ndc_model_sets.specs.Branches.{same_run}
use Rattle.ndc_model_sets.specs.Keys.{is_key}

-- whether a batch comes after one of its version that is not its parent
abbrev pub is_loose : Option BatchKey → Batch → Bool
is_loose None b = false
is_loose (Some key) b = (key.version == b.key.version) && not (is_key key b.parent)

-- the last batch of each run, with one more
abbrev pub with_last : Batch → (RunId → Option BatchKey) → RunId → Option BatchKey
with_last b last run = if same_run run b.run then Some b.key else last run

-- the first of these batches, in key order, that comes after one of its run and version that is not its parent
abbrev pub first_loose : (RunId → Option BatchKey) → List Batch → Option BatchKey
first_loose last [] = None
first_loose last (b ∷ batches) = if is_loose (last b.run) b then Some b.key else first_loose (with_last b last) batches
