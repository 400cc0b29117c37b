-- The version histories of learned branches, by run.
use Rattle.std.specs.Prelude.{ℕ, ◌&&◌, ◌==◌, not, List, [], option_to_list, Option, Some, None, if◌then◌else◌}
use Rattle.std.specs.Global.{Vec}
use Rattle.std.specs.Map.{lookup}
use Rattle.ndc_event.specs.declared.batch.Batch.{Batch}
use Rattle.ndc_event.specs.declared.key.BatchKey.{BatchKey}
use Rattle.ndc_event.specs.declared.key.RunId.{RunId}
use Rattle.ndc_history.specs.declared.item.Item.{Item}
use Rattle.ndc_model_sets.specs.Branches.{same_run}
use Rattle.ndc_model_sets.specs.Keys.{is_key_among}
use Rattle.ndc_model_sets.specs.Reading.{history_at}

-- the items of a list, where there is one
abbrev pub listed : Option (Vec (List Item)) → List (List Item)
listed None = []
listed (Some list) = list.items

-- the histories of a run
abbrev pub histories_at : RunId → List (ℕ × Vec (List Item)) → List (List Item)
histories_at run entries = listed (lookup (λ value. value == run.value) entries)

-- the history of the branch of a run that ends with this batch: none where the batch is of another run, or is a parent, by these keys of parents
abbrev pub branch_ending : RunId → List BatchKey → List Batch → Batch → List (List Item)
branch_ending run parents batches b = if same_run b.run run && not (is_key_among b.key parents) then option_to_list (history_at b.key batches) else []
