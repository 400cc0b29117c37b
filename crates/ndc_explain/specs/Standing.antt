-- The batches that stand on current branches.
use Rattle.std.specs.Prelude.{Bool, not, ◌&&◌, List, [], ◌∷◌, Option, Some, None, if◌then◌else◌}
use Rattle.std.specs.List.{list_any}
use Rattle.ndc_event.specs.declared.batch.Batch.{Batch}
use Rattle.ndc_event.specs.declared.key.BatchKey.{BatchKey}
use Rattle.ndc_event.specs.declared.key.RunId.{RunId}
use Rattle.ndc_model_sets.specs.Branches.{current_tip, runs}
use Rattle.ndc_model_sets.specs.Current.{is_zombie, run_status}
use Rattle.ndc_model_sets.specs.declared.view.RunView.{RunView}
use Rattle.ndc_model_sets.specs.declared.view.View.{View}
use Rattle.ndc_dump.specs.Marks.{current_key}
use Rattle.ndc_dump_causes.specs.Keys.{is_listed, with_key}
use Rattle.ndc_text.specs.Views.{is_on_tip}

-- the key goes last, where there is one and it is not listed
abbrev pub with_optional : Option BatchKey → List BatchKey → List BatchKey
with_optional None keys = keys
with_optional (Some key) keys = with_key key keys

-- the tip of the current branch of a run is listed, unless it is a zombie
abbrev pub with_tip : RunView → List BatchKey → List BatchKey
with_tip run keys = if not (is_zombie run.status) then with_optional (current_key run.branches) keys else keys

abbrev pub with_tips : List RunView → List BatchKey → List BatchKey
with_tips [] keys = keys
with_tips (run ∷ runs) keys = with_tips runs (with_tip run keys)

-- the parent of each listed batch is listed too, going up from the last batch to the first
abbrev pub with_parent : Batch → List BatchKey → List BatchKey
with_parent b keys = if is_listed b.key keys then with_optional b.parent keys else keys

abbrev pub with_parents : List Batch → List BatchKey → List BatchKey
with_parents [] keys = keys
with_parents (b ∷ batches) keys = with_parent b (with_parents batches keys)

-- the keys of the batches on current branches of runs that are not zombies
abbrev pub standing : View → List BatchKey
standing view = with_parents view.batches (with_tips view.runs [])

-- whether a batch is on the current branch of this run, which is not a zombie
abbrev pub is_kept_by : List Batch → Batch → RunId → Bool
is_kept_by batches b run = not (is_zombie (run_status run batches)) && is_on_tip batches b (current_tip run batches)

-- whether a batch is on the current branch of a run that is not a zombie
abbrev pub is_on_current : List Batch → Batch → Bool
is_on_current batches b = list_any (is_kept_by batches b) (runs batches)
