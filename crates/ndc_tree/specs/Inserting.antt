-- What becomes of a batch that is handed to a tree.
use Rattle.std.specs.Prelude.{List, Option, Some, None, Result, Ok, Err, not, if◌then◌else◌}
use Rattle.ndc_event.specs.declared.batch.Batch.{Batch}
use Rattle.ndc_event.specs.declared.key.BatchKey.{BatchKey}
use Rattle.ndc_event.specs.declared.key.RunId.{RunId}
use Rattle.ndc_history.specs.declared.item.Item.{Item}
use Rattle.ndc_model_sets.specs.Sets.{batch_at}
use Rattle.ndc_model_sets.specs.Learned.{has_key}
use Rattle.ndc_model_sets.specs.Paths.{last_id}
use Rattle.ndc_tree.specs.declared.answer.Inserted.{Inserted}
use Rattle.ndc_tree.specs.declared.answer.Inserted.TheVariants.{Extended, Forked}
use Rattle.ndc_tree.specs.declared.answer.TreeError.{TreeError}
use Rattle.ndc_tree.specs.declared.answer.TreeError.TheVariants.{MissingParent, NotWellFormed}
use Rattle.ndc_tree.specs.Fitting.{fits}
use Rattle.ndc_tree.specs.Tips.{tip_keys}
use Rattle.ndc_model_sets.specs.Keys.{is_key_among}

-- the item of a batch's last event, where there is a batch
abbrev pub end_of : Option Batch → Item
end_of None = record { id = 0; version = 0 }
end_of (Some b) = record { id = last_id b.events; version = b.key.version }

-- a batch with this parent goes on from a tip, is the first, or begins a branch at the parent's last event
abbrev pub placed : RunId → List Batch → BatchKey → Option BatchKey → Inserted
placed run batches key None = Extended key
placed run batches key (Some parent) = if is_key_among parent (tip_keys run batches) then Extended key else Forked key (end_of (batch_at parent batches))

-- what becomes of a batch that is not there
abbrev pub inserted : RunId → List Batch → Batch → Result Inserted TreeError
inserted run batches b =
    if not (has_key b.parent batches) then Err (MissingParent b.key)
    else if not (fits run batches b) then Err (NotWellFormed b.key)
    else Ok (placed run batches b.key b.parent)
