-- Sets that were written without carriers.
use Rattle.std.specs.Prelude.{◌-◌, Bool, ◌&&◌, is_none, List, map, Some, if◌then◌else◌}
use Rattle.ndc_event.specs.declared.batch.Batch.{Batch}
use Rattle.ndc_event.specs.declared.key.BatchKey.{BatchKey}
use Rattle.ndc_model_sets.specs.Sets.{batch_at}
use Rattle.ndc_text.specs.declared.form.TextForm.{TextForm}
use Rattle.ndc_text.specs.declared.form.TextForm.TheVariants.{One, Two}
use Rattle.ndc_dump_causes.specs.Causes.{closes_for}

-- the key just before, of the same version
abbrev pub key_before : BatchKey → BatchKey
key_before key = record { version = key.version; task = key.task - 1 }

-- whether a batch begins a run that the batch just before continues as
abbrev pub is_carried : List Batch → Batch → Bool
is_carried batches b = is_none b.parent && closes_for b.run (batch_at (key_before b.key) batches)

-- the batch, with the batch just before as its carrier where it is marked
abbrev pub with_carrier : Bool → Batch → Batch
with_carrier mark b = if mark then record b { carrier = Some (key_before b.key) } else b

-- the batch with its carrier
abbrev pub with_carrier_in : List Batch → Batch → Batch
with_carrier_in batches b = with_carrier (is_carried batches b) b

-- the set with carriers: a first batch gets the batch just before it as its carrier, where this ends by continuing as its run
abbrev pub migrated : List Batch → List Batch
migrated batches = map (with_carrier_in batches) batches

-- the set that batches in this form represent
abbrev pub standing_for : TextForm → List Batch → List Batch
standing_for One batches = migrated batches
standing_for Two batches = batches
