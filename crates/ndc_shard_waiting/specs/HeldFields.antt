-- The fields of what waits in a workflow, where something does.
use Rattle.std.specs.Prelude.{◌≡◌, Some}
use Rattle.ndc_event.specs.declared.key.BatchKey.{BatchKey}
use Rattle.ndc_shard_waiting.specs.Shortcuts.{shortcut_at, LeadsUp}
use Rattle.ndc_shard_waiting.specs.Waiting.{AreWaiting}
use Rattle.ndc_model_cells.specs.Messages.{batches_of}
use Rattle.ndc_shard_waiting.specs.declared.held.Held.TheInside.{Inside}

-- the messages wait, and each shortcut leads upwards through them
pub record IsInside (w : Inside) : Type 0 where
  pub are : AreWaiting w.shelf
  pub lead : (key to : BatchKey) → shortcut_at key w.shortcuts ≡ Some to → LeadsUp (batches_of w.shelf) key to
