-- The fields of a shelf.
use Rattle.std.specs.Prelude.{◌≡◌}
use Rattle.ndc_event.specs.declared.key.BatchKey.{BatchKey}
use Rattle.ndc_shard_waiting.specs.Linking.{is_linked, is_awaited}
use Rattle.ndc_shard_waiting.specs.Waiting.{AreWaiting}
use Rattle.ndc_shard_waiting.specs.declared.shelf.Shelf.TheInside.{Inside}

-- the messages wait, and each is linked from its earlier key
pub record IsShelf (shelf : Inside) : Type 0 where
  pub are : AreWaiting shelf.messages
  pub linked : (before one : BatchKey) → is_linked before one shelf.links ≡ is_awaited before one shelf.messages
