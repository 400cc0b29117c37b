-- Words for the laws on lanes.
use Rattle.std.specs.Prelude.{ℕ, ◌≤◌}
use Rattle.ndc_script_types.specs.declared.script.Header.{Header}
use Rattle.ndc_model.specs.Fair.{EachLane}
use Rattle.ndc_model.specs.World.{World, queue_at, trimmed_at}
use Rattle.std.specs.Prelude.{length}

-- what is trimmed is done, what is done was read, and what was read is in the queue
pub record AreInTurn (trimmed done read queued : ℕ) : Type 0 where
  pub trimmed_most : trimmed ≤ done
  pub done_most : done ≤ read
  pub read_most : read ≤ queued

-- the same of each lane of a world
abbrev pub LevelsAreTrue : Header → World → Type 0
LevelsAreTrue header w = EachLane header w (λ link shard lane. AreInTurn (trimmed_at link.source w shard) lane.levels.done lane.levels.read (length (queue_at link.source shard w)))
