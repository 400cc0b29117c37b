-- Worlds in which each reader's levels lie in what is kept of the queues.
use Rattle.std.specs.Prelude.{ℕ, ◌≤◌}
use Rattle.ndc_script_types.specs.declared.script.Header.{Header}
use Rattle.ndc_model.specs.Fair.{EachLane, IsShaped}
use Rattle.ndc_model.specs.Queues.{Lane}
use Rattle.ndc_model.specs.World.{Link, World, queue_at, trimmed_at}
use Rattle.ndc_queue.specs.Levels.{AreLevels}

-- nothing is trimmed that is not done, nothing is done that was not read, and nothing was read beyond the queue's end
pub record AreLevelsKept (w : World) (link : Link) (shard : ℕ) (lane : Lane) : Type 0 where
  pub trimmed_most : trimmed_at link.source w shard ≤ lane.levels.done
  pub levels : AreLevels (queue_at link.source shard w) lane.levels

-- a world of a header's shape, in which this holds of each lane
pub record IsOrderly (header : Header) (w : World) : Type 0 where
  pub shaped : IsShaped header w
  pub lanes : EachLane header w (AreLevelsKept w)
