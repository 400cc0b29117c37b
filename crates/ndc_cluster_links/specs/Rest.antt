-- Queues of which the first entries were dropped, beside the whole queues.
use Rattle.std.specs.Prelude.{◌≡◌, ◌≢◌, ◌≤◌, ◌<◌, ℕ, List, drop, length, slice_index_or, take}
use Rattle.ndc_model_cells.specs.declared.message.Message.{Message}
use Rattle.ndc_model.specs.Queues.{Lane, new_lane}
use Rattle.ndc_queue.specs.Queues.{QueueValue, new_queue, queue_len}

-- what is kept of a queue is the whole queue without its first entries, those that were dropped
pub record IsRestOf (kept : QueueValue) (queue : List Message) : Type 0 where
  pub rest : kept.kept ≡ drop kept.first queue
  pub first_most : kept.first ≤ length queue

-- what is kept of a queue is the prefix of a whole one without its first entries
abbrev pub IsFrontOf : QueueValue → List Message → Type 0
IsFrontOf kept queue = IsRestOf kept (take (queue_len kept) queue)

-- the levels of a lane lie in what is kept of a queue
pub record IsWithin (kept : QueueValue) (lane : Lane) : Type 0 where
  pub first_most : kept.first ≤ lane.levels.done
  pub done_most : lane.levels.done ≤ lane.levels.read
  pub read_most : lane.levels.read ≤ queue_len kept

-- the queue of a shard, and the lane
abbrev pub queue_at : List QueueValue → ℕ → QueueValue
queue_at queues shard = slice_index_or queues shard new_queue

abbrev pub lane_at : List Lane → ℕ → Lane
lane_at lanes shard = slice_index_or lanes shard new_lane

-- what is kept of the queue of each shard is the rest of a whole one
abbrev pub AreRests : List QueueValue → (ℕ → List Message) → Type 0
AreRests queues whole = (shard : ℕ) → shard < length queues → IsRestOf (queue_at queues shard) (whole shard)

-- what is kept of the queue of each shard is the prefix of a whole one
abbrev pub AreFronts : List QueueValue → (ℕ → List Message) → Type 0
AreFronts queues whole = (shard : ℕ) → shard < length queues → IsFrontOf (queue_at queues shard) (whole shard)

-- the levels of each lane lie in what is kept of the queue of its shard
abbrev pub AreWithin : List QueueValue → List Lane → Type 0
AreWithin queues lanes = (shard : ℕ) → shard < length lanes → IsWithin (queue_at queues shard) (lane_at lanes shard)

-- the lane of each shard but this one is done up to the end of what is kept of its queue
abbrev pub AreDoneBut : ℕ → List QueueValue → List Lane → Type 0
AreDoneBut shard queues lanes = (other : ℕ) → other < length lanes → other ≢ shard → (lane_at lanes other).levels.done ≡ queue_len (queue_at queues other)
