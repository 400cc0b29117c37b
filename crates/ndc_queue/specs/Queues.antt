-- A queue of which the first entries were dropped.
use Rattle.std.specs.Prelude.{◌≡◌, ℕ, ◌+◌, ◌≤◌, ◌^◌, List, [], ◌∷◌, ◌++◌, length, None}
use Rattle.ndc_model_cells.specs.declared.message.Message.{Message}
use Rattle.ndc_queue.specs.Lists.{first_from, kept_from}

-- a queue: how many of its first entries were dropped, and the entries that are kept
pub record QueueValue : Type 0 where
  pub first : ℕ
  pub kept : List Message

-- the queue without an entry
abbrev pub new_queue : QueueValue
new_queue = record { first = 0; kept = [] }

-- how many entries a queue has, with those that were dropped
abbrev pub queue_len : QueueValue → ℕ
queue_len queue = queue.first + length queue.kept

-- how many entries a queue may have, with those that were dropped
abbrev pub most_entries : ℕ
most_entries = 10 ^ 12

-- a queue has as many entries as it may have
abbrev pub IsFull : QueueValue → Type 0
IsFull queue = most_entries ≤ queue_len queue

-- of an entry that was dropped names and keys may be left, but no event, no version history and no second batch
pub record IsEmptied (sent : Message) : Type 0 where
  pub events : sent.batch.events ≡ []
  pub history : sent.history ≡ []
  pub second : sent.second ≡ None

-- an entry goes last
abbrev pub pushed : Message → QueueValue → QueueValue
pushed sent queue = record queue { kept = queue.kept ++ sent ∷ [] }

-- all entries below a level are dropped
abbrev pub trimmed : ℕ → QueueValue → QueueValue
trimmed level queue = record { first = first_from queue.first level; kept = kept_from queue.first level queue.kept }
