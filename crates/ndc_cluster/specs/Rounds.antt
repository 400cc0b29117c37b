-- Rounds: what each cell of a cluster does of a list of jobs, by itself.
use Rattle.std.specs.Prelude.{◌≡◌, ℕ, ◌==◌, List, [], ◌∷◌, ◌++◌, drop, length, slice_index_or, slice_set, Option, Some, None, if◌then◌else◌}
use Rattle.std.specs.List.{fold}
use Rattle.std.specs.Option.{option_map}
use Rattle.ndc_model_cells.specs.declared.job.Job.{Job}
use Rattle.ndc_model_cells.specs.declared.job.JobReply.{JobReply}
use Rattle.ndc_model_cells.specs.declared.job.ShardJob.{ShardJob}
use Rattle.ndc_model_cells.specs.declared.message.Message.{Message}
use Rattle.ndc_model_cells.specs.Cells.{Cell, empty_cell}
use Rattle.ndc_model_cells.specs.Jobs.{after_job, reply_to}
use Rattle.ndc_model_cells.specs.Writing.{Desk}
use Rattle.ndc_model_cells.specs.Conditions.{Condition, MayDo}
use Rattle.ndc_cluster.specs.Each.{Each}
use Rattle.ndc_cluster.specs.declared.fresh.Fresh.{Fresh}

-- the jobs of a shard, in order
abbrev pub jobs_of : ℕ → List ShardJob → List Job
jobs_of shard [] = []
jobs_of shard (asked ∷ jobs) = if asked.shard == shard then asked.job ∷ jobs_of shard jobs else jobs_of shard jobs

-- a cell after jobs of its own
abbrev pub cell_after : Desk → List Job → Cell → Cell
cell_after home jobs cell = fold (λ before asked. after_job home asked before) cell jobs

-- what a cell replies to jobs of its own
abbrev pub cell_replies : Desk → List Job → Cell → List JobReply
cell_replies home [] cell = []
cell_replies home (asked ∷ jobs) cell = reply_to home asked cell ∷ cell_replies home jobs (after_job home asked cell)

-- a cell with the jobs that it is to do, what it replied, and what it has written from a place on
pub record SlotValue : Type 0 where
  pub cell : Cell
  pub jobs : List Job
  pub replies : List JobReply
  pub from : ℕ
  pub sent : List Message

-- a slot by its parts
abbrev pub slot_of : Cell → List Job → List JobReply → ℕ → List Message → SlotValue
slot_of cell jobs replies from sent = record { cell = cell; jobs = jobs; replies = replies; from = from; sent = sent }

-- a slot whose jobs were done: what it has written meanwhile stands beside it
abbrev pub slot_done : Desk → SlotValue → SlotValue
slot_done home slot =
    slot_of (cell_after home slot.jobs slot.cell) slot.jobs (slot.replies ++ cell_replies home slot.jobs slot.cell)
    (length slot.cell.written) (drop (length slot.cell.written) (cell_after home slot.jobs slot.cell).written)

-- a slot may do its jobs
abbrev pub SlotMay : Condition → Desk → SlotValue → Type 0
SlotMay allows home slot = MayDo allows home slot.jobs slot.cell

-- a cell that has nothing to do
abbrev pub fresh_slot : Cell → SlotValue
fresh_slot cell = slot_of cell [] [] 0 []

-- a job more for a slot
abbrev pub with_job : Job → SlotValue → SlotValue
with_job asked slot = record slot { jobs = slot.jobs ++ asked ∷ [] }

-- each job goes last among those of the slot of its shard
abbrev pub dealt : List ShardJob → List SlotValue → List SlotValue
dealt [] slots = slots
dealt (asked ∷ jobs) slots = dealt jobs (slice_set slots asked.shard (with_job asked.job (slice_index_or slots asked.shard (fresh_slot empty_cell))))

-- the first item of a list, and what is after it; none, where the list is empty
abbrev pub with_first : {X Y : Type 0} → List X → (X → List X → Option Y) → Option Y
with_first [] next = None
with_first (x ∷ xs) next = next x xs

-- for each job the next reply of its shard; none, where one lacks
abbrev pub taken : List ShardJob → List (List JobReply) → Option (List JobReply)
taken [] replies = Some []
taken (asked ∷ jobs) replies =
    with_first (slice_index_or replies asked.shard []) (λ reply rest. option_map (λ more. reply ∷ more) (taken jobs (slice_set replies asked.shard rest)))

-- the slots of pieces, of which the last ones come first
abbrev pub joined : {X : Type 0} → List (List X) → List X
joined [] = []
joined (piece ∷ pieces) = joined pieces ++ piece

-- what a slot leaves: its cell, and what that has written from a place on
pub record LeftValue : Type 0 where
  pub cell : Cell
  pub fresh : Fresh

-- what a slot leaves by its parts
abbrev pub left_of : Cell → Fresh → LeftValue
left_of cell fresh = record { cell = cell; fresh = fresh }

-- messages that are those which a cell has written from a place on
abbrev pub IsFresh : Fresh → Cell → Type 0
IsFresh one cell = one.messages.items ≡ drop one.from cell.written

-- for each cell messages that it has written from a place on
abbrev pub AreFresh : List Fresh → List Cell → Type 0
AreFresh = Each IsFresh
