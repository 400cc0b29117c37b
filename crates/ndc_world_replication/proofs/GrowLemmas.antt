-- What cells have written only grows.
use Rattle.std.proofs.Common.{◌≡◌, ◌≢◌, ◌==◌, ◌<◌, ◌≤◌, ◌+◌, ℕ, zero, suc, Bool, true, false, List, [], ◌∷◌, ◌++◌, Result, Ok, Err, map, replicate, set, take, length, refl, ap, sym, subst, ◌∙◌, append_assoc, arith, length-append}
use Rattle.std.proofs.Math.Seq.{map-set_same}
use Rattle.std.proofs.lemmas.Bool.{eqb-false, eqb-true}
use Rattle.std.proofs.lemmas.List.{append-nil, get_or-set_other, take_all, take-append-le}
use Rattle.ndc_model_cells.specs.declared.job.Job.{Job}
use Rattle.ndc_model_cells.specs.declared.job.Job.TheVariants as job
use Rattle.ndc_model_cells.specs.declared.job.ShardJob.{ShardJob}
use Rattle.ndc_model_cells.specs.declared.message.Message.{Message}
use Rattle.ndc_model_cells.specs.Arrival.{arrived_at, has_arrived}
use Rattle.ndc_model_cells.specs.Cells.{Cell}
use Rattle.ndc_model_cells.specs.Jobs.{after_job, cell_for, cells_after, cells_behind, reapplied_in, replies_to, reply_to, workflows_of, written_at}
use Rattle.ndc_model_cells.specs.Writing.{Entry, Desk, command_of, entry_message, reapplication_of, reset_at, with_all_written, with_batches, with_written}
use Rattle.ndc_command.specs.declared.refusal.CommandError.{CommandError}
use Rattle.ndc_event.specs.declared.batch.Batch.{Batch}
use Rattle.ndc_cluster_links.proofs.RestLemmas.{len_kept}
use Rattle.ndc_cluster_links.proofs.QueueLemmas.{front_rest}
use Rattle.ndc_cluster_links.specs.Rest.{AreFronts, IsFrontOf, IsRestOf, queue_at}
use Rattle.ndc_queue.specs.Queues.{QueueValue, new_queue, queue_len}
use Rattle.ndc_cluster.proofs.ShardLemmas.{cell_by_itself, cells-many}
use Rattle.ndc_cluster.specs.Rounds.{cell_after, jobs_of}
use Rattle.ndc_world_replication.specs.Publishers.{AreRestsBut, AreTied}

-- one list goes on from another

abbrev GoesOn : List Message → List Message → Type 0
GoesOn before after = (more : List Message) × (after ≡ before ++ more)

-- a list goes on from itself
stays : (xs : List Message) → GoesOn xs xs
stays xs = ([], sym (append-nil xs))

-- and from what another one goes on from that it goes on from
goes-on : (xs ys zs : List Message) → GoesOn xs ys → GoesOn ys zs → GoesOn xs zs
goes-on xs ys zs one two = (one.0 ++ two.0, two.1 ∙ ap (λ list. list ++ two.0) one.1 ∙ append_assoc xs one.0 two.0)

-- entries that are written
written-all : (entries : List Entry) (cell : Cell) → GoesOn cell.written (with_all_written entries cell).written
written-all [] cell = stays cell.written
written-all (entry ∷ entries) cell =
    goes-on cell.written (with_written entry cell).written (with_all_written entries (with_written entry cell)).written
    (entry_message entry (with_batches entry cell) ∷ [], refl) (written-all entries (with_written entry cell))

-- what was to be written, or a refusal
written-now : (outcome : Result (List Entry) CommandError) (cell : Cell) → GoesOn cell.written (written_at outcome cell).written
written-now (Ok entries) cell = written-all entries cell
written-now (Err error) cell = stays cell.written

-- reapplication in workflows
written-again : (home : Desk) (workflows : List Batch) (cell : Cell) → GoesOn cell.written (reapplied_in home workflows cell).written
written-again home [] cell = stays cell.written
written-again home (b ∷ workflows) cell =
    let next : Cell = with_all_written (reapplication_of home b.domain b.workflow cell) cell in
    goes-on cell.written next.written (reapplied_in home workflows next).written (written-all (reapplication_of home b.domain b.workflow cell) cell) (written-again home workflows next)

-- an arrival
written-arrived : (sent : Message) (cell : Cell) → GoesOn cell.written (arrived_at sent cell).written
unfolding arrived_at
written-arrived sent cell = by (has_arrived sent.batch cell) refl
  where
    by : (b : Bool) → has_arrived sent.batch cell ≡ b → GoesOn cell.written (arrived_at sent cell).written
    by true known = rw known (stays cell.written)
    by false new = rw new (stays cell.written)

-- a job
written-job : (home : Desk) (asked : Job) (cell : Cell) → GoesOn cell.written (after_job home asked cell).written
unfolding after_job
written-job home (job.Command domain workflow command) cell = written-now (command_of home domain workflow command cell) cell
written-job home (job.Arrive message) cell = written-arrived message cell
written-job home job.Reapply cell = written-again home (workflows_of cell.arrived) cell
written-job home (job.Reset domain workflow event) cell = written-now (reset_at home domain workflow event cell) cell

-- jobs of one cell
written-jobs : (home : Desk) (jobs : List Job) (cell : Cell) → GoesOn cell.written (cell_after home jobs cell).written
written-jobs home [] cell = stays cell.written
written-jobs home (asked ∷ jobs) cell =
    goes-on cell.written (after_job home asked cell).written (cell_after home jobs (after_job home asked cell)).written (written-job home asked cell) (written-jobs home jobs (after_job home asked cell))

-- what is kept of a queue is the prefix of what goes on from the whole
front-grown : (kept : QueueValue) (whole after : List Message) → IsRestOf kept whole → GoesOn whole after → IsFrontOf kept after
front-grown kept whole after it grown =
    let same : take (queue_len kept) after ≡ whole =
    ap (take (queue_len kept)) grown.1 ∙ ap (λ n. take n (whole ++ grown.0)) (len_kept kept whole it)
    ∙ take-append-le (length whole) whole grown.0 (omega arith) ∙ take_all (length whole) whole (omega arith) in
    subst (IsRestOf kept) (sym same) it

-- after jobs a cell has written no less
pub written_more : (home : Desk) (jobs : List ShardJob) (cells : List Cell) (shard : ℕ) → shard < length cells
    → length (cell_for shard cells).written ≤ length (cell_for shard (cells_after home jobs cells)).written
written_more home jobs cells shard below =
    let grown = written-jobs home (jobs_of shard jobs) (cell_for shard cells) in
    let more : length (cell_after home (jobs_of shard jobs) (cell_for shard cells)).written ≡ length (cell_for shard cells).written + length grown.0 =
    ap length grown.1 ∙ length-append (cell_for shard cells).written grown.0 in
    omega (arith, more, ap (λ (cell : Cell). length cell.written) (cell_by_itself home jobs cells shard below))

-- after jobs what is kept of each queue is the prefix of what its cell has written
pub fronts_after : (home : Desk) (jobs : List ShardJob) (cells : List Cell) (queues : List QueueValue) → AreTied cells queues
    → AreFronts queues (λ shard. (cell_for shard (cells_after home jobs cells)).written)
fronts_after home jobs cells queues tied shard below =
    let inside : shard < length cells = omega (arith, below, tied.alike) in
    let grown = written-jobs home (jobs_of shard jobs) (cell_for shard cells) in
    front-grown (queue_at queues shard) (cell_for shard cells).written (cell_for shard (cells_after home jobs cells)).written (tied.rests shard below)
    (subst (λ (cell : Cell). GoesOn (cell_for shard cells).written cell.written) (sym (cell_by_itself home jobs cells shard inside)) grown)

-- and where a shard has no job, its rest
pub rests_but : (home : Desk) (jobs : List ShardJob) (cells : List Cell) (queues : List QueueValue) → AreTied cells queues
    → AreRestsBut jobs queues (λ shard. (cell_for shard (cells_after home jobs cells)).written)
rests_but home jobs cells queues tied shard below none =
    let inside : shard < length cells = omega (arith, below, tied.alike) in
    let still : cell_for shard (cells_after home jobs cells) ≡ cell_for shard cells = cell_by_itself home jobs cells shard inside ∙ ap (λ (js : List Job). cell_after home js (cell_for shard cells)) none in
    subst (λ (cell : Cell). IsRestOf (queue_at queues shard) cell.written) (sym still) (tied.rests shard below)

module _ (queues new : List QueueValue) (at : ℕ) (whole : ℕ → List Message) (other : new ≡ set queues at (queue_at new at)) (rest : IsRestOf (queue_at new at) (whole at)) where
  -- the queues of other shards are as they were
  elsewhere : (k : ℕ) → k ≢ at → queue_at new k ≡ queue_at queues k
  elsewhere k apart = ap (λ (qs : List QueueValue). queue_at qs k) other ∙ get_or-set_other queues at k (queue_at new at) new_queue apart

  rest-here : (k : ℕ) → k ≡ at → IsRestOf (queue_at new k) (whole k)
  rest-here k same = subst (λ (n : ℕ). IsRestOf (queue_at new n) (whole n)) (sym same) rest

  -- and each is trimmed as far as it was
  pub firsts_then : (queue_at new at).first ≡ (queue_at queues at).first → map (λ (queue : QueueValue). queue.first) new ≡ map (λ (queue : QueueValue). queue.first) queues
  firsts_then same = ap (map (λ (queue : QueueValue). queue.first)) other ∙ map-set_same (λ (queue : QueueValue). queue.first) queues at (queue_at new at) new_queue same

  -- what is kept of each queue is still a prefix
  pub fronts_then : length new ≡ length queues → AreFronts queues whole → AreFronts new whole
  fronts_then many fronts k below = by (k == at) refl
    where
      by : (b : Bool) → (k == at) ≡ b → IsFrontOf (queue_at new k) (whole k)
      by true same = front_rest (queue_at new k) (whole k) (rest-here k (eqb-true k at same))
      by false apart = subst (λ (queue : QueueValue). IsFrontOf queue (whole k)) (sym (elsewhere k (eqb-false k at apart))) (fronts k (omega (arith, below, many)))

  -- and the rest for each shard without a job in what is left
  pub rests_then : length new ≡ length queues → (asked : ShardJob) (jobs : List ShardJob) → asked.shard ≡ at → AreRestsBut (asked ∷ jobs) queues whole → AreRestsBut jobs new whole
  rests_then many asked jobs is but k below none = by (asked.shard == k) refl
    where
      by : (b : Bool) → (asked.shard == k) ≡ b → IsRestOf (queue_at new k) (whole k)
      by true same = rest-here k (sym (eqb-true asked.shard k same) ∙ is)
      by false apart =
          subst (λ (queue : QueueValue). IsRestOf queue (whole k)) (sym (elsewhere k (λ same. eqb-false asked.shard k apart (is ∙ sym same))))
          (but k (omega (arith, below, many)) (rw apart none))

  -- and the rest for each shard up to this one
  pub rests_front : ((k : ℕ) → k < at → IsRestOf (queue_at queues k) (whole k)) → (k : ℕ) → k < at + 1 → IsRestOf (queue_at new k) (whole k)
  rests_front rests k below = by (k == at) refl
    where
      by : (b : Bool) → (k == at) ≡ b → IsRestOf (queue_at new k) (whole k)
      by true same = rest-here k (eqb-true k at same)
      by false apart = subst (λ (queue : QueueValue). IsRestOf queue (whole k)) (sym (elsewhere k (eqb-false k at apart))) (rests k (omega (arith, below, eqb-false k at apart)))

-- and there is a queue for each cell
pub alike_after : (home : Desk) (jobs : List ShardJob) (cells : List Cell) (queues : List QueueValue) → AreTied cells queues → length (cells_after home jobs cells) ≡ length queues
alike_after home jobs cells queues tied = cells-many home jobs cells ∙ sym tied.alike

-- what one job leaves, and what is replied to it
pub cells_of_one : (home : Desk) (asked : ShardJob) (cells : List Cell) → cells_behind home asked cells ≡ cells_after home (asked ∷ []) cells
unfolding cells_after
cells_of_one home asked cells = refl

pub reply_of_one : (home : Desk) (asked : ShardJob) (cells : List Cell) → reply_to home asked.job (cell_for asked.shard cells) ∷ [] ≡ replies_to home (asked ∷ []) cells
unfolding replies_to
reply_of_one home asked cells = refl

-- as many replies as jobs
pub one_reply : (home : Desk) (asked : ShardJob) (cells : List Cell) → length (replies_to home (asked ∷ []) cells) ≡ 1
unfolding replies_to
one_reply home asked cells = refl

-- queues without an entry are trimmed nowhere
pub firsts_new : (count : ℕ) → map (λ (queue : QueueValue). queue.first) (replicate count new_queue) ≡ replicate count 0
firsts_new zero = refl
firsts_new (suc count) = ap (λ ns. 0 ∷ ns) (firsts_new count)
