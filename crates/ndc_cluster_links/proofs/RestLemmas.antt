-- What is kept of a queue, read from a level on.
use Rattle.std.proofs.Common.{◌≡◌, ◌≤◌, ◌<◌, ◌+◌, ◌-◌, ℕ, List, Option, Some, None, drop, take, length, map, get_or, ap, sym, subst, ◌∙◌, arith, length-drop}
use Rattle.std.proofs.Math.ListN.{get_or-map}
use Rattle.std.proofs.lemmas.List.{drop-drop, get_or_read, length-map}
use Rattle.ndc_model_cells.specs.Cells.{Cell, empty_cell}
use Rattle.ndc_model_cells.specs.Jobs.{cell_for}
use Rattle.ndc_model_cells.specs.declared.message.Message.{Message}
use Rattle.ndc_model.specs.Queues.{Lane, new_lane}
use Rattle.ndc_queue.specs.Lists.{entries_from}
use Rattle.ndc_queue.specs.Queues.{QueueValue, new_queue, queue_len}
use Rattle.ndc_cluster_links.proofs.PlaceLemmas.{still}
use Rattle.ndc_cluster_links.specs.Rest.{AreRests, AreWithin, IsRestOf, IsWithin, lane_at, queue_at}

module _ (kept : QueueValue) (whole : List Message) (it : IsRestOf kept whole) where
  -- what is kept from a level on is the whole from that level on
  pub kept_behind : (level : ℕ) → kept.first ≤ level → drop (level - kept.first) kept.kept ≡ drop level whole
  kept_behind level least =
      let sum : kept.first + (level - kept.first) ≡ level = omega (arith, least) in
      ap (drop (level - kept.first)) it.rest ∙ drop-drop (level - kept.first) kept.first whole ∙ ap (λ n. drop n whole) sum

  -- and so are the entries from there, all or so many
  pub entries_kept : (count : Option ℕ) (level : ℕ) → kept.first ≤ level → entries_from count (level - kept.first) kept.kept ≡ entries_from count level whole
  entries_kept None level least = kept_behind level least
  entries_kept (Some count) level least = ap (take count) (kept_behind level least)

  -- a queue has as many entries, with those that were dropped, as the whole
  pub len_kept : queue_len kept ≡ length whole
  len_kept = let len : length kept.kept ≡ length whole - kept.first = ap length it.rest ∙ length-drop kept.first whole in omega (arith, len, it.first_most)

-- the lane of the next shard lies in what is kept of its queue
pub within_there : (queues : List QueueValue) (lanes old : List Lane) (shard : ℕ) (queue : QueueValue) (lane : Lane) → AreWithin queues old → length queues ≡ length old
    → shard < length old → drop shard lanes ≡ drop shard old → lane ≡ get_or lanes shard lane → queue ≡ get_or queues shard queue → IsWithin queue lane
within_there queues lanes old shard queue lane within alike below rest is at =
    let below_too : shard < length queues = omega (arith, alike, below) in
    let lane_is : lane ≡ lane_at old shard = get_or_read old shard lane below (is ∙ still lanes old shard lane rest) new_lane in
    let queue_is : queue ≡ queue_at queues shard = get_or_read queues shard queue below_too at new_queue in
    subst (λ (l : Lane). IsWithin queue l) (sym lane_is) (subst (λ (q : QueueValue). IsWithin q (lane_at old shard)) (sym queue_is) (within shard below))

-- the queue of a shard
pub queue_there : (queues : List QueueValue) (shard : ℕ) (queue : QueueValue) → shard < length queues → queue ≡ get_or queues shard queue → queue ≡ queue_at queues shard
queue_there queues shard queue below at = get_or_read queues shard queue below at new_queue

-- what is kept of the next shard's queue is the rest of the whole
pub rest_there : (queues : List QueueValue) (whole : ℕ → List Message) (shard : ℕ) (queue : QueueValue) → AreRests queues whole → shard < length queues
    → queue ≡ get_or queues shard queue → IsRestOf queue (whole shard)
rest_there queues whole shard queue rests below at =
    subst (λ (q : QueueValue). IsRestOf q (whole shard)) (sym (queue_there queues shard queue below at)) (rests shard below)

-- what is seen of the cell at a place
pub cell_there : {X : Type 0} (view : X → Cell) (cells : List X) (shard : ℕ) (cell : X) → shard < length cells → cell ≡ get_or cells shard cell
    → view cell ≡ cell_for shard (map view cells)
cell_there view cells shard cell below at =
    let below_too : shard < length (map view cells) = omega (arith, length-map cells view, below) in
    get_or_read (map view cells) shard (view cell) below_too (ap view at ∙ sym (get_or-map view cells shard cell)) empty_cell
