-- Queues that grow with what a cell has written.
use Rattle.std.proofs.Common.{◌≡◌, ◌≢◌, ◌≤◌, ◌<◌, ◌+◌, ◌-◌, ◌*◌, ◌^◌, ℕ, zero, suc, List, [], ◌∷◌, ◌++◌, Some, take, drop, length, get_or, replicate, set, slice_get, sum, sum_by, refl, ap, sym, subst, ◌∙◌, arith, length-drop, length-append}
use Rattle.std.proofs.Math.Seq.{drop-cons, map-set_same}
use Rattle.std.proofs.lemmas.List.{drop-append-le, get_or-set_other, take_all, take_more}
use Rattle.std.proofs.lemmas.List.Sums.{sum-map, sum_by-cons, sum_by-set}
use Rattle.std.proofs.lemmas.Option.{get_or_from_slice_get}
use Rattle.std.specs.List.{AllByRecursion}
use Rattle.ndc_model_cells.specs.declared.message.Message.{Message}
use Rattle.ndc_queue.specs.Queues.{QueueValue, new_queue, pushed, queue_len, trimmed}
use Rattle.ndc_cluster_links.proofs.QuietLemmas.{all_set}
use Rattle.ndc_cluster_links.proofs.RestLemmas.{len_kept}
use Rattle.ndc_cluster_links.specs.Rest.{IsFrontOf, IsRestOf, queue_at}

-- with the next message, what is kept is the prefix of one more
pub front_step : (kept : QueueValue) (whole : List Message) (sent : Message) → queue_len kept < length whole → IsFrontOf kept whole → get_or whole (queue_len kept) sent ≡ sent
    → IsFrontOf (pushed sent kept) whole
front_step kept whole sent below it got =
    let n : ℕ = queue_len kept in
    let more : queue_len (pushed sent kept) ≡ n + 1 = omega (arith, length-append kept.kept (sent ∷ [])) in
    let next : take (n + 1) whole ≡ take n whole ++ sent ∷ [] = take_more whole n sent below ∙ ap (λ x. take n whole ++ x ∷ []) got in
    let grown : take (queue_len (pushed sent kept)) whole ≡ take n whole ++ sent ∷ [] = ap (λ m. take m whole) more ∙ next in
    record {
      rest = ap (λ xs. xs ++ sent ∷ []) it.rest ∙ sym (drop-append-le kept.first (take n whole) (sent ∷ []) it.first_most) ∙ ap (drop kept.first) (sym grown);
      first_most = let e = ap length grown in omega (arith, e, length-append (take n whole) (sent ∷ []), it.first_most);
    }

-- the same, of the message that is looked up
pub front_more : (kept : QueueValue) (whole : List Message) (sent : Message) → queue_len kept < length whole → IsFrontOf kept whole → slice_get whole (queue_len kept) ≡ Some sent
    → IsFrontOf (pushed sent kept) whole
front_more kept whole sent below it got = front_step kept whole sent below it (get_or_from_slice_get whole (queue_len kept) sent sent got)

-- where a list goes on with an item, it is there, and the rest after it
pub next_there : {X : Type 0} (xs : List X) (n : ℕ) (x : X) (rest : List X) → drop n xs ≡ x ∷ rest → (n < length xs) × (get_or xs n x ≡ x) × (drop (n + 1) xs ≡ rest)
next_there xs n x rest is =
    let below : n < length xs = omega (arith, ap length is, length-drop n xs) in
    let cons : get_or xs n x ∷ drop (suc n) xs ≡ x ∷ rest = sym (drop-cons xs n x below) ∙ is in
    let one : suc n ≡ n + 1 = omega arith in
    (below, ap (λ ys. get_or ys 0 x) cons, ap (λ k. drop k xs) (sym one) ∙ ap (drop 1) cons)

-- a queue with one more entry
pub len_pushed : (sent : Message) (kept : QueueValue) → queue_len (pushed sent kept) ≡ queue_len kept + 1
len_pushed sent kept = omega (arith, length-append kept.kept (sent ∷ []))

-- what is kept of a queue that is as long as the whole is the rest of it
pub front_all : (kept : QueueValue) (whole : List Message) → length whole ≤ queue_len kept → IsFrontOf kept whole → IsRestOf kept whole
front_all kept whole past it = subst (IsRestOf kept) (take_all (queue_len kept) whole past) it

-- and the rest of a queue is its prefix too
pub front_rest : (kept : QueueValue) (whole : List Message) → IsRestOf kept whole → IsFrontOf kept whole
front_rest kept whole it =
    let past : length whole ≤ queue_len kept = omega (arith, len_kept kept whole it) in
    subst (IsRestOf kept) (sym (take_all (queue_len kept) whole past)) it

-- a queue is as long as before, where it is trimmed
pub len_trimmed : (level : ℕ) (kept : QueueValue) → level ≤ queue_len kept → queue_len (trimmed level kept) ≡ queue_len kept
len_trimmed level kept most = omega (arith, length-drop (level - kept.first) kept.kept)

-- queues without an entry have none in all
pub written_new : (count : ℕ) → sum_by queue_len (replicate count new_queue) ≡ 0
written_new zero = refl
written_new (suc count) = sum_by-cons queue_len new_queue (replicate count new_queue) ∙ omega (arith, written_new count)

-- a queue that is as long takes the place of another
pub len_same : (queues : List QueueValue) (shard : ℕ) (x new : QueueValue) → x ≡ get_or queues shard x → queue_len new ≡ queue_len x → sum_by queue_len (set queues shard new) ≡ sum_by queue_len queues
len_same queues shard x new is same =
    sym (sum-map queue_len (set queues shard new)) ∙ ap sum (map-set_same queue_len queues shard new x (same ∙ ap queue_len is)) ∙ sum-map queue_len queues

-- what holds of each holds of the one at a place
pub all_at : {X : Type 0} (P : X → Type 0) (xs : List X) (i : ℕ) (x : X) → i < length xs → x ≡ get_or xs i x → AllByRecursion P xs → P x
all_at P [] i x below is all = absurd (omega (arith, below))
all_at P (y ∷ ys) zero x below is all = subst P (sym is) all.0
all_at P (y ∷ ys) (suc i) x below is all = all_at P ys i x (omega (arith, below)) is all.1

-- queues without an entry are short
pub most_new : (count : ℕ) → AllByRecursion (λ (queue : QueueValue). queue_len queue ≤ 10 ^ 12) (replicate count new_queue)
most_new zero = tt
most_new (suc count) = (omega arith, most_new count)

-- short queues have no more entries in all than so many each
pub most_written : (queues : List QueueValue) → AllByRecursion (λ (queue : QueueValue). queue_len queue ≤ 10 ^ 12) queues → sum_by queue_len queues ≤ length queues * 10 ^ 12
most_written [] most = omega arith
most_written (queue ∷ queues) most = omega (arith, sum_by-cons queue_len queue queues, most.0, most_written queues most.1)

-- a queue that grew takes the place of what it was
pub len_grown : (queues : List QueueValue) (shard written : ℕ) (x new : QueueValue) → shard < length queues → x ≡ get_or queues shard x → queue_len x ≤ queue_len new → written ≡ sum_by queue_len queues
    → written + (queue_len new - queue_len x) ≡ sum_by queue_len (set queues shard new)
len_grown queues shard written x new below is grown so =
    omega (arith, sum_by-set queue_len queues shard new x below, ap queue_len is, grown, so)

-- and is short still
pub most_still : (queues : List QueueValue) (shard : ℕ) (new : QueueValue) → queue_len new ≤ 10 ^ 12 → AllByRecursion (λ (queue : QueueValue). queue_len queue ≤ 10 ^ 12) queues
    → AllByRecursion (λ (queue : QueueValue). queue_len queue ≤ 10 ^ 12) (set queues shard new)
most_still queues shard new short most = all_set (λ (queue : QueueValue). queue_len queue ≤ 10 ^ 12) queues shard new short most

-- what holds of the queue of each other shard holds where one is changed
pub other_queue : (P : QueueValue → Type 0) (queues : List QueueValue) (shard k : ℕ) (new : QueueValue) → k ≢ shard → P (queue_at queues k) → P (queue_at (set queues shard new) k)
other_queue P queues shard k new other holds = subst P (sym (get_or-set_other queues shard k new new_queue other)) holds
