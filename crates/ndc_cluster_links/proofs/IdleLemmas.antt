-- Renewing where all is done, and pulling where all was read: nothing changes.
use Rattle.std.proofs.Common.{◌≡◌, ◌≢◌, ◌≤◌, ◌<◌, ◌+◌, ◌++◌, ℕ, zero, suc, List, [], ◌∷◌, Option, Some, None, drop, max, length, get_or, set, sum_by, take, refl, sym, ap, ◌∙◌, arith}
use Rattle.std.specs.List.{filter}
use Rattle.std.proofs.lemmas.List.{append-nil, drop_all}
use Rattle.std.proofs.lemmas.List.Sums.{prefix_len-drop_all}
use Rattle.ndc_model_cells.specs.Cells.{Cell}
use Rattle.ndc_model_cells.specs.declared.message.Message.{Message}
use Rattle.ndc_domain.specs.declared.clusters.ClusterNo.{ClusterNo}
use Rattle.ndc_domain.specs.declared.record.DomainRecord.{DomainRecord}
use Rattle.ndc_model.specs.Moves.{map_from}
use Rattle.ndc_model.specs.Queues.{Lane, after_pull, after_renewal, is_addressed, needs_nothing, new_lane, put_in_flight}
use Rattle.ndc_queue.specs.Lists.{entries_from}
use Rattle.ndc_queue.specs.Queues.{QueueValue, queue_len}
use Rattle.ndc_cluster_links.proofs.DoneLemmas.{done_each}
use Rattle.ndc_cluster_links.proofs.RestLemmas.{len_kept}
use Rattle.ndc_cluster_links.specs.Links.{done_of}
use Rattle.ndc_cluster_links.specs.Rest.{AreDoneBut, AreRests, AreWithin, IsRestOf, lane_at, queue_at}

-- a list whose items a change leaves as they are
same-from : {X : Type 0} (f : ℕ → X → X) (from : ℕ) (xs : List X) (d : X) → ((k place : ℕ) → k < length xs → place ≡ from + k → f place (get_or xs k d) ≡ get_or xs k d) → map_from f from xs ≡ xs
same-from f from [] d same = refl
same-from f from (x ∷ xs) d same =
    ap (λ y. y ∷ map_from f (suc from) xs) (same zero from (omega arith) (omega arith))
    ∙ ap (λ ys. x ∷ ys) (same-from f (suc from) xs d (λ k place below is. same (suc k) place (omega (arith, below)) (omega (arith, is))))

-- a lane that is done up to the end of the queue
pub idle-lane : (reader : ClusterNo) (table : List DomainRecord) (cell : Cell) (whole : List Message) (lane : Lane) → lane.levels.done ≤ lane.levels.read → lane.levels.done ≡ length whole
    → after_renewal reader table cell whole lane ≡ lane
idle-lane reader table cell whole lane read all =
    let none = prefix_len-drop_all (needs_nothing reader table cell) whole lane.levels.done (omega (arith, all)) in
    let still = ap (λ n. lane.levels.done + n) none in
    let same : lane.levels.done + 0 ≡ lane.levels.done = omega arith in
    let most : max lane.levels.read lane.levels.done ≡ lane.levels.read = omega (arith, read) in
    ap (λ (n : ℕ). record lane { levels = record { read = max lane.levels.read n; done = n } }) (still ∙ same)
    ∙ ap (λ (n : ℕ). record lane { levels = record { read = n; done = lane.levels.done } }) most

-- and so all lanes, where as much is done as is written
pub idle_lanes : (reader : ClusterNo) (table : List DomainRecord) (cells : ℕ → Cell) (queues : List QueueValue) (whole : ℕ → List Message) (lanes : List Lane)
    → length queues ≡ length lanes → AreWithin queues lanes → AreRests queues whole → done_of lanes ≡ sum_by queue_len queues
    → map_from (λ shard lane. after_renewal reader table (cells shard) (whole shard) lane) 0 lanes ≡ lanes
idle_lanes reader table cells queues whole lanes alike within rests all =
    same-from (λ shard lane. after_renewal reader table (cells shard) (whole shard) lane) 0 lanes new_lane (λ k place below is.
    let same : place ≡ k = omega (arith, is) in
    ap (λ (n : ℕ). after_renewal reader table (cells n) (whole n) (lane_at lanes k)) same
    ∙ idle-lane reader table (cells k) (whole k) (lane_at lanes k) (within k below).done_most
    (done_each queues lanes alike within all k below ∙ len_kept (queue_at queues k) (whole k) (rests k (omega (arith, alike, below)))))

-- a list of which a change leaves all items but one as they are
one-from : {X : Type 0} (f : ℕ → X → X) (from : ℕ) (xs : List X) (d : X) (at : ℕ) (new : X) → at < length xs → new ≡ f (from + at) (get_or xs at d)
    → ((k place : ℕ) → k < length xs → k ≢ at → place ≡ from + k → f place (get_or xs k d) ≡ get_or xs k d) → map_from f from xs ≡ set xs at new
one-from f from [] d at new below is same = absurd (omega (arith, below))
one-from f from (x ∷ xs) d zero new below is same =
    let first : from + 0 ≡ from = omega arith in
    ap (λ y. y ∷ map_from f (suc from) xs) (sym (is ∙ ap (λ (n : ℕ). f n x) first))
    ∙ ap (λ ys. new ∷ ys) (same-from f (suc from) xs d (λ k place less e. same (suc k) place (omega (arith, less)) (λ wrong. absurd (omega (arith, wrong))) (omega (arith, e))))
one-from f from (x ∷ xs) d (suc at) new below is same =
    let next : from + suc at ≡ suc from + at = omega arith in
    ap (λ y. y ∷ map_from f (suc from) xs) (same zero from (omega arith) (λ wrong. absurd (omega (arith, wrong))) (omega arith))
    ∙ ap (λ ys. x ∷ ys)
    (one-from f (suc from) xs d at new (omega (arith, below)) (is ∙ ap (λ (n : ℕ). f n (get_or xs at d)) next)
    (λ k place less differs e. same (suc k) place (omega (arith, less)) (λ wrong. differs (omega (arith, wrong))) (omega (arith, e))))

-- where all lanes are done but one, only that one is renewed
pub one_lane : (reader : ClusterNo) (table : List DomainRecord) (cells : ℕ → Cell) (queues : List QueueValue) (whole : ℕ → List Message) (lanes : List Lane) (shard : ℕ) (new : Lane)
    → length queues ≡ length lanes → shard < length lanes → AreWithin queues lanes → AreRests queues whole → AreDoneBut shard queues lanes
    → new ≡ after_renewal reader table (cells shard) (whole shard) (lane_at lanes shard)
    → set lanes shard new ≡ map_from (λ shard lane. after_renewal reader table (cells shard) (whole shard) lane) 0 lanes
one_lane reader table cells queues whole lanes shard new alike below within rests others is =
    sym (one-from (λ shard lane. after_renewal reader table (cells shard) (whole shard) lane) 0 lanes new_lane shard new below
    (let here : shard ≡ 0 + shard = omega arith in is ∙ ap (λ (n : ℕ). after_renewal reader table (cells n) (whole n) (lane_at lanes shard)) here)
    (λ k place less differs at.
    let same : place ≡ k = omega (arith, at) in
    ap (λ (n : ℕ). after_renewal reader table (cells n) (whole n) (lane_at lanes k)) same
    ∙ idle-lane reader table (cells k) (whole k) (lane_at lanes k) (within k less).done_most
    (others k less differs ∙ len_kept (queue_at queues k) (whole k) (rests k (omega (arith, alike, less))))))

-- after the end of a queue there is nothing
nothing-behind : (kept : QueueValue) (whole : List Message) → IsRestOf kept whole → (count : Option ℕ) (level : ℕ) → level ≡ queue_len kept → entries_from count level whole ≡ []
nothing-behind kept whole it None level e = let len = len_kept kept whole it in drop_all level whole (omega (arith, e, len))
nothing-behind kept whole it (Some count) level e =
    let len = len_kept kept whole it in
    none-of count (drop level whole) (drop_all level whole (omega (arith, e, len)))
  where
    none-of : (n : ℕ) (xs : List Message) → xs ≡ [] → take n xs ≡ []
    none-of zero xs f = refl
    none-of (suc n) [] f = refl
    none-of (suc n) (x ∷ xs) f = absurd (cc)

-- a lane that was read up to the end of the queue
module _ (reader : ClusterNo) (table : List DomainRecord) (count : Option ℕ) (kept : QueueValue) (lane : Lane) (whole : List Message) (it : IsRestOf kept whole) (read : lane.levels.read ≡ queue_len kept) where
  pub idle-put : 0 ≡ length (put_in_flight reader table count whole lane)
  idle-put = sym (ap (λ (l : List Message). length (filter (is_addressed reader table) l)) (nothing-behind kept whole it count lane.levels.read read))

  pub idle-pull : lane ≡ after_pull reader table count whole lane
  idle-pull =
      let same : lane.levels.read + 0 ≡ lane.levels.read = omega arith in
      sym (ap (λ (l : List Message). record { levels = record lane.levels { read = lane.levels.read + length l }; flight = lane.flight ++ filter (is_addressed reader table) l })
      (nothing-behind kept whole it count lane.levels.read read)
      ∙ λ i. record { levels = record lane.levels { read = same i }; flight = append-nil lane.flight i })
