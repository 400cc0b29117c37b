-- How many entries are done, over all lanes.
use Rattle.std.proofs.Common.{◌≡◌, ◌≤◌, ◌<◌, ◌+◌, ℕ, zero, suc, List, [], ◌∷◌, map, take, length, get_or, replicate, set, sum, sum_by, refl, ap, sym, ◌∙◌, arith}
use Rattle.std.proofs.Math.Seq.{map-set_same}
use Rattle.std.proofs.lemmas.List.{map-append, take_more_set}
use Rattle.std.proofs.lemmas.List.Sums.{sum_by-cons, sum_by_push}
use Rattle.ndc_model.specs.Moves.{without_flight}
use Rattle.ndc_model.specs.Queues.{Lane, after_rewind, new_lane}
use Rattle.ndc_queue.specs.Queues.{QueueValue, queue_len}
use Rattle.ndc_cluster_links.specs.Links.{done_of}
use Rattle.ndc_cluster_links.specs.Rest.{AreDoneBut, AreWithin, lane_at, queue_at}

-- how far a lane is done
abbrev done : Lane → ℕ
done lane = lane.levels.done

-- a lane more
done-more : (lane : Lane) (lanes : List Lane) → done_of (lane ∷ lanes) ≡ done lane + done_of lanes
done-more lane lanes = sum_by-cons (λ n. n) (done lane) (map done lanes)

-- nothing is done in the beginning
pub done_new : (count : ℕ) → done_of (replicate count new_lane) ≡ 0
done_new zero = refl
done_new (suc count) = done-more new_lane (replicate count new_lane) ∙ omega (arith, done_new count)

-- another lane that is done as far takes the place of one
pub done_still : (lanes : List Lane) (i : ℕ) (x new : Lane) → x ≡ get_or lanes i x → new.levels.done ≡ x.levels.done → done_of (set lanes i new) ≡ done_of lanes
done_still lanes i x new is same = ap sum (map-set_same done lanes i new x (same ∙ ap done is))

-- rewinding leaves all as far done
pub done_rewound : (lanes : List Lane) → done_of (map after_rewind lanes) ≡ done_of lanes
done_rewound lanes = ap sum (each lanes)
  where
    each : (xs : List Lane) → map done (map after_rewind xs) ≡ map done xs
    each [] = refl
    each (x ∷ xs) = ap (λ ns. done x ∷ ns) (each xs)

-- so does taking out what is in flight
pub done_emptied : (lanes : List Lane) → done_of (map without_flight lanes) ≡ done_of lanes
done_emptied lanes = ap sum (each lanes)
  where
    each : (xs : List Lane) → map done (map without_flight xs) ≡ map done xs
    each [] = refl
    each (x ∷ xs) = ap (λ ns. done x ∷ ns) (each xs)

-- the first lanes and one more that was changed
pub done_more : (lanes : List Lane) (i count more : ℕ) (new : Lane) → i < length lanes → count ≡ done_of (take i lanes) → more ≡ done new
    → count + more ≡ done_of (take (i + 1) (set lanes i new))
done_more lanes i count more new below so step =
    sym (ap done_of (take_more_set lanes i new below) ∙ ap sum (map-append done (take i lanes) (new ∷ [])) ∙ sum_by_push (λ n. n) (map done (take i lanes)) (done new)
    ∙ ap (λ n. n + done new) (sym so) ∙ ap (λ n. count + n) (sym step))

-- no more is done than is written
pub done-most : (queues : List QueueValue) (lanes : List Lane) → length queues ≡ length lanes → AreWithin queues lanes → done_of lanes ≤ sum_by queue_len queues
done-most [] [] alike within = omega arith
done-most [] (lane ∷ lanes) alike within = absurd (omega (arith, alike))
done-most (queue ∷ queues) [] alike within = absurd (omega (arith, alike))
done-most (queue ∷ queues) (lane ∷ lanes) alike within =
    let first = within zero (omega arith) in
    omega (
      arith,
      first.done_most,
      first.read_most,
      done-most queues lanes (omega (arith, alike)) (λ shard below. within (suc shard) (omega (arith, below))),
      done-more lane lanes,
      sum_by-cons queue_len queue queues,
    )

-- where as much is done as is written, each lane is done up to the end of its queue
pub done_each : (queues : List QueueValue) (lanes : List Lane) → length queues ≡ length lanes → AreWithin queues lanes → done_of lanes ≡ sum_by queue_len queues
    → (shard : ℕ) → shard < length lanes → (lane_at lanes shard).levels.done ≡ queue_len (queue_at queues shard)
done_each queues [] alike within all shard below = absurd (omega (arith, below))
done_each [] (lane ∷ lanes) alike within all shard below = absurd (omega (arith, alike))
done_each (queue ∷ queues) (lane ∷ lanes) alike within all zero below =
    let first = within zero (omega arith) in
    omega (
      arith,
      all,
      first.done_most,
      first.read_most,
      done-most queues lanes (omega (arith, alike)) (λ shard below. within (suc shard) (omega (arith, below))),
      done-more lane lanes,
      sum_by-cons queue_len queue queues,
    )
done_each (queue ∷ queues) (lane ∷ lanes) alike within all (suc shard) below =
    let first = within zero (omega arith) in
    let rest : AreWithin queues lanes = λ k less. within (suc k) (omega (arith, less)) in
    let left : done_of lanes ≡ sum_by queue_len queues =
    omega (
      arith,
      all,
      first.done_most,
      first.read_most,
      done-most queues lanes (omega (arith, alike)) rest,
      done-more lane lanes,
      sum_by-cons queue_len queue queues,
    ) in
    done_each queues lanes (omega (arith, alike)) rest left shard (omega (arith, below))

-- as much as is missing in one lane is missing in all of them at least
missing-least : (queues : List QueueValue) (lanes : List Lane) → length queues ≡ length lanes → AreWithin queues lanes → (shard : ℕ) → shard < length lanes
    → done_of lanes + queue_len (queue_at queues shard) ≤ sum_by queue_len queues + (lane_at lanes shard).levels.done
missing-least queues [] alike within shard below = absurd (omega (arith, below))
missing-least [] (lane ∷ lanes) alike within shard below = absurd (omega (arith, alike))
missing-least (queue ∷ queues) (lane ∷ lanes) alike within zero below =
    omega (arith, done-most queues lanes (omega (arith, alike)) (λ k less. within (suc k) (omega (arith, less))), done-more lane lanes, sum_by-cons queue_len queue queues)
missing-least (queue ∷ queues) (lane ∷ lanes) alike within (suc shard) below =
    let first = within zero (omega arith) in
    omega (
      arith,
      first.done_most,
      first.read_most,
      missing-least queues lanes (omega (arith, alike)) (λ k less. within (suc k) (omega (arith, less))) shard (omega (arith, below)),
      done-more lane lanes,
      sum_by-cons queue_len queue queues,
    )

-- where as much is missing in one lane as in all of them, each other one is done
pub done_but : (queues : List QueueValue) (lanes : List Lane) → length queues ≡ length lanes → AreWithin queues lanes → (shard : ℕ) → shard < length lanes
    → done_of lanes + queue_len (queue_at queues shard) ≡ sum_by queue_len queues + (lane_at lanes shard).levels.done → AreDoneBut shard queues lanes
done_but queues [] alike within shard below missing other less differs = absurd (omega (arith, less))
done_but [] (lane ∷ lanes) alike within shard below missing other less differs = absurd (omega (arith, alike))
done_but (queue ∷ queues) (lane ∷ lanes) alike within zero below missing zero less differs = absurd (differs refl)
done_but (queue ∷ queues) (lane ∷ lanes) alike within zero below missing (suc other) less differs =
    done_each queues lanes (omega (arith, alike)) (λ k small. within (suc k) (omega (arith, small)))
    (omega (arith, missing, done-more lane lanes, sum_by-cons queue_len queue queues)) other (omega (arith, less))
done_but (queue ∷ queues) (lane ∷ lanes) alike within (suc shard) below missing zero less differs =
    let first = within zero (omega arith) in
    omega (
      arith,
      missing,
      first.done_most,
      first.read_most,
      missing-least queues lanes (omega (arith, alike)) (λ k small. within (suc k) (omega (arith, small))) shard (omega (arith, below)),
      done-more lane lanes,
      sum_by-cons queue_len queue queues,
    )
done_but (queue ∷ queues) (lane ∷ lanes) alike within (suc shard) below missing (suc other) less differs =
    let first = within zero (omega arith) in
    let rest : AreWithin queues lanes = λ k small. within (suc k) (omega (arith, small)) in
    let left : done_of lanes + queue_len (queue_at queues shard) ≡ sum_by queue_len queues + (lane_at lanes shard).levels.done =
    omega (
      arith,
      missing,
      first.done_most,
      first.read_most,
      missing-least queues lanes (omega (arith, alike)) rest shard (omega (arith, below)),
      done-more lane lanes,
      sum_by-cons queue_len queue queues,
    ) in
    done_but queues lanes (omega (arith, alike)) rest shard (omega (arith, below)) left other (omega (arith, less)) (λ same. differs (ap suc same))

-- where each lane is done, as much is done as is written
done-all : (queues : List QueueValue) (lanes : List Lane) → length queues ≡ length lanes → ((k : ℕ) → k < length lanes → (lane_at lanes k).levels.done ≡ queue_len (queue_at queues k)) → done_of lanes ≡ sum_by queue_len queues
done-all [] [] alike each = refl
done-all [] (lane ∷ lanes) alike each = absurd (omega (arith, alike))
done-all (queue ∷ queues) [] alike each = absurd (omega (arith, alike))
done-all (queue ∷ queues) (lane ∷ lanes) alike each =
    let first = each zero (omega arith) in
    omega (arith, first, done-all queues lanes (omega (arith, alike)) (λ k less. each (suc k) (omega (arith, less))), done-more lane lanes, sum_by-cons queue_len queue queues)

-- how much is done where a lane takes the place of the only one that is not
pub done_one : (queues : List QueueValue) (lanes : List Lane) → length queues ≡ length lanes → (shard : ℕ) → shard < length lanes → AreDoneBut shard queues lanes → (new : Lane)
    → done_of (set lanes shard new) + queue_len (queue_at queues shard) ≡ sum_by queue_len queues + new.levels.done
done_one queues [] alike shard below others new = absurd (omega (arith, below))
done_one [] (lane ∷ lanes) alike shard below others new = absurd (omega (arith, alike))
done_one (queue ∷ queues) (lane ∷ lanes) alike zero below others new =
    omega (
      arith,
      done-all queues lanes (omega (arith, alike)) (λ k less. others (suc k) (omega (arith, less)) (λ same. absurd (omega (arith, same)))),
      done-more new lanes,
      sum_by-cons queue_len queue queues,
    )
done_one (queue ∷ queues) (lane ∷ lanes) alike (suc shard) below others new =
    let first = others zero (omega arith) (λ same. absurd (omega (arith, same))) in
    omega (
      arith,
      first,
      done_one queues lanes (omega (arith, alike)) shard (omega (arith, below)) (λ k less differs. others (suc k) (omega (arith, less)) (λ same. differs (omega (arith, same)))) new,
      done-more lane (set lanes shard new),
      sum_by-cons queue_len queue queues,
    )

-- a queue has no more entries than all of them
pub len_within : (queues : List QueueValue) (shard : ℕ) → shard < length queues → queue_len (queue_at queues shard) ≤ sum_by queue_len queues
len_within [] shard below = absurd (omega (arith, below))
len_within (queue ∷ queues) zero below = omega (arith, sum_by-cons queue_len queue queues)
len_within (queue ∷ queues) (suc shard) below = omega (arith, len_within queues shard (omega (arith, below)), sum_by-cons queue_len queue queues)
