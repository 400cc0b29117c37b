-- Readers to whom nothing is in flight.
use Rattle.std.proofs.Common.{◌≡◌, ◌<◌, ◌≤◌, ◌+◌, ℕ, zero, suc, Bool, true, false, [], ◌∷◌, List, ◌++◌, map, take, drop, length, get_or, set, ◌&&◌, ◌==◌, refl, ap, sym, ◌∙◌, arith}
use Rattle.std.specs.List.{filter_map, list_any, range_with_len}
use Rattle.std.specs.Str.{bytes_eq}
use Rattle.std.proofs.lemmas.Bool.{eqb-true}
use Rattle.std.proofs.lemmas.Grind.{flat_map-append}
use Rattle.std.proofs.lemmas.List.{append-nil, at_drop_more, map-append, set-get_or, take-append-drop, take_more}
use Rattle.ndc_event.specs.declared.batch.Batch.{Batch}
use Rattle.ndc_event.specs.declared.name.Name.{Name}
use Rattle.ndc_model.proofs.ListLemmas.{filter-none}
use Rattle.ndc_model_cells.specs.Cells.{Cell, is_learned_in, learned_message}
use Rattle.ndc_model_cells.specs.Domains.{learned_of_domains}
use Rattle.ndc_model_cells.specs.Writing.{same_cluster}
use Rattle.ndc_model_cells.specs.declared.job.ShardJob.{ShardJob}
use Rattle.ndc_model_cells.specs.declared.message.Message.{Message}
use Rattle.ndc_domain.specs.declared.clusters.ClusterNo.{ClusterNo}
use Rattle.ndc_model.specs.Moves.{all_arrive, arrives, by_link, in_flight, link_without_flights, without_flight}
use Rattle.ndc_model.specs.Queues.{Lane, new_lane}
use Rattle.ndc_model.specs.World.{Link, lane_in}
use Rattle.ndc_world_replication.proofs.TakeLemmas.{own_part}
use Rattle.ndc_world_replication.specs.Flights.{emptied, emptied_at}

-- a link of another reader, or one over which nothing is in flight, stays
pub emptied_still : (reader : ClusterNo) (link : Link) → same_cluster link.reader reader ≡ false → emptied reader link ≡ link
emptied_still reader link other = rw other refl

pub emptied_quiet : (reader : ClusterNo) (link : Link) → link_without_flights link ≡ link → emptied reader link ≡ link
emptied_quiet reader link quiet = by (same_cluster link.reader reader) refl
  where
    by : (b : Bool) → same_cluster link.reader reader ≡ b → emptied reader link ≡ link
    by true own = rw own quiet
    by false other = rw other refl

-- the next link stays, and those after it
pub quiet_links_more : (reader : ClusterNo) (links : List Link) (i : ℕ) (link : Link) → i < length links → link ≡ get_or links i link → emptied reader link ≡ link
    → map (emptied reader) (drop (i + 1) links) ≡ drop (i + 1) links → map (emptied reader) (drop i links) ≡ drop i links
quiet_links_more reader links i link below is still rest =
    let next : drop i links ≡ link ∷ drop (i + 1) links = at_drop_more (λ (ls : List Link). ls) links i link below ∙ ap (λ (l : Link). l ∷ drop (i + 1) links) (sym is) in
    ap (map (emptied reader)) next ∙ ap (λ (l : Link). l ∷ map (emptied reader) (drop (i + 1) links)) still ∙ ap (λ (ls : List Link). link ∷ ls) rest ∙ sym next

-- the next link stays, and those before it
pub quiet_links_first : (reader : ClusterNo) (links : List Link) (i : ℕ) (link : Link) → i < length links → link ≡ get_or links i link → emptied reader link ≡ link
    → map (emptied reader) (take i links) ≡ take i links → map (emptied reader) (take (i + 1) links) ≡ take (i + 1) links
quiet_links_first reader links i link below is still rest =
    let next : take (i + 1) links ≡ take i links ++ link ∷ [] = take_more links i link below ∙ ap (λ (l : Link). take i links ++ l ∷ []) (sym is) in
    ap (map (emptied reader)) next ∙ map-append (emptied reader) (take i links) (link ∷ []) ∙ ap (λ (ls : List Link). ls ++ emptied reader link ∷ []) rest
    ∙ ap (λ (l : Link). take i links ++ l ∷ []) still ∙ sym next

-- nothing is in flight in a lane that was emptied
flight-none : (lanes : List Lane) (shard : ℕ) → (get_or (map without_flight lanes) shard new_lane).flight ≡ []
flight-none [] shard = refl
flight-none (lane ∷ lanes) zero = refl
flight-none (lane ∷ lanes) (suc shard) = flight-none lanes shard

-- nothing is in flight to a reader whose links were emptied
part-none : (reader : ClusterNo) (shard : ℕ) (link : Link) → own_part in_flight reader shard (emptied reader link) ≡ []
part-none reader shard link = by (same_cluster link.reader reader) refl
  where
    by : (b : Bool) → same_cluster link.reader reader ≡ b → own_part in_flight reader shard (emptied reader link) ≡ []
    by true own = rw (own, own) (flight-none link.lanes shard)
    by false other = rw (other, other) refl

-- so a link over which nothing is in flight brings nothing for a shard, and stays
pub quiet_part : (reader : ClusterNo) (shard : ℕ) (link : Link) → link_without_flights link ≡ link → own_part in_flight reader shard link ≡ []
quiet_part reader shard link quiet = sym (ap (own_part in_flight reader shard) (emptied_quiet reader link quiet)) ∙ part-none reader shard link

-- a link over which nothing is in flight for a shard stays where that is taken out, and brings nothing for it
pub lane_emptied_at : (reader : ClusterNo) (shard : ℕ) (link : Link) → (lane_in link shard).flight ≡ [] → link ≡ emptied_at reader shard link
lane_emptied_at reader shard link none = by (same_cluster link.reader reader) refl
  where
    same : record link { lanes = set link.lanes shard (record (lane_in link shard) { flight = [] }) } ≡ link
    same = ap (λ (f : List Message). record link { lanes = set link.lanes shard (record (lane_in link shard) { flight = f }) }) (sym none)
        ∙ ap (λ (lanes : List Lane). record link { lanes = lanes }) (set-get_or link.lanes shard new_lane)

    by : (b : Bool) → same_cluster link.reader reader ≡ b → link ≡ emptied_at reader shard link
    by true own = rw own (sym same)
    by false other = rw other refl

pub lane_part : (reader : ClusterNo) (shard : ℕ) (link : Link) → (lane_in link shard).flight ≡ [] → own_part in_flight reader shard link ≡ []
lane_part reader shard link none = by (same_cluster link.reader reader) refl
  where
    by : (b : Bool) → same_cluster link.reader reader ≡ b → own_part in_flight reader shard link ≡ []
    by true own = rw own none
    by false other = rw other refl

pub quiet_emptied_at : (reader : ClusterNo) (shard : ℕ) (link : Link) → link_without_flights link ≡ link → link ≡ emptied_at reader shard link
quiet_emptied_at reader shard link quiet = lane_emptied_at reader shard link (ap (λ (l : Link). (lane_in l shard).flight) (sym quiet) ∙ flight-none link.lanes shard)

links-none : (reader : ClusterNo) (links : List Link) (shard : ℕ) → by_link reader in_flight (map (emptied reader) links) shard ≡ []
links-none reader [] shard = refl
links-none reader (link ∷ links) shard = ap (λ (ms : List Message). ms ++ by_link reader in_flight (map (emptied reader) links) shard) (part-none reader shard link) ∙ links-none reader links shard

-- where no message is brought to any shard, there is no job
pub no_jobs : (messages : ℕ → List Message) (shards : List ℕ) → ((shard : ℕ) → messages shard ≡ []) → all_arrive messages shards ≡ []
no_jobs messages [] none = refl
no_jobs messages (shard ∷ shards) none = ap (λ (ms : List Message). map (arrives shard) ms ++ all_arrive messages shards) (none shard) ∙ no_jobs messages shards none

-- and so there is none where nothing is in flight to a reader
pub no_flight_jobs : (reader : ClusterNo) (links : List Link) (shards : List ℕ) → map (emptied reader) links ≡ links → all_arrive (by_link reader in_flight links) shards ≡ []
no_flight_jobs reader links shards quiet =
    no_jobs (by_link reader in_flight links) shards (λ shard. sym (ap (λ (ls : List Link). by_link reader in_flight ls shard) quiet) ∙ links-none reader links shard)

-- jobs in which as much arrives for each shard
jobs-alike : (one two : ℕ → List Message) (shards : List ℕ) → ((shard : ℕ) → one shard ≡ two shard) → all_arrive one shards ≡ all_arrive two shards
jobs-alike one two [] same = refl
jobs-alike one two (shard ∷ shards) same = ap (λ (ms : List Message). map (arrives shard) ms ++ all_arrive one shards) (same shard) ∙ ap (λ (js : List ShardJob). map (arrives shard) (two shard) ++ js) (jobs-alike one two shards same)

module _ (reader : ClusterNo) (n : ℕ) (links : List Link) where
  -- what is in flight over the first links, and over the others
  flight-parts : (shard : ℕ) → by_link reader in_flight links shard ≡ by_link reader in_flight (take n links) shard ++ by_link reader in_flight (drop n links) shard
  flight-parts shard = ap (λ (ls : List Link). by_link reader in_flight ls shard) (sym (take-append-drop n links)) ∙ flat_map-append (own_part in_flight reader shard) (take n links) (drop n links)

  emptied-parts : map (emptied reader) links ≡ map (emptied reader) (take n links) ++ map (emptied reader) (drop n links)
  emptied-parts = ap (map (emptied reader)) (sym (take-append-drop n links)) ∙ map-append (emptied reader) (take n links) (drop n links)

  nothing : (part : List Link) (shard : ℕ) → map (emptied reader) part ≡ part → by_link reader in_flight part shard ≡ []
  nothing part shard quiet = sym (ap (λ (ls : List Link). by_link reader in_flight ls shard) quiet) ∙ links-none reader part shard

  -- where the first links bring nothing, the jobs are those of the others
  pub jobs_behind : (shards : List ℕ) → map (emptied reader) (take n links) ≡ take n links → all_arrive (by_link reader in_flight (drop n links)) shards ≡ all_arrive (by_link reader in_flight links) shards
  jobs_behind shards quiet = jobs-alike (by_link reader in_flight (drop n links)) (by_link reader in_flight links) shards
      (λ shard. sym (flight-parts shard ∙ ap (λ (ms : List Message). ms ++ by_link reader in_flight (drop n links) shard) (nothing (take n links) shard quiet)))

  pub links_behind : map (emptied reader) (take n links) ≡ take n links → take n links ++ map (emptied reader) (drop n links) ≡ map (emptied reader) links
  links_behind quiet = sym (emptied-parts ∙ ap (λ (ls : List Link). ls ++ map (emptied reader) (drop n links)) quiet)

  -- where the last links bring nothing, they are those of the first
  pub jobs_before : (shards : List ℕ) → map (emptied reader) (drop n links) ≡ drop n links → all_arrive (by_link reader in_flight (take n links)) shards ≡ all_arrive (by_link reader in_flight links) shards
  jobs_before shards quiet = jobs-alike (by_link reader in_flight (take n links)) (by_link reader in_flight links) shards
      (λ shard. sym (flight-parts shard ∙ ap (λ (ms : List Message). by_link reader in_flight (take n links) shard ++ ms) (nothing (drop n links) shard quiet)
      ∙ append-nil (by_link reader in_flight (take n links) shard)))

  pub links_before : map (emptied reader) (drop n links) ≡ drop n links → map (emptied reader) (take n links) ++ drop n links ≡ map (emptied reader) links
  links_before quiet = sym (emptied-parts ∙ ap (λ (ls : List Link). map (emptied reader) (take n links) ++ ls) quiet)

-- where none is brought to the shards of a header, there is no job
pub no_jobs_below : (messages : ℕ → List Message) (shards : ℕ) → ((shard : ℕ) → shard < shards → messages shard ≡ []) → all_arrive messages (range_with_len 0 shards) ≡ []
no_jobs_below messages shards none = from 0 shards (λ shard first last. none shard (omega (arith, last)))
  where
    from : (start count : ℕ) → ((shard : ℕ) → start ≤ shard → shard < start + count → messages shard ≡ []) → all_arrive messages (range_with_len start count) ≡ []
    from start zero each = refl
    from start (suc count) each =
        ap (λ (ms : List Message). map (arrives start) ms ++ all_arrive messages (range_with_len (start + 1) count)) (each start (omega arith) (omega arith))
        ∙ from (start + 1) count (λ shard first last. each shard (omega (arith, first)) (omega (arith, last)))

-- a list that is as long as none
pub no_item : {X : Type 0} (xs : List X) → (length xs == 0) ≡ true → xs ≡ []
no_item [] none = refl
no_item (x ∷ xs) none = let same : length (x ∷ xs) ≡ 0 = eqb-true (length (x ∷ xs)) 0 none in absurd (omega (arith, same))

-- of no domain nothing is learned
of-none : (cell : Cell) → learned_of_domains [] cell ≡ []
of-none cell =
    ap (filter_map (learned_message cell))
    (filter-none (λ (b : Batch). is_learned_in cell b && list_any (λ (domain : Name). bytes_eq domain b.domain) []) cell.arrived (λ b among. neither (is_learned_in cell b)))
  where
    neither : (t : Bool) → (t && false) ≡ false
    neither true = refl
    neither false = refl

-- and so there is no job in which it arrives
pub no_domain_jobs : (domains : List Name) (cells : ℕ → Cell) (shards : List ℕ) → domains ≡ [] → all_arrive (λ shard. learned_of_domains domains (cells shard)) shards ≡ []
no_domain_jobs domains cells shards none =
    no_jobs (λ shard. learned_of_domains domains (cells shard)) shards (λ shard. ap (λ (names : List Name). learned_of_domains names (cells shard)) none ∙ of-none (cells shard))
