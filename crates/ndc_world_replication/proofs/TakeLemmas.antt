-- Lists in flight that are taken as jobs, link by link and shard by shard.
use Rattle.std.proofs.Common.{◌≡◌, ◌≤◌, ◌<◌, ◌+◌, ℕ, Bool, true, false, [], ◌∷◌, List, ◌++◌, map, take, drop, length, get_or, refl, ap, sym, ◌∙◌, append_assoc, arith, if◌then◌else◌, length-append, length-drop, length-take}
use Rattle.std.proofs.lemmas.List.{append-nil, at_drop_more, drop_all, drop_at, get_or_default, length-map, map-append, map-id, take_all}
use Rattle.std.proofs.lemmas.List.Edits.{map_over_more}
use Rattle.std.proofs.lemmas.Grind.{flat_map-append}
use Rattle.std.proofs.lemmas.List.FromFn.{map-range_with_len_more}
use Rattle.std.specs.List.{AllByRecursion, range_with_len}
use Rattle.ndc_model_cells.specs.Writing.{same_cluster}
use Rattle.ndc_model_cells.specs.declared.job.ShardJob.{ShardJob}
use Rattle.ndc_model_cells.specs.declared.message.Message.{Message}
use Rattle.ndc_domain.specs.declared.clusters.ClusterNo.{ClusterNo}
use Rattle.ndc_cluster_links.proofs.PlaceLemmas.{still}
use Rattle.ndc_cluster_links.specs.Links.{with_flight_in}
use Rattle.ndc_model.specs.Moves.{all_arrive, arrives, by_link, in_flight, without_flight}
use Rattle.ndc_model.specs.Queues.{Lane, new_lane}
use Rattle.ndc_model.specs.World.{Link}
use Rattle.ndc_world_replication.specs.Flights.{emptied, emptied_at, emptied_below}

-- what is brought over one link, where it is the reader's
abbrev pub own_part : (ℕ → Link → List Message) → ClusterNo → ℕ → Link → List Message
own_part messages reader shard link = if same_cluster link.reader reader then messages shard link else []

-- what is in flight over one link to a reader
abbrev pub own_flight : ClusterNo → ℕ → Link → List Message
own_flight = own_part in_flight

-- the next link as it was, where those before it were changed
pub link_there : (change : Link → Link) (old now : List Link) (place : ℕ) (link : Link) → now ≡ map change (take place old) ++ drop place old → place < length old → link ≡ get_or now place link → link ≡ get_or old place link
link_there change old now place link kept below at =
    let many : length (map change (take place old)) ≡ place = omega (arith, length-map (take place old) change, length-take place old, below) in
    at ∙ still now old place link (ap (drop place) kept ∙ drop_at (map change (take place old)) (drop place old) place many)

-- with what is brought over the next link, the jobs so far and those to come are all jobs
pub jobs_more : (brought : ℕ → Link → List Message) (reader : ClusterNo) (shard : ℕ) (jobs all : List ShardJob) (old : List Link) (place : ℕ) (link : Link) (messages : List Message) → place < length old → link ≡ get_or old place link
    → messages ≡ own_part brought reader shard link → jobs ++ map (arrives shard) (by_link reader brought (drop place old) shard) ≡ all
    → (jobs ++ map (arrives shard) messages) ++ map (arrives shard) (by_link reader brought (drop (place + 1) old) shard) ≡ all
jobs_more brought reader shard jobs all old place link messages below at own kept =
    let rest : List ShardJob = map (arrives shard) (by_link reader brought (drop (place + 1) old) shard) in
    let next : map (arrives shard) (by_link reader brought (drop place old) shard) ≡ map (arrives shard) messages ++ rest =
    at_drop_more (λ links. map (arrives shard) (by_link reader brought links shard)) old place link below
    ∙ ap (λ (l : Link). map (arrives shard) (own_part brought reader shard l ++ by_link reader brought (drop (place + 1) old) shard)) (sym at)
    ∙ ap (λ (ms : List Message). map (arrives shard) (ms ++ by_link reader brought (drop (place + 1) old) shard)) (sym own)
    ∙ map-append (arrives shard) messages (by_link reader brought (drop (place + 1) old) shard) in
    append_assoc jobs (map (arrives shard) messages) rest ∙ ap (λ js. jobs ++ js) (sym next) ∙ kept

-- the same of a link alone
pub jobs_more_by : (brought : ℕ → Link → List Message) (reader : ClusterNo) (shard : ℕ) (jobs all : List ShardJob) (old : List Link) (place : ℕ) (link : Link) (new : List ShardJob) → place < length old → link ≡ get_or old place link
    → new ≡ jobs ++ map (arrives shard) (by_link reader brought (link ∷ []) shard) → jobs ++ map (arrives shard) (by_link reader brought (drop place old) shard) ≡ all
    → new ++ map (arrives shard) (by_link reader brought (drop (place + 1) old) shard) ≡ all
jobs_more_by brought reader shard jobs all old place link new below at step kept =
    ap (λ (js : List ShardJob). js ++ map (arrives shard) (by_link reader brought (drop (place + 1) old) shard)) step
    ∙ jobs_more brought reader shard jobs all old place link (by_link reader brought (link ∷ []) shard) below at (append-nil (own_part brought reader shard link)) kept

-- what is brought over a reader's own link, and over another's
pub part_own : (brought : ℕ → Link → List Message) (reader : ClusterNo) (shard : ℕ) (link : Link) → same_cluster link.reader reader ≡ true → brought shard link ≡ own_part brought reader shard link
part_own brought reader shard link own = rw own refl

pub part_other : (brought : ℕ → Link → List Message) (reader : ClusterNo) (shard : ℕ) (link : Link) → same_cluster link.reader reader ≡ false → [] ≡ own_part brought reader shard link
part_other brought reader shard link other = rw other refl

-- the jobs of a link from which messages are taken, or nothing is
pub one_taken : (reader : ClusterNo) (shard : ℕ) (link : Link) (jobs : List ShardJob) (messages : List Message) → messages ≡ own_flight reader shard link
    → jobs ++ map (arrives shard) messages ≡ jobs ++ map (arrives shard) (by_link reader in_flight (link ∷ []) shard)
one_taken reader shard link jobs messages own = ap (λ (ms : List Message). jobs ++ map (arrives shard) ms) (own ∙ sym (append-nil (own_flight reader shard link)))

pub none_taken : (reader : ClusterNo) (shard : ℕ) (link : Link) (jobs : List ShardJob) → own_flight reader shard link ≡ [] → jobs ≡ jobs ++ map (arrives shard) (by_link reader in_flight (link ∷ []) shard)
none_taken reader shard link jobs none = sym (append-nil jobs) ∙ one_taken reader shard link jobs [] (sym none)

pub emptied_other : (reader : ClusterNo) (shard : ℕ) (link : Link) → same_cluster link.reader reader ≡ false → link ≡ emptied_at reader shard link
emptied_other reader shard link other = rw other refl

pub emptied_own : (reader : ClusterNo) (shard : ℕ) (link : Link) → same_cluster link.reader reader ≡ true → with_flight_in shard [] link ≡ emptied_at reader shard link
emptied_own reader shard link own = rw own refl

-- ---- shard by shard

-- in the beginning nothing is emptied, and after the last shard all is
pub emptied_none : (reader : ClusterNo) (link : Link) → link ≡ emptied_below reader 0 link
emptied_none reader link = by (same_cluster link.reader reader) refl
  where
    by : (b : Bool) → same_cluster link.reader reader ≡ b → link ≡ emptied_below reader 0 link
    by true own = rw own refl
    by false other = rw other refl

pub emptied_all : (reader : ClusterNo) (shards : ℕ) (link : Link) → length link.lanes ≡ shards → emptied_below reader shards link ≡ emptied reader link
emptied_all reader shards link many = by (same_cluster link.reader reader) refl
  where
    past : length link.lanes ≤ shards
    past = omega (arith, many)

    lanes : map without_flight (take shards link.lanes) ++ drop shards link.lanes ≡ map without_flight link.lanes
    lanes = ap (λ (xs : List Lane). map without_flight xs ++ drop shards link.lanes) (take_all shards link.lanes past)
        ∙ ap (λ (xs : List Lane). map without_flight link.lanes ++ xs) (drop_all shards link.lanes past) ∙ append-nil (map without_flight link.lanes)

    by : (b : Bool) → same_cluster link.reader reader ≡ b → emptied_below reader shards link ≡ emptied reader link
    by true own = rw own (ap (λ (xs : List Lane). record link { lanes = xs }) lanes)
    by false other = rw other refl

-- the lane of a shard, where those before it were emptied
lane-there : (lanes : List Lane) (shard : ℕ) (d : Lane) → shard < length lanes → get_or (map without_flight (take shard lanes) ++ drop shard lanes) shard d ≡ get_or lanes shard d
lane-there lanes shard d below =
    let many : length (map without_flight (take shard lanes)) ≡ shard = omega (arith, length-map (take shard lanes) without_flight, length-take shard lanes, below) in
    still (map without_flight (take shard lanes) ++ drop shard lanes) lanes shard d (drop_at (map without_flight (take shard lanes)) (drop shard lanes) shard many)

-- one shard more is emptied
pub emptied_more : (reader : ClusterNo) (shard : ℕ) (link : Link) → shard < length link.lanes → emptied_at reader shard (emptied_below reader shard link) ≡ emptied_below reader (shard + 1) link
emptied_more reader shard link below = by (same_cluster link.reader reader) refl
  where
    by : (b : Bool) → same_cluster link.reader reader ≡ b → emptied_at reader shard (emptied_below reader shard link) ≡ emptied_below reader (shard + 1) link
    by true own =
        let at : get_or (map without_flight (take shard link.lanes) ++ drop shard link.lanes) shard new_lane
        ≡ get_or (map without_flight (take shard link.lanes) ++ drop shard link.lanes) shard (get_or (map without_flight (take shard link.lanes) ++ drop shard link.lanes) shard new_lane) =
        lane-there link.lanes shard new_lane below ∙ get_or_default link.lanes shard new_lane _ below ∙ sym (lane-there link.lanes shard _ below) in
        rw own (rw own (ap (λ (xs : List Lane). record link { lanes = xs })
        (map_over_more without_flight link.lanes (map without_flight (take shard link.lanes) ++ drop shard link.lanes) shard
        (get_or (map without_flight (take shard link.lanes) ++ drop shard link.lanes) shard new_lane) below refl at)))
    by false other = rw other (rw other refl)

-- what is in flight for a shard, where those before it were emptied
pub flight_still : (reader : ClusterNo) (shard : ℕ) (link : Link) → shard < length link.lanes → own_flight reader shard (emptied_below reader shard link) ≡ own_flight reader shard link
flight_still reader shard link below = by (same_cluster link.reader reader) refl
  where
    by : (b : Bool) → same_cluster link.reader reader ≡ b → own_flight reader shard (emptied_below reader shard link) ≡ own_flight reader shard link
    by true own = rw own (rw own (ap (λ (lane : Lane). lane.flight) (lane-there link.lanes shard new_lane below)))
    by false other = rw other (rw other refl)

-- as many lanes as before
pub lanes_still : (reader : ClusterNo) (shard : ℕ) (link : Link) → length (emptied_below reader shard link).lanes ≡ length link.lanes
lanes_still reader shard link = by (same_cluster link.reader reader) refl
  where
    by : (b : Bool) → same_cluster link.reader reader ≡ b → length (emptied_below reader shard link).lanes ≡ length link.lanes
    by true own =
        rw own (omega (arith, length-append (map without_flight (take shard link.lanes)) (drop shard link.lanes), length-map (take shard link.lanes) without_flight, length-take shard link.lanes, length-drop shard link.lanes))
    by false other = rw other refl

-- ---- all links, and all shards

module _ (reader : ClusterNo) (shards shard : ℕ) (below : shard < shards) where
  -- one shard more is emptied over all links
  pub all_emptied_more : (links : List Link) → AllByRecursion (λ (link : Link). length link.lanes ≡ shards) links
      → map (emptied_at reader shard) (map (emptied_below reader shard) links) ≡ map (emptied_below reader (shard + 1)) links
  all_emptied_more [] many = refl
  all_emptied_more (link ∷ links) many =
      let inside : shard < length link.lanes = omega (arith, below, many.0) in
      ap (λ (l : Link). l ∷ map (emptied_at reader shard) (map (emptied_below reader shard) links)) (emptied_more reader shard link inside)
      ∙ ap (λ (ls : List Link). emptied_below reader (shard + 1) link ∷ ls) (all_emptied_more links many.1)

  -- what is in flight for the next shard is as it was
  pub all_flight_still : (links : List Link) → AllByRecursion (λ (link : Link). length link.lanes ≡ shards) links
      → by_link reader in_flight (map (emptied_below reader shard) links) shard ≡ by_link reader in_flight links shard
  all_flight_still [] many = refl
  all_flight_still (link ∷ links) many =
      let inside : shard < length link.lanes = omega (arith, below, many.0) in
      ap (λ (ms : List Message). ms ++ by_link reader in_flight (map (emptied_below reader shard) links) shard) (same_flight link inside)
      ∙ ap (λ (ms : List Message). own_flight reader shard link ++ ms) (all_flight_still links many.1)
    where
      same_flight : (l : Link) → shard < length l.lanes → own_flight reader shard (emptied_below reader shard l) ≡ own_flight reader shard l
      same_flight l inside = flight_still reader shard l inside

  -- and it has a lane in each link
  pub all_lanes_still : (links : List Link) → AllByRecursion (λ (link : Link). length link.lanes ≡ shards) links
      → AllByRecursion (λ (link : Link). shard < length link.lanes) (map (emptied_below reader shard) links)
  all_lanes_still [] many = tt
  all_lanes_still (link ∷ links) many = (omega (arith, below, many.0, lanes_still reader shard link), all_lanes_still links many.1)

-- in the beginning nothing is emptied, and in the end all links are
pub all_emptied_none : (reader : ClusterNo) (links : List Link) → links ≡ map (emptied_below reader 0) links
all_emptied_none reader [] = refl
all_emptied_none reader (link ∷ links) = ap (λ (l : Link). l ∷ links) (emptied_none reader link) ∙ ap (λ (ls : List Link). emptied_below reader 0 link ∷ ls) (all_emptied_none reader links)

pub all_emptied : (reader : ClusterNo) (shards : ℕ) (links : List Link) → AllByRecursion (λ (link : Link). length link.lanes ≡ shards) links → map (emptied_below reader shards) links ≡ map (emptied reader) links
all_emptied reader shards [] many = refl
all_emptied reader shards (link ∷ links) many =
    ap (λ (l : Link). l ∷ map (emptied_below reader shards) links) (emptied_all reader shards link many.0) ∙ ap (λ (ls : List Link). emptied reader link ∷ ls) (all_emptied reader shards links many.1)

-- the jobs of one shard more
pub jobs_of_more : (messages : ℕ → List Message) (shard : ℕ) → all_arrive messages (range_with_len 0 shard) ++ map (arrives shard) (messages shard) ≡ all_arrive messages (range_with_len 0 (shard + 1))
jobs_of_more messages shard =
    let at : 0 + shard ≡ shard = omega arith in
    let next : range_with_len 0 (shard + 1) ≡ range_with_len 0 shard ++ shard ∷ [] =
    sym (map-id (range_with_len 0 (shard + 1))) ∙ map-range_with_len_more (λ (k : ℕ). k) 0 shard shard at ∙ ap (λ (ks : List ℕ). ks ++ shard ∷ []) (map-id (range_with_len 0 shard)) in
    sym (ap (all_arrive messages) next ∙ flat_map-append (λ (k : ℕ). map (arrives k) (messages k)) (range_with_len 0 shard) (shard ∷ [])
    ∙ ap (λ (js : List ShardJob). all_arrive messages (range_with_len 0 shard) ++ js) (append-nil (map (arrives shard) (messages shard))))
