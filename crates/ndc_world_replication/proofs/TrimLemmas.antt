-- Queues trimmed up to where all readers are done.
use Rattle.std.proofs.Common.{◌≡◌, ◌≤◌, ◌<◌, ◌+◌, ◌-◌, ℕ, zero, suc, drop, take, length-take, Bool, true, false, List, [], ◌∷◌, ◌++◌, if◌then◌else◌, map, max, min, length, get_or, set, slice_index_or, slice_set, sum, refl, ap, sym, subst, ◌∙◌, arith}
use Rattle.std.proofs.Math.Seq.{map-set_same}
use Rattle.std.proofs.lemmas.List.{drop_at, get_or_default, map-set}
use Rattle.std.specs.List.{AllByRecursion, fold, range_with_len}
use Rattle.ndc_script_types.specs.WellFormed.{IsCluster}
use Rattle.ndc_script_types.specs.declared.script.Header.{Header}
use Rattle.ndc_model_cells.specs.Cells.{Cell}
use Rattle.ndc_model_cells.specs.Jobs.{cell_for}
use Rattle.ndc_model_cells.specs.Writing.{same_cluster}
use Rattle.ndc_model_cells.specs.declared.message.Message.{Message}
use Rattle.ndc_domain.specs.declared.clusters.ClusterNo.{ClusterNo}
use Rattle.ndc_laws_reached.proofs.ManyLemmas.{one-cluster}
use Rattle.ndc_graceful.specs.declared.handover.Handover.{Handover}
use Rattle.ndc_cluster_links.proofs.PlaceLemmas.{changed_front, changed_more, counted_more, still_there}
use Rattle.ndc_cluster_links.proofs.RestLemmas.{len_kept, rest_there}
use Rattle.ndc_cluster_links.specs.Rest.{AreRests}
use Rattle.ndc_model.proofs.ListLemmas.{length-map_from}
use Rattle.ndc_model.specs.Moves.{done_levels, map_from, trimmed_all, trimmed_level}
use Rattle.ndc_model.specs.World.{Cluster, Link, World, cluster_at, lane_in, shards_of, trimmed_at}
use Rattle.ndc_model.specs.World as world
use Rattle.ndc_queue.specs.Levels.{trim_level}
use Rattle.ndc_queue.specs.Queues.{QueueValue, queue_len}
use Rattle.ndc_cluster.proofs.EachLemmas.{all_there}
use Rattle.ndc_world_replication.specs.Publishers.{PublisherValue}
use Rattle.ndc_world_replication.proofs.LinkLemmas.{stands_by}
use Rattle.ndc_world_replication.proofs.ShardLemmas.{cells_there}
use Rattle.ndc_world_replication.specs.Replications.{StandsAt, world_of}
use Rattle.ndc_world_replication.specs.Orderly.{AreLevelsKept, IsOrderly}
use Rattle.ndc_world_replication.specs.Trims.{dropped_now, raised_level, with_trimmed}

-- the least of levels that do not lie beyond a queue's end
least-of : (queue : List Message) (levels : List ℕ) → AllByRecursion (λ done. done ≤ length queue) levels → fold min (length queue) levels ≡ trim_level queue levels
least-of queue [] most = refl
least-of queue (done ∷ levels) most = let same : min (length queue) done ≡ done = omega (arith, most.0) in ap (λ (n : ℕ). fold min n levels) same

-- a list changed by place, as one over the places
places-from : {Y : Type 0} (f : ℕ → ℕ → Y) (from : ℕ) (xs : List ℕ) (all : List ℕ) → ((i : ℕ) → i < length xs → slice_index_or all (from + i) 0 ≡ get_or xs i 0)
    → map_from f from xs ≡ map (λ place. f place (slice_index_or all place 0)) (range_with_len from (length xs))
places-from f from [] all same = refl
places-from {Y = Y} f from (x ∷ xs) all same =
    let here : from + 0 ≡ from = omega arith in
    let next : suc from ≡ from + 1 = omega arith in
    let first : x ≡ slice_index_or all from 0 = sym (ap (λ (n : ℕ). slice_index_or all n 0) (sym here) ∙ same 0 (omega arith)) in
    ap (λ (n : ℕ). f from n ∷ map_from f (suc from) xs) first
    ∙ ap (λ (ys : List Y). f from (slice_index_or all from 0) ∷ ys)
    (ap (λ (n : ℕ). map_from f n xs) next
    ∙ places-from f (from + 1) xs all (λ i below. let place : from + 1 + i ≡ from + suc i = omega arith in ap (λ (n : ℕ). slice_index_or all n 0) place ∙ same (suc i) (omega (arith, below))))

module _ (header : Header) (w : World) (source : ClusterNo) (known : IsCluster header source) (it : IsOrderly header w) where
  -- the readers of a source are not done beyond its queue's end
  levels-most : (shard : ℕ) → shard < header.shards → (links : List Link) → AllByRecursion (λ link. (k : ℕ) → k < header.shards → AreLevelsKept w link k (lane_in link k)) links
      → AllByRecursion (λ done. done ≤ length (world.queue_at source shard w)) (done_levels source shard links)
  levels-most shard below [] each = tt
  levels-most shard below (link ∷ links) each = by (same_cluster link.source source) refl (levels-most shard below links each.1)
    where
      by : (b : Bool) → same_cluster link.source source ≡ b → AllByRecursion (λ done. done ≤ length (world.queue_at source shard w)) (done_levels source shard links)
          → AllByRecursion (λ done. done ≤ length (world.queue_at source shard w)) ((if b then (lane_in link shard).levels.done ∷ [] else []) ++ done_levels source shard links)
      by true mine rest =
          let kept : AreLevelsKept w link shard (lane_in link shard) = each.0 shard below in
          let here : (lane_in link shard).levels.done ≤ length (world.queue_at link.source shard w) = omega (arith, kept.levels.done_most, kept.levels.read_most) in
          (subst (λ (number : ClusterNo). (lane_in link shard).levels.done ≤ length (world.queue_at number shard w)) (one-cluster link.source source mine) here, rest)
      by false other rest = rest

  -- how far a queue comes to be trimmed
  raised : (shard : ℕ) → shard < header.shards → raised_level source w.links (cluster_at source w).cells shard (trimmed_at source w shard) ≡ trimmed_level source w shard
  raised shard below = ap (max (trimmed_at source w shard)) (least-of (world.queue_at source shard w) (done_levels source shard w.links) (levels-most shard below w.links it.lanes))

  -- the same for all shards
  rows : {Y : Type 0} (f : ℕ → ℕ → Y) (g : ℕ → Y) → ((shard : ℕ) → shard < header.shards → f shard (trimmed_at source w shard) ≡ g shard)
      → map_from f 0 (slice_index_or w.trimmed source.number []) ≡ map g (shards_of header)
  rows {Y = Y} f g same =
      let many : length (slice_index_or w.trimmed source.number []) ≡ header.shards =
      all_there (λ (levels : List ℕ). length levels ≡ header.shards) w.trimmed source.number [] (omega (arith, known, it.shaped.sources)) it.shaped.trimmed in
      places-from f 0 (slice_index_or w.trimmed source.number []) (slice_index_or w.trimmed source.number []) (λ i below. let place : 0 + i ≡ i = omega arith in ap (λ (n : ℕ). slice_index_or (slice_index_or w.trimmed source.number []) n 0) place)
      ∙ ap (λ (n : ℕ). map (λ shard. f shard (trimmed_at source w shard)) (range_with_len 0 n)) many
      ∙ alike 0 header.shards (omega arith)
    where
      alike : (from n : ℕ) → from + n ≤ header.shards → map (λ shard. f shard (trimmed_at source w shard)) (range_with_len from n) ≡ map g (range_with_len from n)
      alike from zero most = refl
      alike from (suc n) most =
          ap (λ (y : Y). y ∷ map (λ shard. f shard (trimmed_at source w shard)) (range_with_len (from + 1) n)) (same from (omega (arith, most)))
          ∙ ap (λ (ys : List Y). g from ∷ ys) (alike (from + 1) n (omega (arith, most)))

  pub raised_all : map_from (raised_level source w.links (cluster_at source w).cells) 0 (slice_index_or w.trimmed source.number []) ≡ map (trimmed_level source w) (shards_of header)
  raised_all = rows (raised_level source w.links (cluster_at source w).cells) (trimmed_level source w) raised

  pub dropped_all : map_from (dropped_now source w.links (cluster_at source w).cells) 0 (slice_index_or w.trimmed source.number []) ≡ map (λ shard. trimmed_level source w shard - trimmed_at source w shard) (shards_of header)
  dropped_all = rows (dropped_now source w.links (cluster_at source w).cells) (λ shard. trimmed_level source w shard - trimmed_at source w shard)
      (λ shard below. ap (λ (n : ℕ). n - trimmed_at source w shard) (raised shard below))

-- a publisher whose queues are trimmed takes its place
pub trimmed_world : (publishers : List PublisherValue) (links : List Link) (handovers : List Handover) (cluster : ClusterNo) (publisher : PublisherValue) (levels : List ℕ) → publisher ≡ get_or publishers cluster.number publisher
    → world_of (set publishers cluster.number (with_trimmed levels publisher)) links handovers ≡ record (world_of publishers links handovers) { trimmed = slice_set (world_of publishers links handovers).trimmed cluster.number levels }
trimmed_world publishers links handovers cluster publisher levels at =
    let kept : map (λ (s : PublisherValue). s.cluster) (set publishers cluster.number (with_trimmed levels publisher)) ≡ map (λ (s : PublisherValue). s.cluster) publishers =
    map-set_same (λ (s : PublisherValue). s.cluster) publishers cluster.number (with_trimmed levels publisher) publisher (ap (λ (s : PublisherValue). s.cluster) at) in
    let changed : map (λ (s : PublisherValue). s.trimmed) (set publishers cluster.number (with_trimmed levels publisher)) ≡ set (map (λ (s : PublisherValue). s.trimmed) publishers) cluster.number levels =
    map-set (λ (s : PublisherValue). s.trimmed) publishers cluster.number (with_trimmed levels publisher) in
    λ i. record { clusters = kept i; links = links; trimmed = changed i; handovers = handovers }

-- the same in the world, where the levels are those up to which all readers are done
module _ (header : Header) (w : World) (publishers : List PublisherValue) (links : List Link) (handovers : List Handover) (source : ClusterNo) (publisher : PublisherValue)
    (same : world_of publishers links handovers ≡ w) (known : IsCluster header source) (it : IsOrderly header w) (at : publisher ≡ get_or publishers source.number publisher) where
  own : StandsAt w source publisher
  own = stands_by header w publishers links handovers source publisher same it.shaped known at

  -- each of its readers has a lane for each of its cells
  pub lanes_there : AllByRecursion (λ (link : Link). length link.lanes ≡ length publisher.cluster.cells) links
  lanes_there =
      let many : length publisher.cluster.cells ≡ header.shards = ap (λ (c : Cluster). length c.cells) (sym own.cluster_is) ∙ cells_there header w source known it.shaped in
      subst (AllByRecursion (λ (link : Link). length link.lanes ≡ length publisher.cluster.cells)) (sym (ap (λ (v : World). v.links) same))
      (subst (λ (n : ℕ). AllByRecursion (λ (link : Link). length link.lanes ≡ n) w.links) (sym many) it.shaped.lanes)

  by-publisher : {Y : Type 0} (f : List Link → List Cell → ℕ → ℕ → Y)
      → map_from (f links publisher.cluster.cells) 0 publisher.trimmed ≡ map_from (f w.links (cluster_at source w).cells) 0 (slice_index_or w.trimmed source.number [])
  by-publisher f =
      ap (λ (ls : List Link). map_from (f ls publisher.cluster.cells) 0 publisher.trimmed) (ap (λ (v : World). v.links) same)
      ∙ ap (λ (c : Cluster). map_from (f w.links c.cells) 0 publisher.trimmed) (sym own.cluster_is)
      ∙ ap (map_from (f w.links (cluster_at source w).cells) 0) (sym own.trimmed_is)

  pub trimmed_there : world_of (set publishers source.number (with_trimmed (map_from (raised_level source links publisher.cluster.cells) 0 publisher.trimmed) publisher)) links handovers ≡ trimmed_all header source w
  unfolding trimmed_all
  trimmed_there =
      trimmed_world publishers links handovers source publisher (map_from (raised_level source links publisher.cluster.cells) 0 publisher.trimmed) at
      ∙ ap (λ (levels : List ℕ). record (world_of publishers links handovers) { trimmed = slice_set (world_of publishers links handovers).trimmed source.number levels })
      (by-publisher (raised_level source) ∙ raised_all header w source known it)
      ∙ ap (λ (v : World). record v { trimmed = slice_set v.trimmed source.number (map (trimmed_level source w) (shards_of header)) }) same

  pub dropped_there : sum (map_from (dropped_now source links publisher.cluster.cells) 0 publisher.trimmed) ≡ sum (map (λ shard. trimmed_level source w shard - trimmed_at source w shard) (shards_of header))
  dropped_there = ap sum (by-publisher (dropped_now source) ∙ dropped_all header w source known it)

-- ---- shard by shard

-- with the queue of the next shard trimmed, so are those of one shard more
module _ (source : ClusterNo) (links : List Link) (old publisher : PublisherValue) (shard level : ℕ)
    (kept : publisher ≡ with_trimmed (changed_front (raised_level source links old.cluster.cells) 0 shard old.trimmed) old) (below : shard < length old.trimmed)
    (least : level ≡ fold min (length (cell_for shard old.cluster.cells).written) (done_levels source shard links)) where
  abbrev now : List ℕ
  now = changed_front (raised_level source links old.cluster.cells) 0 shard old.trimmed

  there : get_or now shard 0 ≡ get_or now shard (get_or now shard 0)
  there =
      still_there (raised_level source links old.cluster.cells) 0 shard old.trimmed 0 below ∙ get_or_default old.trimmed shard 0 (get_or now shard 0) below
      ∙ sym (still_there (raised_level source links old.cluster.cells) 0 shard old.trimmed (get_or now shard 0) below)

  pub trim_step : record publisher { trimmed = slice_set publisher.trimmed shard (max (slice_index_or publisher.trimmed shard 0) level) }
      ≡ with_trimmed (changed_front (raised_level source links old.cluster.cells) 0 (shard + 1) old.trimmed) old
  trim_step =
      ap (λ (s : PublisherValue). record s { trimmed = slice_set s.trimmed shard (max (slice_index_or s.trimmed shard 0) level) }) kept
      ∙ ap (λ (levels : List ℕ). with_trimmed levels old)
      (changed_more (raised_level source links old.cluster.cells) shard old.trimmed now (get_or now shard 0) (max (get_or now shard 0) level) below refl there (ap (max (get_or now shard 0)) least))

  pub drop_step : (count : ℕ) → count ≡ sum (map_from (dropped_now source links old.cluster.cells) 0 (take shard old.trimmed))
      → count + (max (slice_index_or publisher.trimmed shard 0) level - slice_index_or publisher.trimmed shard 0) ≡ sum (map_from (dropped_now source links old.cluster.cells) 0 (take (shard + 1) old.trimmed))
  drop_step count so =
      let many : length (map_from (raised_level source links old.cluster.cells) 0 (take shard old.trimmed)) ≡ shard =
      omega (arith, length-map_from (raised_level source links old.cluster.cells) 0 (take shard old.trimmed), length-take shard old.trimmed, below) in
      ap (λ (s : PublisherValue). count + (max (slice_index_or s.trimmed shard 0) level - slice_index_or s.trimmed shard 0)) kept
      ∙ counted_more (dropped_now source links old.cluster.cells) shard old.trimmed now (get_or now shard 0) count (max (get_or now shard 0) level - get_or now shard 0) below
      (drop_at (map_from (raised_level source links old.cluster.cells) 0 (take shard old.trimmed)) (drop shard old.trimmed) shard many) there so
      (ap (λ (n : ℕ). max (get_or now shard 0) n - get_or now shard 0) least)

-- how long a queue is
pub len_there : (cells : List Cell) (queues : List QueueValue) (shard : ℕ) (queue : QueueValue) → AreRests queues (λ k. (cell_for k cells).written) → shard < length queues → queue ≡ get_or queues shard queue
    → queue_len queue ≡ length (cell_for shard cells).written
len_there cells queues shard queue rests below at = len_kept queue (cell_for shard cells).written (rest_there queues (λ k. (cell_for k cells).written) shard queue rests below at)
