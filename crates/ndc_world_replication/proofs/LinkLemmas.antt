-- What a reader has of a source, in a world that is shaped and whose lanes are as they should be.
use Rattle.std.proofs.Common.{◌≡◌, ◌≤◌, ◌<◌, ℕ, [], true, false, List, ◌++◌, Option, Some, None, map, take, drop, position, length, get_or, slice_index_or, set, sum, refl, ap, sym, subst, ◌∙◌, arith, length-take}
use Rattle.std.proofs.Math.ListN.{get_or-map}
use Rattle.std.proofs.lemmas.Bool.{and_parts}
use Rattle.std.proofs.lemmas.List.{append-nil, drop_all, drop_at, get_or_read, length-map, take_all}
use Rattle.std.proofs.lemmas.List.Quantifiers.{position-Some}
use Rattle.ndc_script_types.specs.WellFormed.{AreTwoClusters, IsCluster}
use Rattle.ndc_script_types.specs.declared.script.Header.{Header}
use Rattle.ndc_model_cells.specs.Cells.{Cell}
use Rattle.ndc_model_cells.specs.Jobs.{cell_for}
use Rattle.ndc_model_cells.specs.Writing.{same_cluster}
use Rattle.ndc_domain.specs.declared.clusters.ClusterNo.{ClusterNo}
use Rattle.ndc_domain.specs.declared.record.DomainRecord.{DomainRecord}
use Rattle.ndc_laws_reached.proofs.ManyLemmas.{one-cluster}
use Rattle.ndc_graceful.specs.declared.handover.Handover.{Handover}
use Rattle.ndc_cluster_links.proofs.PlaceLemmas.{still}
use Rattle.ndc_cluster_links.proofs.RestLemmas.{len_kept}
use Rattle.ndc_laws_reached.proofs.TrimmedLemmas.{link-there}
use Rattle.ndc_cluster_links.specs.Links.{with_lane_in}
use Rattle.ndc_cluster_links.specs.Rest.{AreRests, AreWithin, IsRestOf, IsWithin, queue_at}
use Rattle.ndc_model.specs.Fair.{EachLane, IsShaped}
use Rattle.ndc_model.specs.Moves.{map_from, pulled_all, pulled_lane, pulled_link, pulled_shard, renewed, renewed_link}
use Rattle.ndc_model.specs.Queues.{after_pull, after_renewal, put_in_flight}
use Rattle.ndc_model.specs.Sending.{pull_count}
use Rattle.ndc_model.specs.World.{Cluster, Link, World, changed_first, cluster_at, is_link, lane_in, link_at, link_found, new_cluster}
use Rattle.ndc_model.specs.World as world
use Rattle.ndc_queue.specs.Queues.{QueueValue, new_queue, queue_len}
use Rattle.ndc_cluster.proofs.EachLemmas.{all_there}
use Rattle.ndc_world_replication.specs.Publishers.{PublisherValue}
use Rattle.ndc_world_replication.proofs.PlaceLemmas.{changed_at, found_at, none_changed, none_found}
use Rattle.ndc_world_replication.proofs.ShardLemmas.{cells_there}
use Rattle.ndc_world_replication.specs.Replications.{StandsAt, world_of}
use Rattle.ndc_world_replication.specs.Orderly.{AreLevelsKept}

-- the cluster of a number
pub stands : (publishers : List PublisherValue) (links : List Link) (handovers : List Handover) (cluster : ClusterNo) (publisher : PublisherValue) → cluster.number < length publishers → publisher ≡ get_or publishers cluster.number publisher
    → StandsAt (world_of publishers links handovers) cluster publisher
stands publishers links handovers cluster publisher below at = record {
  cluster_is = sym (get_or_read (map (λ (s : PublisherValue). s.cluster) publishers) cluster.number publisher.cluster (omega (arith, below, length-map publishers (λ (s : PublisherValue). s.cluster)))
      (ap (λ (s : PublisherValue). s.cluster) at ∙ sym (get_or-map (λ (s : PublisherValue). s.cluster) publishers cluster.number publisher)) (new_cluster 0));
  trimmed_is = sym (get_or_read (map (λ (s : PublisherValue). s.trimmed) publishers) cluster.number publisher.trimmed (omega (arith, below, length-map publishers (λ (s : PublisherValue). s.trimmed)))
      (ap (λ (s : PublisherValue). s.trimmed) at ∙ sym (get_or-map (λ (s : PublisherValue). s.trimmed) publishers cluster.number publisher)) []);
}

-- the link of a reader and a source at the place where it is found
pub record IsFound (reader source : ClusterNo) (links : List Link) (place : ℕ) (link : Link) : Type 0 where
  pub below : place < length links
  pub at : link ≡ get_or links place link
  pub is : is_link reader source link ≡ true
  pub before : (k : ℕ) → k < place → is_link reader source (get_or links k link) ≡ false

pub found_there : (reader source : ClusterNo) (links : List Link) (place : ℕ) (link : Link) → position (is_link reader source) links ≡ Some place → link ≡ get_or links place link → IsFound reader source links place link
found_there reader source links place link found at =
    let it = position-Some (is_link reader source) links place link found in
    record { below = it.0; at = at; is = subst (λ (l : Link). is_link reader source l ≡ true) (sym at) it.1; before = it.2 }

-- a link at its place, and its source with its queues, in a world that is as it should be
pub record Holds (header : Header) (w : World) (place : ℕ) (link : Link) (publisher : PublisherValue) (queues : List QueueValue) : Type 0 where
  pub below : place < length w.links
  pub at : link ≡ get_or w.links place link
  pub shaped : IsShaped header w
  pub lanes : EachLane header w (AreLevelsKept w)
  pub own : StandsAt w link.source publisher
  pub known : IsCluster header link.source
  pub alike : length queues ≡ length publisher.cluster.cells
  pub rests : AreRests queues (λ shard. (cell_for shard publisher.cluster.cells).written)
  pub firsts : map (λ (queue : QueueValue). queue.first) queues ≡ publisher.trimmed

-- cells of a cluster, one for each shard
pub cells_many : (header : Header) (w : World) (cluster : ClusterNo) (publisher : PublisherValue) → IsShaped header w → IsCluster header cluster → StandsAt w cluster publisher → length publisher.cluster.cells ≡ header.shards
cells_many header w cluster publisher shaped known own =
    ap (λ (c : Cluster). length c.cells) (sym own.cluster_is)
    ∙ cells_there header w cluster known shaped

module _ (header : Header) (w : World) (place : ℕ) (link : Link) (publisher : PublisherValue) (queues : List QueueValue) (it : Holds header w place link publisher queues) where
  pub lanes_many : length link.lanes ≡ header.shards
  lanes_many =
      ap (λ (l : Link). length l.lanes) it.at ∙ all_there (λ (l : Link). length l.lanes ≡ header.shards) w.links place link it.below it.shaped.lanes

  -- there is a queue for each lane
  pub lanes_alike : length queues ≡ length link.lanes
  lanes_alike = it.alike ∙ cells_many header w link.source publisher it.shaped it.known it.own ∙ sym lanes_many

  -- and the lanes' levels lie in what is kept of the queues
  pub lanes_within : AreWithin queues link.lanes
  lanes_within shard below =
      let inside : shard < length queues = omega (arith, below, lanes_alike) in
      let there : shard < header.shards = omega (arith, below, lanes_many) in
      let true_lane : AreLevelsKept w link shard (lane_in link shard) =
      subst (λ (l : Link). (k : ℕ) → k < header.shards → AreLevelsKept w l k (lane_in l k)) (sym it.at)
      (all_there (λ (l : Link). (k : ℕ) → k < header.shards → AreLevelsKept w l k (lane_in l k)) w.links place link it.below it.lanes) shard there in
      let first : (queue_at queues shard).first ≡ world.trimmed_at link.source w shard =
      sym (get_or-map (λ (queue : QueueValue). queue.first) queues shard new_queue) ∙ ap (λ (levels : List ℕ). slice_index_or levels shard 0) (it.firsts ∙ sym it.own.trimmed_is) in
      let len : queue_len (queue_at queues shard) ≡ length (world.queue_at link.source shard w) =
      len_kept (queue_at queues shard) (cell_for shard publisher.cluster.cells).written (it.rests shard inside)
      ∙ ap (λ (cluster : Cluster). length (cell_for shard cluster.cells).written) (sym it.own.cluster_is) in
      record {
        first_most = omega (arith, first, true_lane.trimmed_most);
        done_most = true_lane.levels.done_most;
        read_most = omega (arith, len, true_lane.levels.read_most);
      }

  -- a pull from the source, by its own table and queues
  pub pulled_there : (table : List DomainRecord) → table ≡ publisher.cluster.table
      → record link { lanes = map_from (λ shard lane. after_pull link.reader table None (cell_for shard publisher.cluster.cells).written lane) 0 link.lanes } ≡ pulled_link w link
  pulled_there table same =
      ap (λ (t : List DomainRecord). record link { lanes = map_from (λ shard lane. after_pull link.reader t None (cell_for shard publisher.cluster.cells).written lane) 0 link.lanes }) same
      ∙ ap (λ (cluster : Cluster). record link { lanes = map_from (λ shard lane. after_pull link.reader cluster.table None (cell_for shard cluster.cells).written lane) 0 link.lanes }) (sym it.own.cluster_is)

  -- and how many entries it puts in flight
  pub counted_there : (table : List DomainRecord) → table ≡ publisher.cluster.table
      → map_from (λ shard lane. length (put_in_flight link.reader table None (cell_for shard publisher.cluster.cells).written lane)) 0 link.lanes ≡ map_from (pull_count w None link) 0 link.lanes
  counted_there table same =
      ap (λ (t : List DomainRecord). map_from (λ shard lane. length (put_in_flight link.reader t None (cell_for shard publisher.cluster.cells).written lane)) 0 link.lanes) same
      ∙ ap (λ (cluster : Cluster). map_from (λ shard lane. length (put_in_flight link.reader cluster.table None (cell_for shard cluster.cells).written lane)) 0 link.lanes) (sym it.own.cluster_is)

  -- the queue of a shard
  queue-is : (shard : ℕ) (now : List QueueValue) (queue : QueueValue) → shard < header.shards → now ≡ queues → queue ≡ get_or now shard queue → queue_at queues shard ≡ queue
  queue-is shard now queue below seen here =
      sym (get_or_read queues shard queue (omega (arith, below, lanes_alike, lanes_many)) (here ∙ ap (λ (qs : List QueueValue). get_or qs shard queue) seen) new_queue)

  -- the levels of its lane lie in what is kept of it
  pub within_there : (shard : ℕ) (now : List QueueValue) (queue : QueueValue) → shard < header.shards → now ≡ queues → queue ≡ get_or now shard queue → IsWithin queue (lane_in link shard)
  within_there shard now queue below seen here =
      subst (λ (q : QueueValue). IsWithin q (lane_in link shard)) (queue-is shard now queue below seen here) (lanes_within shard (omega (arith, below, lanes_many)))

  -- and this is the rest of what its cell has written
  pub rest_there : (shard : ℕ) (now : List QueueValue) (queue : QueueValue) → shard < header.shards → now ≡ queues → queue ≡ get_or now shard queue → IsRestOf queue (cell_for shard publisher.cluster.cells).written
  rest_there shard now queue below seen here =
      subst (λ (q : QueueValue). IsRestOf q (cell_for shard publisher.cluster.cells).written) (queue-is shard now queue below seen here) (it.rests shard (omega (arith, below, lanes_alike, lanes_many)))

  -- a pull for one shard
  pub pulled_some_there : (shard count : ℕ) (table : List DomainRecord) → table ≡ publisher.cluster.table
      → with_lane_in shard (after_pull link.reader table (Some count) (cell_for shard publisher.cluster.cells).written (lane_in link shard)) link ≡ with_lane_in shard (pulled_lane w (Some count) link shard (lane_in link shard)) link
  pulled_some_there shard count table same =
      ap (λ (t : List DomainRecord). with_lane_in shard (after_pull link.reader t (Some count) (cell_for shard publisher.cluster.cells).written (lane_in link shard)) link) same
      ∙ ap (λ (cluster : Cluster). with_lane_in shard (after_pull link.reader cluster.table (Some count) (cell_for shard cluster.cells).written (lane_in link shard)) link) (sym it.own.cluster_is)

  pub counted_some_there : (shard count : ℕ) (table : List DomainRecord) → table ≡ publisher.cluster.table
      → length (put_in_flight link.reader table (Some count) (cell_for shard publisher.cluster.cells).written (lane_in link shard)) ≡ pull_count w (Some count) link shard (lane_in link shard)
  counted_some_there shard count table same =
      ap (λ (t : List DomainRecord). length (put_in_flight link.reader t (Some count) (cell_for shard publisher.cluster.cells).written (lane_in link shard))) same
      ∙ ap (λ (cluster : Cluster). length (put_in_flight link.reader cluster.table (Some count) (cell_for shard cluster.cells).written (lane_in link shard))) (sym it.own.cluster_is)

  -- renewing by what a cluster has learned, where it is the link's reader
  pub renewed_there : (reader : ClusterNo) (mine : PublisherValue) (table : List DomainRecord) (cells : List Cell) → same_cluster link.reader reader ≡ true → StandsAt w reader mine
      → table ≡ publisher.cluster.table → cells ≡ mine.cluster.cells
      → record link { lanes = map_from (λ shard lane. after_renewal link.reader table (cell_for shard cells) (cell_for shard publisher.cluster.cells).written lane) 0 link.lanes } ≡ renewed_link w reader link
  renewed_there reader mine table cells own stands same seen =
      ap (λ (t : List DomainRecord). record link { lanes = map_from (λ shard lane. after_renewal link.reader t (cell_for shard cells) (cell_for shard publisher.cluster.cells).written lane) 0 link.lanes }) same
      ∙ ap (λ (cluster : Cluster). record link { lanes = map_from (λ shard lane. after_renewal link.reader cluster.table (cell_for shard cells) (cell_for shard cluster.cells).written lane) 0 link.lanes }) (sym it.own.cluster_is)
      ∙ ap (λ (cs : List Cell). record link { lanes = map_from (λ shard lane. after_renewal link.reader (cluster_at link.source w).table (cell_for shard cs) (world.queue_at link.source shard w) lane) 0 link.lanes })
      (seen ∙ ap (λ (cluster : Cluster). cluster.cells) (sym stands.cluster_is) ∙ ap (λ (number : ClusterNo). (cluster_at number w).cells) (sym (one-cluster link.reader reader own)))
      ∙ rw own refl

module _ (reader source : ClusterNo) (w : World) (place : ℕ) (link : Link) (it : IsFound reader source w.links place link) where
  pub source_is : link.source ≡ source
  source_is = one-cluster link.source source ((and_parts (same_cluster link.reader reader) (same_cluster link.source source) it.is).1)

  -- it is what the reader has of the source
  pub link_is : link_at reader source w ≡ link
  link_is = ap (link_found reader source) (found_at (is_link reader source) w.links place link it.below it.at it.is it.before)

  -- a change of it is one at its place
  pub changed_there : (change : Link → Link) → changed_first (is_link reader source) change w.links ≡ set w.links place (change link)
  changed_there change = changed_at (is_link reader source) change w.links place link it.below it.at it.is it.before

-- the same where the link is found
pub holds_there : (header : Header) (reader source : ClusterNo) (w : World) (publishers : List PublisherValue) (links : List Link) (handovers : List Handover) (place : ℕ) (link : Link) (publisher : PublisherValue) (queues : List QueueValue)
    → world_of publishers links handovers ≡ w → IsCluster header source → IsShaped header w → EachLane header w (AreLevelsKept w) → IsFound reader source w.links place link
    → publisher ≡ get_or publishers source.number publisher → length queues ≡ length publisher.cluster.cells → AreRests queues (λ shard. (cell_for shard publisher.cluster.cells).written)
    → map (λ (queue : QueueValue). queue.first) queues ≡ publisher.trimmed → Holds header w place link publisher queues
holds_there header reader source w publishers links handovers place link publisher queues same known shaped lanes found here alike rests firsts =
    let many : source.number < length publishers = omega (arith, known, shaped.clusters, ap (λ (v : World). length v.clusters) same, length-map publishers (λ (s : PublisherValue). s.cluster)) in
    record {
      below = found.below;
      at = found.at;
      shaped = shaped;
      lanes = lanes;
      own = subst (λ (number : ClusterNo). StandsAt w number publisher) (sym (source_is reader source w place link found)) (subst (λ (v : World). StandsAt v source publisher) same (stands publishers links handovers source publisher many here));
      known = subst (IsCluster header) (sym (source_is reader source w place link found)) known;
      alike = alike;
      rests = rests;
      firsts = firsts;
    }

module _ (reader source : ClusterNo) (w : World) (place : ℕ) (link : Link) (it : IsFound reader source w.links place link) where
  -- the world after a pull
  pub pulled_world : (new : Link) → new ≡ pulled_link w link → record w { links = set w.links place new } ≡ pulled_all reader source w
  unfolding pulled_all
  pulled_world new same =
      ap (λ (links : List Link). record w { links = links }) (ap (set w.links place) same ∙ sym (changed_there reader source w place link it (pulled_link w)))

  -- the world after a pull for one shard
  pub pulled_some_world : (shard count : ℕ) (new : Link) → new ≡ with_lane_in shard (pulled_lane w (Some count) link shard (lane_in link shard)) link
      → record w { links = set w.links place new } ≡ pulled_shard reader source shard count w
  unfolding pulled_shard
  pulled_some_world shard count new same =
      ap (λ (links : List Link). record w { links = links })
      (ap (set w.links place) (same ∙ ap (λ (l : Link). with_lane_in shard (pulled_lane w (Some count) l shard (lane_in l shard)) link) (sym (link_is reader source w place link it)))
      ∙ sym (changed_there reader source w place link it (λ (l : Link). record l { lanes = set l.lanes shard (pulled_lane w (Some count) (link_at reader source w) shard (lane_in (link_at reader source w) shard)) })))

-- where a reader has nothing of a source, a pull changes nothing and counts nothing
pub pulled_nowhere : (reader source : ClusterNo) (w : World) → position (is_link reader source) w.links ≡ None → w ≡ pulled_all reader source w
unfolding pulled_all
pulled_nowhere reader source w none = ap (λ (links : List Link). record w { links = links }) (sym (none_changed (is_link reader source) (pulled_link w) w.links none))

pub counted_nowhere : (reader source : ClusterNo) (w : World) → position (is_link reader source) w.links ≡ None
    → sum (map_from (pull_count w None (link_at reader source w)) 0 (link_at reader source w).lanes) ≡ 0
counted_nowhere reader source w none =
    ap (λ (found : Option Link). sum (map_from (pull_count w None (link_found reader source found)) 0 (link_found reader source found).lanes)) (none_found (is_link reader source) w.links none)

-- the same in a loop over all links, of which those before a place were changed
pub held_there : (header : Header) (w : World) (publishers : List PublisherValue) (handovers : List Handover) (change : Link → Link) (now : List Link) (place : ℕ) (link : Link) (publisher : PublisherValue) (queues : List QueueValue)
    → world_of publishers w.links handovers ≡ w → IsShaped header w → EachLane header w (AreLevelsKept w) → now ≡ map change (take place w.links) ++ drop place w.links → place < length w.links → link ≡ get_or now place link
    → publisher ≡ get_or publishers link.source.number publisher → length queues ≡ length publisher.cluster.cells → AreRests queues (λ shard. (cell_for shard publisher.cluster.cells).written)
    → map (λ (queue : QueueValue). queue.first) queues ≡ publisher.trimmed → Holds header w place link publisher queues
held_there header w publishers handovers change now place link publisher queues same shaped lanes kept below at here alike rests firsts =
    let many : length (map change (take place w.links)) ≡ place = omega (arith, length-map (take place w.links) change, length-take place w.links, below) in
    let rest : drop place now ≡ drop place w.links = ap (drop place) kept ∙ drop_at (map change (take place w.links)) (drop place w.links) place many in
    let there : link ≡ get_or w.links place link = at ∙ still now w.links place link rest in
    let ends : AreTwoClusters header link.reader link.source =
    subst (λ (l : Link). AreTwoClusters header l.reader l.source) (sym there) (all_there (λ (l : Link). AreTwoClusters header l.reader l.source) w.links place link below shaped.ends) in
    let inside : link.source.number < length publishers =
    omega (arith, ends.second, shaped.clusters, ap (λ (v : World). length v.clusters) same, length-map publishers (λ (s : PublisherValue). s.cluster)) in
    record {
      below = below;
      at = there;
      shaped = shaped;
      lanes = lanes;
      own = subst (λ (v : World). StandsAt v link.source publisher) same (stands publishers w.links handovers link.source publisher inside here);
      known = ends.second;
      alike = alike;
      rests = rests;
      firsts = firsts;
    }

-- a cluster of the world, by the clusters that are held
pub stands_by : (header : Header) (w : World) (publishers : List PublisherValue) (links : List Link) (handovers : List Handover) (cluster : ClusterNo) (publisher : PublisherValue) → world_of publishers links handovers ≡ w → IsShaped header w
    → IsCluster header cluster → publisher ≡ get_or publishers cluster.number publisher → StandsAt w cluster publisher
stands_by header w publishers links handovers cluster publisher same shaped known at =
    let inside : cluster.number < length publishers =
    omega (arith, known, shaped.clusters, ap (λ (v : World). length v.clusters) same, length-map publishers (λ (s : PublisherValue). s.cluster)) in
    subst (λ (v : World). StandsAt v cluster publisher) same (stands publishers links handovers cluster publisher inside at)

-- the same in a loop over the links
pub stands_in : (header : Header) (w : World) (publishers : List PublisherValue) (handovers : List Handover) (cluster : ClusterNo) (publisher : PublisherValue) → world_of publishers w.links handovers ≡ w → IsShaped header w → IsCluster header cluster
    → publisher ≡ get_or publishers cluster.number publisher → StandsAt w cluster publisher
stands_in header w publishers handovers cluster publisher same shaped known at = stands_by header w publishers w.links handovers cluster publisher same shaped known at

-- a reader has something of each other cluster
pub not_nowhere : {X : Type 0} (header : Header) (w : World) (reader source : ClusterNo) → IsShaped header w → AreTwoClusters header reader source → position (is_link reader source) w.links ≡ None → X
not_nowhere header w reader source shaped two none =
    let there = link-there header w reader source shaped two in
    let some : Some there.0 ≡ None = sym there.1 ∙ none_found (is_link reader source) w.links none in absurd (cc)

-- what another reader has stays
pub other_link : (w : World) (reader : ClusterNo) (link : Link) → same_cluster link.reader reader ≡ false → renewed_link w reader link ≡ link
other_link w reader link other = rw other refl

-- after the last link, all levels of the reader are renewed
pub renewed_all : (reader : ClusterNo) (w : World) (publishers : List PublisherValue) (links : List Link) (handovers : List Handover) (place : ℕ) → world_of publishers w.links handovers ≡ w
    → links ≡ map (renewed_link w reader) (take place w.links) ++ drop place w.links → length w.links ≤ place → world_of publishers links handovers ≡ renewed w reader
unfolding renewed
renewed_all reader w publishers links handovers place same kept past =
    ap (λ (ls : List Link). world_of publishers ls handovers)
    (kept ∙ ap (λ (ls : List Link). map (renewed_link w reader) ls ++ drop place w.links) (take_all place w.links past) ∙ ap (λ (ls : List Link). map (renewed_link w reader) w.links ++ ls) (drop_all place w.links past)
    ∙ append-nil (map (renewed_link w reader) w.links))
    ∙ ap (λ (v : World). record v { links = map (renewed_link w reader) w.links }) same
