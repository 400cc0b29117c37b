-- Worlds that stay orderly.
use Rattle.std.proofs.Common.{◌≡◌, ◌≤◌, ◌<◌, ℕ, Bool, true, false, List, [], ◌∷◌, ◌++◌, length, map, if◌then◌else◌, refl, sym, subst, ◌∙◌, arith, set, slice_index_or}
use Rattle.std.proofs.Math.ListN.{get_or-map}
use Rattle.std.proofs.lemmas.List.{length-map, length-set}
use Rattle.std.specs.List.{AllByRecursion}
use Rattle.ndc_script_types.specs.WellFormed.{AreTwoClusters, IsCluster}
use Rattle.ndc_script_types.specs.declared.script.Header.{Header}
use Rattle.ndc_model_cells.specs.Jobs.{cell_for, cells_after}
use Rattle.ndc_model_cells.specs.Writing.{same_cluster}
use Rattle.ndc_model_cells.specs.declared.job.ShardJob.{ShardJob}
use Rattle.ndc_domain.specs.declared.clusters.ClusterNo.{ClusterNo}
use Rattle.ndc_domain.specs.declared.record.DomainRecord.{DomainRecord}
use Rattle.ndc_event.specs.declared.name.Name.{Name}
use Rattle.ndc_model.proofs.LevelLemmas.{renewal_keeps}
use Rattle.ndc_model.proofs.ListLemmas.{all-changed, all-set, all-weaker, length-map_from, map-alike, map-changed, map_from-at}
use Rattle.ndc_model.proofs.WorldLemmas.{set-cases}
use Rattle.ndc_model.specs.Fair.{IsShaped, LanesAreTrue, ends_of}
use Rattle.ndc_model.specs.Moves.{Trace, all_reapply, bootstrapped, due_arrived, flights_arrived, from_world, jobs_done, link_without_flights, map_from, reapplied_all, renewed, renewed_lane, renewed_link, without_flight, without_flights, without_flights_to}
use Rattle.ndc_model.specs.Queues.{new_lane}
use Rattle.ndc_model.specs.World.{Cluster, Link, World, cell_at, changed_first, cluster_at, home_at, is_link, lane_in, new_cluster, newly_naming, queue_at, with_cells, with_late, with_link, with_table}
use Rattle.ndc_cluster.proofs.ShardLemmas.{cells-many}
use Rattle.ndc_world_replication.proofs.GrowLemmas.{written_more}
use Rattle.ndc_world_replication.proofs.ShardLemmas.{cells_there}
use Rattle.ndc_model.specs.Conditions.{due_jobs, flight_jobs, late_jobs}
use Rattle.ndc_world_replication.specs.Orderly.{AreLevelsKept, IsOrderly}

-- worlds that are shaped and whose lanes are as they should be are orderly
pub orderly_fair : (header : Header) (w : World) → IsShaped header w → LanesAreTrue header w → IsOrderly header w
orderly_fair header w shaped lanes = record {
  shaped = shaped;
  lanes = all-weaker _ (λ (link : Link). (shard : ℕ) → shard < header.shards → AreLevelsKept w link shard (lane_in link shard))
      (λ link each shard below. record { trimmed_most = (each shard below).trimmed_most; levels = (each shard below).levels }) w.links lanes;
}

-- ---- links that became others

-- a link between clusters of the header, with a lane for each shard, whose levels lie in what is kept of the queue
record IsLinkOrderly (header : Header) (w : World) (link : Link) : Type 0 where
  pub ends : AreTwoClusters header link.reader link.source
  pub many : length link.lanes ≡ header.shards
  pub lanes : (shard : ℕ) → shard < header.shards → AreLevelsKept w link shard (lane_in link shard)

module _ (header : Header) (w : World) where
  abbrev HasLanes : Link → Type 0
  HasLanes link = (shard : ℕ) → shard < header.shards → AreLevelsKept w link shard (lane_in link shard)

  links-orderly : (links : List Link) → AllByRecursion (λ link. AreTwoClusters header link.reader link.source) links → AllByRecursion (λ link. length link.lanes ≡ header.shards) links
      → AllByRecursion HasLanes links → AllByRecursion (IsLinkOrderly header w) links
  links-orderly [] ends many lanes = tt
  links-orderly (link ∷ links) ends many lanes = (record { ends = ends.0; many = many.0; lanes = lanes.0 }, links-orderly links ends.1 many.1 lanes.1)

  links-of : IsOrderly header w → AllByRecursion (IsLinkOrderly header w) w.links
  links-of it = links-orderly w.links it.shaped.ends it.shaped.lanes it.lanes

  -- other links between the same clusters
  with-links : (links : List Link) → IsOrderly header w → map ends_of links ≡ map ends_of w.links → AllByRecursion (IsLinkOrderly header w) links → IsOrderly header (record w { links = links })
  with-links links it same all = record {
    shaped = record {
      clusters = it.shaped.clusters;
      cells = it.shaped.cells;
      links = same ∙ it.shaped.links;
      ends = all-weaker (IsLinkOrderly header w) (λ (link : Link). AreTwoClusters header link.reader link.source) (λ link one. one.ends) links all;
      lanes = all-weaker (IsLinkOrderly header w) (λ (link : Link). length link.lanes ≡ header.shards) (λ link one. one.many) links all;
      sources = it.shaped.sources;
      trimmed = it.shaped.trimmed;
    };
    lanes = all-weaker (IsLinkOrderly header w) (λ (link : Link). (shard : ℕ) → shard < header.shards → AreLevelsKept (record w { links = links }) link shard (lane_in link shard))
        (λ link one shard below. let kept = one.lanes shard below in record { trimmed_most = kept.trimmed_most; levels = kept.levels }) links all;
  }

  mapped-orderly : (change : Link → Link) → ((link : Link) → IsLinkOrderly header w link → IsLinkOrderly header w (change link)) → (links : List Link) → AllByRecursion (IsLinkOrderly header w) links
      → AllByRecursion (IsLinkOrderly header w) (map change links)
  mapped-orderly change keeps [] all = tt
  mapped-orderly change keeps (link ∷ links) all = (keeps link all.0, mapped-orderly change keeps links all.1)

  -- all links changed, each in a way that keeps its ends and the levels in the queues
  all-links : (change : Link → Link) → ((link : Link) → ends_of (change link) ≡ ends_of link) → ((link : Link) → IsLinkOrderly header w link → IsLinkOrderly header w (change link)) → IsOrderly header w
      → IsOrderly header (record w { links = map change w.links })
  all-links change ends keeps it =
      with-links (map change w.links) it (map-alike ends_of change w.links ends) (mapped-orderly change keeps w.links (links-of it))

  -- the first link that passes changed so
  one-link : (test : Link → Bool) (change : Link → Link) → ((link : Link) → ends_of (change link) ≡ ends_of link) → ((link : Link) → IsLinkOrderly header w link → IsLinkOrderly header w (change link)) → IsOrderly header w
      → IsOrderly header (record w { links = changed_first test change w.links })
  one-link test change ends keeps it =
      with-links (changed_first test change w.links) it (map-changed ends_of test change w.links ends)
      (all-changed (IsLinkOrderly header w) test change w.links (λ link found one. keeps link one) (links-of it))

  -- a link changed where a test says so
  ends-if : (b : Bool) (link new : Link) → ends_of new ≡ ends_of link → ends_of (if b then new else link) ≡ ends_of link
  ends-if true link new same = same
  ends-if false link new same = refl

  kept-if : (b : Bool) (link new : Link) → IsLinkOrderly header w new → IsLinkOrderly header w link → IsLinkOrderly header w (if b then new else link)
  kept-if true link new one other = one
  kept-if false link new one other = other

  -- nothing is in flight
  emptied-orderly : (link : Link) → IsLinkOrderly header w link → IsLinkOrderly header w (link_without_flights link)
  emptied-orderly link one = record {
    ends = one.ends;
    many = length-map link.lanes without_flight ∙ one.many;
    lanes = λ shard below. subst (AreLevelsKept w (link_without_flights link) shard) (sym (get_or-map without_flight link.lanes shard new_lane))
        (record { trimmed_most = (one.lanes shard below).trimmed_most; levels = (one.lanes shard below).levels });
  }

  -- the same lanes, with other domains that are late
  late-orderly : (link : Link) (late : List Name) → IsLinkOrderly header w link → IsLinkOrderly header w (record link { late = late })
  late-orderly link late one = record {
    ends = one.ends;
    many = one.many;
    lanes = λ shard below. record { trimmed_most = (one.lanes shard below).trimmed_most; levels = (one.lanes shard below).levels };
  }

  -- levels are renewed
  renewed-orderly : (link : Link) → IsLinkOrderly header w link → IsLinkOrderly header w (record link { lanes = map_from (renewed_lane w link) 0 link.lanes })
  renewed-orderly link one = record {
    ends = one.ends;
    many = length-map_from (renewed_lane w link) 0 link.lanes ∙ one.many;
    lanes = λ shard below.
        let before : AreLevelsKept w link shard (lane_in link shard) = one.lanes shard below in
        subst (AreLevelsKept w (record link { lanes = map_from (renewed_lane w link) 0 link.lanes }) shard) (sym (map_from-at (renewed_lane w link) 0 shard link.lanes shard new_lane new_lane (omega (arith, below, one.many)) (omega arith)))
        (record {
          trimmed_most = omega (arith, before.trimmed_most);
          levels = renewal_keeps link.reader (cluster_at link.source w).table (cell_at link.reader shard w) (queue_at link.source shard w) (lane_in link shard) before.levels;
        });
  }

-- ---- the moves

module _ (header : Header) (w : World) (it : IsOrderly header w) where
  pub orderly_without_to : (reader : ClusterNo) → IsOrderly header (without_flights_to reader w)
  orderly_without_to reader =
      all-links header w (λ link. if same_cluster link.reader reader then link_without_flights link else link)
      (λ link. ends-if header w (same_cluster link.reader reader) link (link_without_flights link) refl)
      (λ link one. kept-if header w (same_cluster link.reader reader) link (link_without_flights link) (emptied-orderly header w link one) one) it

  pub orderly_without : IsOrderly header (without_flights w)
  orderly_without = all-links header w link_without_flights (λ link. refl) (emptied-orderly header w) it

  pub orderly_renewed : (reader : ClusterNo) → IsOrderly header (renewed w reader)
  unfolding renewed
  orderly_renewed reader =
      all-links header w (renewed_link w reader)
      (λ link. ends-if header w (same_cluster link.reader reader) link (record link { lanes = map_from (renewed_lane w link) 0 link.lanes }) refl)
      (λ link one. kept-if header w (same_cluster link.reader reader) link (record link { lanes = map_from (renewed_lane w link) 0 link.lanes }) (renewed-orderly header w link one) one) it

  pub orderly_late_ended : (reader source : ClusterNo) → IsOrderly header (with_link reader source (λ link. record link { late = [] }) w)
  orderly_late_ended reader source =
      one-link header w (is_link reader source) (λ link. record link { late = [] }) (λ link. refl) (λ link one. late-orderly header w link [] one) it

  -- readers that note what comes to name them
  noted : (cluster : ClusterNo) (before after : List DomainRecord) → IsOrderly header (record w { links = map (with_late cluster before after) w.links })
  noted cluster before after =
      all-links header w (with_late cluster before after)
      (λ link. ends-if header w (same_cluster link.source cluster) link (record link { late = link.late ++ newly_naming link.reader before after }) refl)
      (λ link one. kept-if header w (same_cluster link.source cluster) link (record link { late = link.late ++ newly_naming link.reader before after }) (late-orderly header w link (link.late ++ newly_naming link.reader before after) one) one) it

  -- clusters whose cells have written no less
  clusters-grown : (cluster : ClusterNo) (new : Cluster) → length new.cells ≡ header.shards
      → ((shard : ℕ) → shard < header.shards → length (queue_at cluster shard w) ≤ length (cell_for shard new.cells).written) → IsOrderly header (record w { clusters = set w.clusters cluster.number new })
  clusters-grown cluster new many grown = record {
    shaped = record {
      clusters = length-set w.clusters cluster.number new ∙ it.shaped.clusters;
      cells = all-set (λ (c : Cluster). length c.cells ≡ header.shards) w.clusters cluster.number new many it.shaped.cells;
      links = it.shaped.links;
      ends = it.shaped.ends;
      lanes = it.shaped.lanes;
      sources = it.shaped.sources;
      trimmed = it.shaped.trimmed;
    };
    lanes = all-weaker (λ (link : Link). (shard : ℕ) → shard < header.shards → AreLevelsKept w link shard (lane_in link shard))
        (λ (link : Link). (shard : ℕ) → shard < header.shards → AreLevelsKept (record w { clusters = set w.clusters cluster.number new }) link shard (lane_in link shard))
        (λ link each shard below. let k = each shard below in record {
          trimmed_most = k.trimmed_most;
          levels = record { done_most = k.levels.done_most; read_most = omega (arith, k.levels.read_most, longer link.source shard below) };
        }) w.links it.lanes;
  }
    where
      longer : (source : ClusterNo) (shard : ℕ) → shard < header.shards → length (queue_at source shard w) ≤ length (cell_for shard (slice_index_or (set w.clusters cluster.number new) source.number (new_cluster 0)).cells).written
      longer source shard below =
          set-cases (λ (c : Cluster). length (queue_at source shard w) ≤ length (cell_for shard c.cells).written) w.clusters cluster.number source.number new (new_cluster 0)
          (λ same. subst (λ (n : ℕ). length (cell_for shard (slice_index_or w.clusters n (new_cluster 0)).cells).written ≤ length (cell_for shard new.cells).written) (sym same) (grown shard below))
          (omega arith)

  -- a cluster does jobs
  pub orderly_cells : (cluster : ClusterNo) (jobs : List ShardJob) → IsCluster header cluster
      → IsOrderly header (with_cells cluster (cells_after (home_at header cluster w) jobs (cluster_at cluster w).cells) w)
  orderly_cells cluster jobs known =
      let many : length (cluster_at cluster w).cells ≡ header.shards = cells_there header w cluster known it.shaped in
      clusters-grown cluster (record (cluster_at cluster w) { cells = cells_after (home_at header cluster w) jobs (cluster_at cluster w).cells })
      (cells-many (home_at header cluster w) jobs (cluster_at cluster w).cells ∙ many)
      (λ shard below. written_more (home_at header cluster w) jobs (cluster_at cluster w).cells shard (omega (arith, below, many)))

-- a table takes the place of another
pub orderly_table : (header : Header) (w : World) → IsOrderly header w → (cluster : ClusterNo) (table : List DomainRecord) → IsCluster header cluster → IsOrderly header (with_table cluster table w)
unfolding with_table
orderly_table header w it cluster table known =
    noted header (record w { clusters = set w.clusters cluster.number (record (cluster_at cluster w) { table = table }) })
    (clusters-grown header w it cluster (record (cluster_at cluster w) { table = table }) (cells_there header w cluster known it.shaped) (λ shard below. omega arith))
    cluster (cluster_at cluster w).table table

-- ---- what clusters do

module _ (header : Header) (t : Trace) (it : IsOrderly header t.world) where
  pub orderly_jobs : (cluster : ClusterNo) (jobs : List ShardJob) → IsCluster header cluster → IsOrderly header (jobs_done header cluster jobs t).world
  unfolding jobs_done
  orderly_jobs cluster jobs known = orderly_cells header t.world it cluster jobs known

  pub orderly_reapplied : (cluster : ClusterNo) → IsCluster header cluster → IsOrderly header (reapplied_all header t cluster).world
  unfolding reapplied_all
  orderly_reapplied cluster known = orderly_jobs cluster (all_reapply header) known

  pub orderly_due : (reader : ClusterNo) → IsCluster header reader → IsOrderly header (due_arrived header t reader).world
  unfolding due_arrived
  orderly_due reader known = orderly_jobs reader (due_jobs header reader t.world) known

  pub orderly_bootstrapped : (reader source : ClusterNo) → IsCluster header reader → IsOrderly header (bootstrapped header reader t source).world
  unfolding bootstrapped
  orderly_bootstrapped reader source known =
      let done : World = (jobs_done header reader (late_jobs header reader source t.world) t).world in
      orderly_renewed header (with_link reader source (λ link. record link { late = [] }) done)
      (orderly_late_ended header done (orderly_jobs reader (late_jobs header reader source t.world) known) reader source) reader

pub orderly_arrived : (header : Header) (w : World) → IsOrderly header w → (reader : ClusterNo) → IsCluster header reader → IsOrderly header (flights_arrived header reader w).world
unfolding flights_arrived
orderly_arrived header w it reader known = orderly_jobs header (from_world (without_flights_to reader w)) (orderly_without_to header w it reader) reader (flight_jobs header reader w) known
