-- Messages that arrive one after the other at a cluster may do so.
use Rattle.std.proofs.Common.{◌≡◌, ℕ, ◌<◌, Bool, true, false, ◌&&◌, ◌||◌, List, [], ◌∷◌, map, Option, Some, None, refl, sym, subst, ap, arith, true≢false}
use Rattle.std.specs.List.{AllByRecursion, filter, list_any}
use Rattle.std.specs.Prelude.{find}
use Rattle.std.specs.Str.{bytes_eq}
use Rattle.std.proofs.lemmas.Bool.{and_parts}
use Rattle.std.proofs.lemmas.Slice.Eq.{bytes_eq-Decides}
use Rattle.ndc_script_types.specs.WellFormed.{AreTwoClusters, IsCluster}
use Rattle.ndc_script_types.specs.declared.script.Header.{Header}
use Rattle.ndc_model_cells.specs.declared.job.Job.{Job}
use Rattle.ndc_model_cells.specs.declared.job.ShardJob.{ShardJob}
use Rattle.ndc_model_cells.specs.declared.message.Message.{Message}
use Rattle.ndc_model_cells.specs.Cells.{Cell, is_learned_in, learned_message, learned_of}
use Rattle.ndc_model_cells.specs.Jobs.{cells_after, cells_behind}
use Rattle.ndc_model_cells.specs.Writing.{same_cluster}
use Rattle.ndc_domain.specs.Records.{record_of}
use Rattle.ndc_domain.specs.declared.clusters.ClusterNo.{ClusterNo}
use Rattle.ndc_event.specs.declared.batch.Batch.{Batch}
use Rattle.ndc_event.specs.declared.name.Name.{Name}
use Rattle.ndc_laws_reached.proofs.ArrivalLemmas.{own-is}
use Rattle.ndc_laws_reached.proofs.BootstrapLemmas.{learned-itself}
use Rattle.ndc_laws_reached.proofs.BringLemmas.{IsArrival, MayArrive, may-still, world_after}
use Rattle.ndc_laws_cells.proofs.FoundLemmas.{find-passes}
use Rattle.ndc_laws_reached.proofs.ManyLemmas.{due-may, flights-may, many, one-cluster, range-below}
use Rattle.ndc_laws_reached.proofs.MessageLemmas.{again-may, learned-true}
use Rattle.ndc_laws_reached.proofs.LaneLemmas.{named-there}
use Rattle.ndc_laws_reached.proofs.LinkLemmas.{IsLinkFit, links-fit}
use Rattle.ndc_model.specs.Facts.{IsReached}
use Rattle.ndc_model.specs.Fair.{IsShaped, is_named}
use Rattle.ndc_model.specs.Moves.{all_arrive, arrives, by_link, due, in_flight, sent_again}
use Rattle.ndc_model_cells.specs.Domains.{learned_of_domains}
use Rattle.ndc_model.specs.Queues.{names_cluster}
use Rattle.ndc_model.specs.World.{Cluster, Link, World, cell_at, cluster_at, home_at, is_link, link_at, link_found, new_cluster, shards_of}
use Rattle.ndc_model.proofs.ListLemmas.{all-flat, all-weaker, set-there}
use Rattle.ndc_model.specs.Conditions.{MayDoAll, again_jobs, due_jobs, flight_jobs, late_jobs}
use Rattle.ndc_model_cells.specs.Conditions.{AreAllowed}
use Rattle.ndc_model_sets.proofs.Lists.{Among, all-among, all-from, filter-among, filter_map-among, find-among}
use Rattle.ndc_model_cells.specs.Allowed.{IsAllowed}
use Rattle.ndc_laws_jobs.proofs.OneLemmas.{may-arrive}

-- one job first, and then others in the world after it
pub allowed-more : (header : Header) (cluster : ClusterNo) (w : World) → IsShaped header w → IsCluster header cluster → (asked : ShardJob) (jobs : List ShardJob)
    → IsAllowed (home_at header cluster w) asked.job (cell_at cluster asked.shard w) → MayDoAll IsAllowed header cluster jobs (world_after header cluster (asked ∷ []) w)
    → MayDoAll IsAllowed header cluster (asked ∷ jobs) w
unfolding cells_after
allowed-more header cluster w shaped known asked jobs first rest =
    (first, subst (λ (c : Cluster). AreAllowed IsAllowed (record { clusters = header.clusters; me = cluster; limit = header.limit; table = c.table }) jobs c.cells) there rest)
  where
    cells : List Cell
    cells = cells_behind (home_at header cluster w) asked (cluster_at cluster w).cells

    there : cluster_at cluster (world_after header cluster (asked ∷ []) w) ≡ record (cluster_at cluster w) { cells = cells_behind (home_at header cluster w) asked (cluster_at cluster w).cells }
    there = set-there w.clusters cluster.number (record (cluster_at cluster w) { cells = cells_behind (home_at header cluster w) asked (cluster_at cluster w).cells }) (new_cluster 0) (omega (arith, known, shaped.clusters))

module _ (header : Header) (lines : ℕ) (cluster : ClusterNo) (known : IsCluster header cluster) where
  one-allowed : (w : World) (asked : ShardJob) → IsReached header lines w → IsArrival header cluster w asked → IsAllowed (home_at header cluster w) asked.job (cell_at cluster asked.shard w)
  one-allowed w asked is arrival =
      subst (λ (j : Job). IsAllowed (home_at header cluster w) j (cell_at cluster asked.shard w)) (sym arrival.job)
      (may-arrive header lines w is asked.shard arrival.below arrival.sent arrival.may.is_true cluster known)

  -- jobs in which messages arrive that may
  pub many-allowed : (jobs : List ShardJob) (w : World) → IsReached header lines w → AllByRecursion (IsArrival header cluster w) jobs → MayDoAll IsAllowed header cluster jobs w
  many-allowed [] w is all = tt
  many-allowed (asked ∷ jobs) w is all =
      let brought = (many header lines cluster known (asked ∷ []) w is (all.0, tt)).0 in
      allowed-more header cluster w is.shaped known asked jobs (one-allowed w asked is all.0)
      (many-allowed jobs (world_after header cluster (asked ∷ []) w) brought.kept.reached
      (all-weaker (IsArrival header cluster w) (IsArrival header cluster (world_after header cluster (asked ∷ []) w))
      (λ other a. record { sent = a.sent; job = a.job; below = a.below; may = may-still header lines w (world_after header cluster (asked ∷ []) w) cluster other.shard a.sent brought.kept a.may }) jobs all.1))

  -- messages by shard
  pub shards-allowed : (messages : ℕ → List Message) (w : World) → IsReached header lines w → ((shard : ℕ) → shard < header.shards → AllByRecursion (MayArrive header cluster shard w) (messages shard))
      → MayDoAll IsAllowed header cluster (all_arrive messages (shards_of header)) w
  shards-allowed messages w is may =
      many-allowed (all_arrive messages (shards_of header)) w is
      (all-flat (IsArrival header cluster w) (λ shard. map (arrives shard) (messages shard)) (shards_of header)
      (λ shard among. let below : shard < header.shards = omega (arith, range-below 0 header.shards shard among) in each shard below (messages shard) (may shard below)))
    where
      each : (shard : ℕ) → shard < header.shards → (sents : List Message) → AllByRecursion (MayArrive header cluster shard w) sents → AllByRecursion (IsArrival header cluster w) (map (arrives shard) sents)
      each shard below [] all = tt
      each shard below (sent ∷ sents) all = (record { sent = sent; job = refl; below = below; may = all.0 }, each shard below sents all.1)

-- what is in flight, what is due, and what is sent again
pub flights_allowed : (header : Header) (lines : ℕ) (reader : ClusterNo) (w : World) → IsCluster header reader → IsReached header lines w
    → MayDoAll IsAllowed header reader (flight_jobs header reader w) w
flights_allowed header lines reader w known is = shards-allowed header lines reader known (by_link reader in_flight w.links) w is (flights-may header lines w is reader)

pub due_allowed : (header : Header) (lines : ℕ) (reader : ClusterNo) (w : World) → IsCluster header reader → IsReached header lines w
    → MayDoAll IsAllowed header reader (due_jobs header reader w) w
due_allowed header lines reader w known is = shards-allowed header lines reader known (by_link reader (due w) w.links) w is (due-may header lines w is reader)

pub again_allowed : (header : Header) (lines : ℕ) (reader : ClusterNo) (w : World) → IsCluster header reader → IsReached header lines w
    → MayDoAll IsAllowed header reader (again_jobs header reader w) w
again_allowed header lines reader w known is = shards-allowed header lines reader known (sent_again header reader w) w is (λ shard below. again-may header lines w is shard below reader known)

-- what a source has learned of the domains of which the reader is a member late
module _ (header : Header) (lines : ℕ) (reader source : ClusterNo) (two : AreTwoClusters header reader source) (w : World) (is : IsReached header lines w) where
  -- a domain that is late names the reader
  late-named : (domain : Name) → list_any (λ one. bytes_eq one domain) (link_at reader source w).late ≡ true → is_named header reader w domain ≡ true
  late-named domain = by (find (is_link reader source) w.links) refl
    where
      one-of : (link : Link) → IsLinkFit header w link → (late : List Name) → AllByRecursion (λ name. names_cluster link.reader (record_of (cluster_at link.source w).table name) ≡ true) late
          → list_any (λ one. bytes_eq one domain) late ≡ true → is_named header link.reader w domain ≡ true
      one-of link fit [] all h = absurd (true≢false (sym h))
      one-of link fit (name ∷ late) all h = test (bytes_eq name domain) refl h (one-of link fit late all.1)
        where
          test : (t : Bool) → bytes_eq name domain ≡ t → (t || list_any (λ one. bytes_eq one domain) late) ≡ true → (list_any (λ one. bytes_eq one domain) late ≡ true → is_named header link.reader w domain ≡ true)
              → is_named header link.reader w domain ≡ true
          test true e h rest =
              named-there header w link.reader link.source domain fit.ends.second
              (subst (λ (d : Name). names_cluster link.reader (record_of (cluster_at link.source w).table d) ≡ true) ((bytes_eq-Decides name domain).0 e) all.0)
          test false e h rest = rest h

      by : (o : Option Link) → find (is_link reader source) w.links ≡ o → list_any (λ one. bytes_eq one domain) (link_found reader source o).late ≡ true → is_named header reader w domain ≡ true
      by None e h = absurd (true≢false (sym h))
      by (Some link) e h =
          let fit = all-among (IsLinkFit header w) w.links link (links-fit header lines w is) (find-among (is_link reader source) w.links link e) in
          let mine = and_parts (same_cluster link.reader reader) (same_cluster link.source source) (find-passes (is_link reader source) w.links link e) in
          subst (λ (c : ClusterNo). is_named header c w domain ≡ true) (one-cluster link.reader reader mine.0) (one-of link fit link.late fit.late h)

  late-may : (shard : ℕ) → shard < header.shards → AllByRecursion (MayArrive header reader shard w) (learned_of_domains (link_at reader source w).late (cell_at source shard w))
  late-may shard below = all-from (MayArrive header reader shard w) (learned_of_domains (link_at reader source w).late (cell_at source shard w)) each
    where
      each : (sent : Message) → Among sent (learned_of_domains (link_at reader source w).late (cell_at source shard w)) → MayArrive header reader shard w sent
      each sent among =
          let m = filter_map-among (learned_message (cell_at source shard w)) (filter (λ b. is_learned_in (cell_at source shard w) b && list_any (λ domain. bytes_eq domain b.domain) (link_at reader source w).late) (cell_at source shard w).arrived) sent among in
          let p = filter-among (λ b. is_learned_in (cell_at source shard w) b && list_any (λ domain. bytes_eq domain b.domain) (link_at reader source w).late) (cell_at source shard w).arrived m.0 m.1 in
          let q = and_parts (is_learned_in (cell_at source shard w) m.0) (list_any (λ domain. bytes_eq domain m.0.domain) (link_at reader source w).late) p.0 in
          let has = learned-itself header lines w is shard below source two.second m.0 p.1 q.0 in
          let same : m.0 ≡ sent.batch = ap (λ (x : Message). x.batch) (own-is (learned_of m.0.domain m.0.workflow (cell_at source shard w)) (cell_at source shard w).arrived m.0 sent m.2).1 in
          record {
            is_true = learned-true header lines w is shard below source two.second m.0 sent has m.2;
            named = subst (λ (x : Batch). is_named header reader w x.domain ≡ true) same (late-named m.0.domain q.1);
          }

  pub late_allowed : MayDoAll IsAllowed header reader (late_jobs header reader source w) w
  late_allowed = shards-allowed header lines reader two.first (λ shard. learned_of_domains (link_at reader source w).late (cell_at source shard w)) w is late-may
