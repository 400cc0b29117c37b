-- After all bootstraps nothing is late; nothing comes into flight in a settlement.
use Rattle.std.proofs.Common.{◌≡◌, ℕ, suc, Bool, true, false, cond, List, [], ◌∷◌, ◌++◌, map, Option, Some, None, option_map, refl, sym, ◌∙◌, ap}
use Rattle.std.specs.Prelude.{find, not}
use Rattle.std.specs.List.{AllByRecursion, fold}
use Rattle.std.proofs.lemmas.Bool.{eqb-true}
use Rattle.ndc_script_types.specs.WellFormed.{AreTwoClusters, IsCluster}
use Rattle.ndc_script_types.specs.declared.script.Header.{Header}
use Rattle.ndc_model_cells.specs.Writing.{same_cluster}
use Rattle.ndc_domain.specs.Clusters.{count_of}
use Rattle.ndc_domain.specs.Merge.{merged}
use Rattle.ndc_domain.specs.declared.clusters.ClusterNo.{ClusterNo}
use Rattle.ndc_domain.specs.declared.record.DomainRecord.{DomainRecord}
use Rattle.ndc_model.specs.Facts.{IsReached}
use Rattle.ndc_model.specs.Moves.{Trace, all_arrive, bootstrapped, due_arrived, jobs_done, link_without_flights, map_from, merged_all, quietly, reapplied_all, renewed, renewed_lane, renewed_link, settled_once, without_flight, without_flights}
use Rattle.ndc_model_cells.specs.Domains.{learned_of_domains}
use Rattle.ndc_model.specs.Queues.{Lane, new_lane}
use Rattle.ndc_model.specs.World.{Link, World, all_clusters, cell_at, changed_first, cluster_at, flight_at, is_link, lane_in, link_at, link_found, newly_naming, others_of, shards_of, with_late, with_link, with_table}
use Rattle.ndc_model.proofs.FairLemmas.{clusters-among}
use Rattle.ndc_model.proofs.ListLemmas.{all-index, fold-keeps}
use Rattle.ndc_model_sets.proofs.Lists.{Among, all-among, among-filter, find-among}
use Rattle.ndc_laws_reached.proofs.LaneLemmas.{below-among}
use Rattle.ndc_laws_reached.proofs.SettleLemmas.{bootstrap-alike, others-two}
use Rattle.ndc_laws_reached.proofs.TableRound.{fold-visit}
use Rattle.ndc_laws_reached.proofs.TrimmedLemmas.{find-mapped, none-late}

-- nothing is late in a world
abbrev pub NoneLate : Header → World → Type 0
NoneLate header w = (reader source : ClusterNo) → AreTwoClusters header reader source → (link_at reader source w).late ≡ []

module _ (header : Header) (reader source : ClusterNo) where
  -- renewing leaves what is late
  pub renewed-late : (w : World) (other : ClusterNo) → (link_at reader source w).late ≡ [] → (link_at reader source (renewed w other)).late ≡ []
  unfolding renewed
  renewed-late w other late = ap (λ (o : Option Link). (link_found reader source o).late) (find-mapped (is_link reader source) (renewed_link w other) w.links ends) ∙ kept (find (is_link reader source) w.links) ∙ late
    where
      ends : (link : Link) → is_link reader source (renewed_link w other link) ≡ is_link reader source link
      ends link = by (same_cluster link.reader other)
        where
          by : (t : Bool) → is_link reader source (cond t (record link { lanes = map_from (renewed_lane w link) 0 link.lanes }) link) ≡ is_link reader source link
          by true = refl
          by false = refl

      kept : (o : Option Link) → (link_found reader source (option_map (renewed_link w other) o)).late ≡ (link_found reader source o).late
      kept None = refl
      kept (Some link) = by (same_cluster link.reader other)
        where
          by : (t : Bool) → (cond t (record link { lanes = map_from (renewed_lane w link) 0 link.lanes }) link).late ≡ link.late
          by true = refl
          by false = refl

  -- so does ending what another link is late of
  changed-late : (test : Link → Bool) (links : List Link) → (link_found reader source (find (is_link reader source) links)).late ≡ []
      → (link_found reader source (find (is_link reader source) (changed_first test (λ link. record link { late = [] }) links))).late ≡ []
  changed-late test [] late = late
  changed-late test (link ∷ links) late = by (test link) (is_link reader source link) refl late (changed-late test links)
    where
      by : (s t : Bool) → is_link reader source link ≡ t → (link_found reader source (cond (is_link reader source link) (Some link) (find (is_link reader source) links))).late ≡ []
          → ((link_found reader source (find (is_link reader source) links)).late ≡ []
          → (link_found reader source (find (is_link reader source) (changed_first test (λ link. record link { late = [] }) links))).late ≡ [])
          → (link_found reader source (find (is_link reader source) (cond s (record link { late = [] } ∷ links) (link ∷ changed_first test (λ link. record link { late = [] }) links)))).late ≡ []
      by true true e late rest = ap (λ (b : Bool). (link_found reader source (cond b (Some (record link { late = [] })) (find (is_link reader source) links))).late) e
      by true false e late rest =
          ap (λ (b : Bool). (link_found reader source (cond b (Some (record link { late = [] })) (find (is_link reader source) links))).late) e
          ∙ sym (ap (λ (b : Bool). (link_found reader source (cond b (Some link) (find (is_link reader source) links))).late) e) ∙ late
      by false true e late rest =
          ap (λ (b : Bool). (link_found reader source (cond b (Some link) (find (is_link reader source) (changed_first test (λ link. record link { late = [] }) links)))).late) e
          ∙ sym (ap (λ (b : Bool). (link_found reader source (cond b (Some link) (find (is_link reader source) links))).late) e) ∙ late
      by false false e late rest =
          ap (λ (b : Bool). (link_found reader source (cond b (Some link) (find (is_link reader source) (changed_first test (λ link. record link { late = [] }) links)))).late) e
          ∙ rest (sym (ap (λ (b : Bool). (link_found reader source (cond b (Some link) (find (is_link reader source) links))).late) e) ∙ late)

  late-stays : (one two : ClusterNo) (t : Trace) → (link_at reader source t.world).late ≡ [] → (link_at reader source (bootstrapped header one t two).world).late ≡ []
  unfolding bootstrapped jobs_done
  late-stays one two t late =
      renewed-late (with_link one two (λ link. record link { late = [] }) (jobs_done header one (all_arrive (λ shard. learned_of_domains (link_at one two t.world).late (cell_at two shard t.world)) (shards_of header)) t).world) one
      (changed-late (is_link one two) t.world.links late)

-- a world after all bootstraps
pub bootstraps-late : (header : Header) (lines : ℕ) (t : Trace) → IsReached header lines t.world → NoneLate header (fold (λ v reader. fold (bootstrapped header reader) v (others_of header reader)) t (all_clusters header)).world
bootstraps-late header lines t is reader source two =
    (fold-visit (λ (u : Trace). IsReached header lines u.world) (λ (u : Trace). (link_at reader source u.world).late ≡ []) (λ v one. fold (bootstrapped header one) v (others_of header one)) (all_clusters header) reader
    (below-among (count_of header.clusters) reader two.first)
    (λ u one among kept. let known = clusters-among (count_of header.clusters) one among in (inner one known u kept, stays one known u kept))
    (λ u kept. (fold-visit (λ (x : Trace). IsReached header lines x.world) (λ (x : Trace). (link_at reader source x.world).late ≡ []) (bootstrapped header reader) (others_of header reader) source other
    (λ x from among kept. ((bootstrap-alike header lines reader from (others-two header reader from two.first among) x kept).reached, λ late. late-stays header reader source reader from x late))
    (λ x kept. none-late header reader source x) u kept).1) t is).1
  where
    other : Among source (others_of header reader)
    other = among-filter (λ o. not (same_cluster reader o)) (all_clusters header) source (differ (same_cluster reader source) refl) (below-among (count_of header.clusters) source two.second)
      where
        differ : (b : Bool) → same_cluster reader source ≡ b → not b ≡ true
        differ true e = absurd (two.differ (eqb-true reader.number source.number e))
        differ false e = refl

    inner : (one : ClusterNo) → IsCluster header one → (u : Trace) → IsReached header lines u.world → IsReached header lines (fold (bootstrapped header one) u (others_of header one)).world
    inner one known u kept =
        fold-keeps (λ (x : Trace). IsReached header lines x.world) (bootstrapped header one) (others_of header one)
        (λ x from among before. (bootstrap-alike header lines one from (others-two header one from known among) x before).reached) u kept

    stays : (one : ClusterNo) → IsCluster header one → (u : Trace) → IsReached header lines u.world → (link_at reader source u.world).late ≡ [] → (link_at reader source (fold (bootstrapped header one) u (others_of header one)).world).late ≡ []
    stays one known u kept late =
        fold-keeps (λ (x : Trace). (link_at reader source x.world).late ≡ []) (bootstrapped header one) (others_of header one) (λ x from among before. late-stays header reader source one from x before) u late

-- nothing is in flight
abbrev pub AreEmpty : List Lane → Type 0
AreEmpty lanes = AllByRecursion (λ lane. lane.flight ≡ []) lanes

abbrev pub NoneInFlight : World → Type 0
NoneInFlight w = AllByRecursion (λ link. AreEmpty link.lanes) w.links

-- changes of links that bring nothing into flight
map-empty : (change : Link → Link) → ((link : Link) → AreEmpty link.lanes → AreEmpty (change link).lanes) → (links : List Link) → AllByRecursion (λ link. AreEmpty link.lanes) links → AllByRecursion (λ link. AreEmpty link.lanes) (map change links)
map-empty change keeps [] all = tt
map-empty change keeps (link ∷ links) all = (keeps link all.0, map-empty change keeps links all.1)

changed-empty : (test : Link → Bool) (links : List Link) → AllByRecursion (λ link. AreEmpty link.lanes) links → AllByRecursion (λ link. AreEmpty link.lanes) (changed_first test (λ link. record link { late = [] }) links)
changed-empty test [] all = tt
changed-empty test (link ∷ links) all = by (test link) (changed-empty test links all.1)
  where
    by : (t : Bool) → AllByRecursion (λ link. AreEmpty link.lanes) (changed_first test (λ link. record link { late = [] }) links)
        → AllByRecursion (λ link. AreEmpty link.lanes) (cond t (record link { late = [] } ∷ links) (link ∷ changed_first test (λ link. record link { late = [] }) links))
    by true rest = (all.0, all.1)
    by false rest = (all.0, rest)

emptied-lanes : (lanes : List Lane) → AreEmpty (map without_flight lanes)
emptied-lanes [] = tt
emptied-lanes (lane ∷ lanes) = (refl, emptied-lanes lanes)

pub none-in-flight : (w : World) → NoneInFlight (without_flights w)
none-in-flight w = each w.links
  where
    each : (links : List Link) → AllByRecursion (λ link. AreEmpty link.lanes) (map link_without_flights links)
    each [] = tt
    each (link ∷ links) = (emptied-lanes link.lanes, each links)

pub renewed-empty : (w : World) (reader : ClusterNo) → NoneInFlight w → NoneInFlight (renewed w reader)
unfolding renewed
renewed-empty w reader all = map-empty (renewed_link w reader) keeps w.links all
  where
    lanes-empty : (link : Link) (place : ℕ) (lanes : List Lane) → AreEmpty lanes → AreEmpty (map_from (renewed_lane w link) place lanes)
    lanes-empty link place [] empty = tt
    lanes-empty link place (lane ∷ lanes) empty = (empty.0, lanes-empty link (suc place) lanes empty.1)

    keeps : (link : Link) → AreEmpty link.lanes → AreEmpty (renewed_link w reader link).lanes
    keeps link empty = by (same_cluster link.reader reader)
      where
        by : (t : Bool) → AreEmpty (cond t (record link { lanes = map_from (renewed_lane w link) 0 link.lanes }) link).lanes
        by true = lanes-empty link 0 link.lanes empty
        by false = empty

table-empty : (cluster : ClusterNo) (table : List DomainRecord) (w : World) → NoneInFlight w → NoneInFlight (with_table cluster table w)
unfolding with_table
table-empty cluster table w all = map-empty (with_late cluster (cluster_at cluster w).table table) keeps w.links all
  where
    keeps : (link : Link) → AreEmpty link.lanes → AreEmpty (with_late cluster (cluster_at cluster w).table table link).lanes
    keeps link empty = by (same_cluster link.source cluster)
      where
        by : (t : Bool) → AreEmpty (cond t (record link { late = link.late ++ newly_naming link.reader (cluster_at cluster w).table table }) link).lanes
        by true = empty
        by false = empty

module _ (header : Header) where
  bootstrap-empty : (reader source : ClusterNo) (t : Trace) → NoneInFlight t.world → NoneInFlight (bootstrapped header reader t source).world
  unfolding bootstrapped jobs_done
  bootstrap-empty reader source t all =
      renewed-empty (with_link reader source (λ link. record link { late = [] }) (jobs_done header reader (all_arrive (λ shard. learned_of_domains (link_at reader source t.world).late (cell_at source shard t.world)) (shards_of header)) t).world) reader
      (changed-empty (is_link reader source) t.world.links all)

  due-empty : (reader : ClusterNo) (t : Trace) → NoneInFlight t.world → NoneInFlight (due_arrived header t reader).world
  unfolding due_arrived jobs_done
  due-empty reader t all = all

  reapplied-empty : (cluster : ClusterNo) (t : Trace) → NoneInFlight t.world → NoneInFlight (reapplied_all header t cluster).world
  unfolding reapplied_all jobs_done
  reapplied-empty cluster t all = all

  -- a round of settlement
  pub once-empty : (t : Trace) → NoneInFlight t.world → NoneInFlight (settled_once header t).world
  unfolding settled_once
  once-empty t all =
      fold-keeps (λ (u : Trace). NoneInFlight u.world) (reapplied_all header) (all_clusters header) (λ u cluster among before. reapplied-empty cluster u before) _
      (fold-keeps (λ (u : Trace). NoneInFlight u.world) (due_arrived header) (all_clusters header) (λ u reader among before. due-empty reader u before) _
      (fold-keeps (λ (u : Trace). NoneInFlight u.world) (λ v reader. fold (bootstrapped header reader) v (others_of header reader)) (all_clusters header)
      (λ u reader among before. fold-keeps (λ (x : Trace). NoneInFlight x.world) (bootstrapped header reader) (others_of header reader) (λ x source other b. bootstrap-empty reader source x b) u before)
      (quietly (λ w. fold (merged_all header) w (all_clusters header)) t)
      (fold-keeps NoneInFlight (merged_all header) (all_clusters header)
      (λ u cluster among before. fold-keeps NoneInFlight (λ v other. with_table cluster (merged (cluster_at cluster v).table (cluster_at other v).table) v) (others_of header cluster) (λ x other there b. table-empty cluster _ x b) u before)
      t.world all)))

-- so each flight is empty
pub flight-none : (w : World) (reader source : ClusterNo) (shard : ℕ) → NoneInFlight w → flight_at reader source shard w ≡ []
flight-none w reader source shard all = by (find (is_link reader source) w.links) refl
  where
    by : (o : Option Link) → find (is_link reader source) w.links ≡ o → (lane_in (link_found reader source o) shard).flight ≡ []
    by None e = refl
    by (Some link) e =
        all-index (λ lane. lane.flight ≡ []) link.lanes shard new_lane refl (all-among (λ l. AreEmpty l.lanes) w.links link all (find-among (is_link reader source) w.links link e))
