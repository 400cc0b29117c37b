-- Moves that change lanes alone.
use Rattle.std.proofs.Common.{◌≡◌, ℕ, zero, suc, ◌+◌, ◌<◌, Bool, true, false, ◌||◌, nat_lt, if◌then◌else◌, List, [], ◌∷◌, ◌++◌, length, map, take, drop, insert, remove, slice_get, slice_set, Option, Some, None, option_map, inl, refl, sym, subst, ap, arith}
use Rattle.std.specs.List.{AllByRecursion, IsAmong, prefix_len}
use Rattle.std.proofs.lemmas.Bool.{ltb-false, ltb-true, or_left}
use Rattle.ndc_script_types.specs.Below.{clusters_below}
use Rattle.ndc_script_types.specs.WellFormed.{IsCluster}
use Rattle.ndc_script_types.specs.declared.script.Header.{Header}
use Rattle.ndc_model_cells.specs.declared.message.Message.{Message}
use Rattle.ndc_model_cells.specs.Writing.{same_cluster}
use Rattle.ndc_domain.specs.Clusters.{cluster_no, count_of}
use Rattle.ndc_domain.specs.Records.{record_of}
use Rattle.ndc_domain.specs.declared.clusters.ClusterNo.{ClusterNo}
use Rattle.ndc_event.specs.declared.name.Name.{Name}
use Rattle.ndc_model.specs.Facts.{IsReached}
use Rattle.ndc_model.specs.Fair.{ends_of, is_named}
use Rattle.ndc_model.specs.Moves.{link_without_flights, map_from, pulled_all, pulled_lane, pulled_link, pulled_shard, renewed, renewed_lane, renewed_link, rewound, without_flight, without_flights, without_flights_to}
use Rattle.ndc_model.specs.Queues.{Lane, after_rewind, is_addressed, names_cluster, needs_nothing, new_lane, put_in_flight, taken}
use Rattle.ndc_model.specs.Sending.{flight_step, lose_step, move_step, repeat_step}
use Rattle.ndc_model.specs.World.{Link, World, all_clusters, cell_at, cluster_at, flight_at, is_late_in, lane_at, lane_in, link_at, queue_at, with_flight, with_lane}
use Rattle.ndc_model.proofs.LevelLemmas.{pull_keeps, renewal_keeps, rewind_keeps}
use Rattle.ndc_model.proofs.ListLemmas.{all-append, all-drop, all-filter, all-got, all-remove, all-self, all-take, all-take-more, all-weaker, filter-passes, length-map_from, length-mapped, map-at, map_from-at, prefix-passes}
use Rattle.ndc_model.proofs.WorldLemmas.{set-cases}
use Rattle.ndc_queue.specs.Lists.{after_loss, after_move, after_repeat}
use Rattle.ndc_model_sets.proofs.ForkLemmas.{among-left, among-right}
use Rattle.ndc_model_sets.proofs.Lists.{Among, list_any-one}
use Rattle.ndc_laws_reached.proofs.LinkLemmas.{IsLaneFit, IsLinkFit, all-links, lanes-keep, one-link}
use Rattle.ndc_laws_reached.proofs.Lists.{length-set}

-- each cluster below a count is one of those
pub below-among : (count : ℕ) (cluster : ClusterNo) → cluster.number < count → Among cluster (clusters_below count)
below-among zero cluster below = absurd (omega (arith, below))
below-among (suc count) cluster below = by (nat_lt cluster.number count) refl (below-among count cluster)
  where
    by : (t : Bool) → nat_lt cluster.number count ≡ t → (cluster.number < count → Among cluster (clusters_below count)) → Among cluster (clusters_below count ++ cluster_no count ∷ [])
    by true less rest = among-left cluster (clusters_below count) (cluster_no count ∷ []) (rest (ltb-true cluster.number count less))
    by false least rest =
        let same : cluster.number ≡ count = omega (arith, below, ltb-false cluster.number count least) in
        among-right cluster (clusters_below count) (cluster_no count ∷ []) (inl (ap cluster_no same))

-- where a cluster's record names a reader, some record does
pub named-there : (header : Header) (w : World) (reader source : ClusterNo) (domain : Name) → IsCluster header source → names_cluster reader (record_of (cluster_at source w).table domain) ≡ true
    → is_named header reader w domain ≡ true
named-there header w reader source domain known named =
    list_any-one (λ other. names_cluster reader (record_of (cluster_at other w).table domain)) (all_clusters header) source (below-among (count_of header.clusters) source known) named

-- a change of lanes by their place
mapped-keeps : (header : Header) (w : World) (change : Link → ℕ → Lane → Lane)
    → ((link : Link) (shard : ℕ) (lane : Lane) → IsLinkFit header w link → shard < header.shards → IsLaneFit header w link shard lane → IsLaneFit header w link shard (change link shard lane))
    → (link : Link) → IsLinkFit header w link → IsLinkFit header w (record link { lanes = map_from (change link) 0 link.lanes })
mapped-keeps header w change keeps link fit =
    lanes-keep header w link (map_from (change link) 0 link.lanes) fit (length-map_from (change link) 0 link.lanes)
    (λ shard below. let within : shard < length link.lanes = omega (arith, below, fit.many) in
    let at : shard ≡ 0 + shard = omega arith in
    subst (IsLaneFit header w link shard) (sym (map_from-at (change link) 0 shard link.lanes shard new_lane new_lane within at)) (keeps link shard (lane_in link shard) fit below (fit.lanes shard below)))

-- the same change of all lanes
alike-keeps : (header : Header) (w : World) (change : Lane → Lane)
    → ((link : Link) (shard : ℕ) (lane : Lane) → IsLaneFit header w link shard lane → IsLaneFit header w link shard (change lane))
    → (link : Link) → IsLinkFit header w link → IsLinkFit header w (record link { lanes = map change link.lanes })
alike-keeps header w change keeps link fit =
    lanes-keep header w link (map change link.lanes) fit (length-mapped change link.lanes)
    (λ shard below. let within : shard < length link.lanes = omega (arith, below, fit.many) in
    subst (IsLaneFit header w link shard) (sym (map-at change link.lanes shard new_lane new_lane within)) (keeps link shard (lane_in link shard) (fit.lanes shard below)))

-- where a change of a link is made for one reader
either-link : (header : Header) (w : World) (reader : ClusterNo) (change : Link → Link) → ((link : Link) → IsLinkFit header w link → IsLinkFit header w (change link))
    → (link : Link) → IsLinkFit header w link → IsLinkFit header w (if same_cluster link.reader reader then change link else link)
either-link header w reader change keeps link fit = by (same_cluster link.reader reader)
  where
    by : (t : Bool) → IsLinkFit header w (if t then change link else link)
    by true = keeps link fit
    by false = fit

module _ (header : Header) (w : World) where
  -- what is taken of a queue stands in it
  taken-there : (count : Option ℕ) (queue : List Message) (lane : Lane) → AllByRecursion (IsAmong queue) (taken count queue lane)
  taken-there None queue lane = all-drop (IsAmong queue) lane.levels.read queue (all-self queue)
  taken-there (Some count) queue lane = all-take (IsAmong queue) count (drop lane.levels.read queue) (all-drop (IsAmong queue) lane.levels.read queue (all-self queue))

  -- a pull keeps a lane as it should be
  pull-fit : (count : Option ℕ) (link : Link) (shard : ℕ) (lane : Lane) → IsLinkFit header w link → shard < header.shards → IsLaneFit header w link shard lane → IsLaneFit header w link shard (pulled_lane w count link shard lane)
  pull-fit count link shard lane is below fit = record {
    is_true = record {
      trimmed_most = fit.is_true.trimmed_most;
      levels = pull_keeps link.reader (cluster_at link.source w).table count (queue_at link.source shard w) lane fit.is_true.levels;
      done = fit.is_true.done;
      flight = all-append (IsAmong (queue_at link.source shard w)) lane.flight fresh fit.is_true.flight
          (all-filter (IsAmong (queue_at link.source shard w)) (is_addressed link.reader (cluster_at link.source w).table) (taken count (queue_at link.source shard w) lane) (taken-there count (queue_at link.source shard w) lane));
    };
    named = all-append (λ sent. is_named header link.reader w sent.batch.domain ≡ true) lane.flight fresh fit.named
        (all-weaker (λ sent. is_addressed link.reader (cluster_at link.source w).table sent ≡ true) (λ sent. is_named header link.reader w sent.batch.domain ≡ true)
        (λ sent addressed. named-there header w link.reader link.source sent.batch.domain is.ends.second addressed)
        fresh (filter-passes (is_addressed link.reader (cluster_at link.source w).table) (taken count (queue_at link.source shard w) lane)));
  }
    where
      fresh : List Message
      fresh = put_in_flight link.reader (cluster_at link.source w).table count (queue_at link.source shard w) lane

  -- renewing keeps a lane as it should be
  renew-fit : (link : Link) (shard : ℕ) (lane : Lane) → IsLinkFit header w link → shard < header.shards → IsLaneFit header w link shard lane → IsLaneFit header w link shard (renewed_lane w link shard lane)
  renew-fit link shard lane is below fit = record {
    is_true = record {
      trimmed_most = omega (arith, fit.is_true.trimmed_most);
      levels = renewal_keeps link.reader (cluster_at link.source w).table (cell_at link.reader shard w) (queue_at link.source shard w) lane fit.is_true.levels;
      done = all-take-more (λ sent. (quiet sent || is_late_in sent.batch.domain link) ≡ true) (lane.levels.done + prefix_len quiet (drop lane.levels.done (queue_at link.source shard w)))
          lane.levels.done (prefix_len quiet (drop lane.levels.done (queue_at link.source shard w))) (queue_at link.source shard w) refl fit.is_true.done
          (all-weaker (λ sent. quiet sent ≡ true) (λ sent. (quiet sent || is_late_in sent.batch.domain link) ≡ true) (λ sent passes. or_left (quiet sent) (is_late_in sent.batch.domain link) passes)
          _ (prefix-passes quiet (drop lane.levels.done (queue_at link.source shard w))));
      flight = fit.is_true.flight;
    };
    named = fit.named;
  }
    where
      quiet : Message → Bool
      quiet = needs_nothing link.reader (cluster_at link.source w).table (cell_at link.reader shard w)

  -- rewinding keeps a lane as it should be
  rewind-fit : (link : Link) (shard : ℕ) (lane : Lane) → IsLaneFit header w link shard lane → IsLaneFit header w link shard (after_rewind lane)
  rewind-fit link shard lane fit = record {
    is_true = record {
      trimmed_most = fit.is_true.trimmed_most;
      levels = rewind_keeps (queue_at link.source shard w) lane fit.is_true.levels;
      done = fit.is_true.done;
      flight = fit.is_true.flight;
    };
    named = fit.named;
  }

  -- so does emptying its flight
  empty-fit : (link : Link) (shard : ℕ) (lane : Lane) → IsLaneFit header w link shard lane → IsLaneFit header w link shard (without_flight lane)
  empty-fit link shard lane fit = record {
    is_true = record { trimmed_most = fit.is_true.trimmed_most; levels = fit.is_true.levels; done = fit.is_true.done; flight = tt };
    named = tt;
  }

  -- a lane that is as it should be may be put
  pub lane-put : (lines : ℕ) (reader source : ClusterNo) (shard : ℕ) (lane : Lane) → (IsLinkFit header w (link_at reader source w) → shard < header.shards → IsLaneFit header w (link_at reader source w) shard lane)
      → IsReached header lines w → IsReached header lines (with_lane reader source shard lane w)
  lane-put lines reader source shard lane fits is =
      one-link header lines reader source (λ link. record link { lanes = slice_set link.lanes shard lane }) w (λ link. refl)
      (λ fit. lanes-keep header w (link_at reader source w) (slice_set (link_at reader source w).lanes shard lane) fit (length-set (link_at reader source w).lanes shard lane)
      (λ place below. set-cases (IsLaneFit header w (link_at reader source w) place) (link_at reader source w).lanes shard place lane new_lane
      (λ same. subst (λ (i : ℕ). IsLaneFit header w (link_at reader source w) i lane) (sym same) (fits fit (subst (λ (i : ℕ). i < header.shards) same below))) (fit.lanes place below))) is

-- what holds of all that was in flight holds of all that is in flight then
abbrev pub IsTakenFrom : List Message → List Message → Type 1
IsTakenFrom before after = (P : Message → Type 0) → AllByRecursion P before → AllByRecursion P after

module _ (header : Header) (lines : ℕ) (w : World) (is : IsReached header lines w) where
  pub pulled : (reader source : ClusterNo) → IsReached header lines (pulled_all reader source w)
  unfolding pulled_all
  pulled reader source =
      one-link header lines reader source (pulled_link w) w (λ link. refl)
      (mapped-keeps header w (pulled_lane w None) (pull-fit header w None) (link_at reader source w)) is

  pub pulled-some : (reader source : ClusterNo) (shard count : ℕ) → IsReached header lines (pulled_shard reader source shard count w)
  unfolding pulled_shard
  pulled-some reader source shard count =
      lane-put header w lines reader source shard (pulled_lane w (Some count) (link_at reader source w) shard (lane_at reader source shard w))
      (λ fit below. pull-fit header w (Some count) (link_at reader source w) shard (lane_at reader source shard w) fit below (fit.lanes shard below)) is

  pub renewed-all : (reader : ClusterNo) → IsReached header lines (renewed w reader)
  unfolding renewed
  renewed-all reader =
      all-links header lines w (renewed_link w reader)
      (record { ends = ends; fit = either-link header w reader (λ link. record link { lanes = map_from (renewed_lane w link) 0 link.lanes }) (mapped-keeps header w (renewed_lane w) (renew-fit header w)) }) is
    where
      ends : (link : Link) → ends_of (renewed_link w reader link) ≡ ends_of link
      ends link = by (same_cluster link.reader reader)
        where
          by : (t : Bool) → ends_of (if t then record link { lanes = map_from (renewed_lane w link) 0 link.lanes } else link) ≡ ends_of link
          by true = refl
          by false = refl

  pub rewound-all : (reader source : ClusterNo) → IsReached header lines (rewound reader source w)
  unfolding rewound
  rewound-all reader source =
      one-link header lines reader source (λ link. record link { lanes = map after_rewind link.lanes }) w (λ link. refl)
      (alike-keeps header w after_rewind (rewind-fit header w) (link_at reader source w)) is

  -- nothing is in flight
  pub emptied : IsReached header lines (without_flights w)
  emptied = all-links header lines w link_without_flights (record { ends = λ link. refl; fit = alike-keeps header w without_flight (empty-fit header w) }) is

  pub emptied-to : (reader : ClusterNo) → IsReached header lines (without_flights_to reader w)
  emptied-to reader =
      all-links header lines w (λ link. if same_cluster link.reader reader then link_without_flights link else link)
      (record { ends = ends; fit = either-link header w reader link_without_flights (alike-keeps header w without_flight (empty-fit header w)) }) is
    where
      ends : (link : Link) → ends_of (if same_cluster link.reader reader then link_without_flights link else link) ≡ ends_of link
      ends link = by (same_cluster link.reader reader)
        where
          by : (t : Bool) → ends_of (if t then link_without_flights link else link) ≡ ends_of link
          by true = refl
          by false = refl

  -- what is in flight may be replaced by what is taken from it
  pub flight-put : (reader source : ClusterNo) (shard : ℕ) (flight : List Message) → IsTakenFrom (flight_at reader source shard w) flight
      → IsReached header lines (with_flight reader source shard flight w)
  flight-put reader source shard flight from =
      lane-put header w lines reader source shard (record (lane_at reader source shard w) { flight = flight })
      (λ fit below. let f = fit.lanes shard below in record {
        is_true = record { trimmed_most = f.is_true.trimmed_most; levels = f.is_true.levels; done = f.is_true.done; flight = from _ f.is_true.flight };
        named = from _ f.named;
      }) is

  -- a change of a list in flight, where there is one
  changed-flight : (reader source : ClusterNo) (shard : ℕ) (result : Option (List Message)) → ((flight : List Message) → result ≡ Some flight → IsTakenFrom (flight_at reader source shard w) flight)
      → IsReached header lines (flight_step reader source shard w result).world
  changed-flight reader source shard None from = is
  changed-flight reader source shard (Some flight) from = flight-put reader source shard flight (from flight refl)

  pub lost : (reader source : ClusterNo) (shard place : ℕ) → IsReached header lines (lose_step reader source shard place w).world
  lost reader source shard place = changed-flight reader source shard (after_loss place flight) by
    where
      flight : List Message
      flight = flight_at reader source shard w

      by : (after : List Message) → after_loss place flight ≡ Some after → IsTakenFrom flight after
      by after e = found (slice_get flight place) e
        where
          found : (o : Option Message) → option_map (λ (sent : Message). remove flight place) o ≡ Some after → IsTakenFrom flight after
          found None e = absurd (cc)
          found (Some sent) e = λ P all. let same : remove flight place ≡ after = cc in subst (AllByRecursion P) same (all-remove P flight place all)

  pub repeated : (reader source : ClusterNo) (shard place : ℕ) → IsReached header lines (repeat_step reader source shard place w).world
  repeated reader source shard place = changed-flight reader source shard (after_repeat place flight) by
    where
      flight : List Message
      flight = flight_at reader source shard w

      by : (after : List Message) → after_repeat place flight ≡ Some after → IsTakenFrom flight after
      by after e = found (slice_get flight place) refl e
        where
          found : (o : Option Message) → slice_get flight place ≡ o → option_map (λ sent. flight ++ sent ∷ []) o ≡ Some after → IsTakenFrom flight after
          found None at e = absurd (cc)
          found (Some sent) at e = λ P all.
              let same : flight ++ sent ∷ [] ≡ after = cc in subst (AllByRecursion P) same (all-append P flight (sent ∷ []) all (all-got P flight place sent at all, tt))

  pub moved-on : (reader source : ClusterNo) (shard place to : ℕ) → IsReached header lines (move_step reader source shard place to w).world
  moved-on reader source shard place to = changed-flight reader source shard (after_move place to flight) (by (nat_lt to (length flight)))
    where
      flight : List Message
      flight = flight_at reader source shard w

      put : (P : Message → Type 0) (xs : List Message) (sent : Message) → P sent → AllByRecursion P xs → AllByRecursion P (insert xs to sent)
      put P xs sent p all = all-append P (take to xs) (sent ∷ drop to xs) (all-take P to xs all) (p, all-drop P to xs all)

      found : (after : List Message) (o : Option Message) → slice_get flight place ≡ o → option_map (λ sent. insert (remove flight place) to sent) o ≡ Some after → IsTakenFrom flight after
      found after None at e = absurd (cc)
      found after (Some sent) at e = λ P all.
          let same : insert (remove flight place) to sent ≡ after = cc in
          subst (AllByRecursion P) same (put P (remove flight place) sent (all-got P flight place sent at all) (all-remove P flight place all))

      by : (t : Bool) (after : List Message) → (if t then option_map (λ sent. insert (remove flight place) to sent) (slice_get flight place) else None) ≡ Some after → IsTakenFrom flight after
      by true after e = found after (slice_get flight place) refl e
      by false after e = absurd (cc)
