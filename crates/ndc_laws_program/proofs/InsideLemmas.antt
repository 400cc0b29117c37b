-- The messages of a line are answered as they should be, each in the world that the line's jobs before it lead to.
use Rattle.std.proofs.Common.{◌≡◌, ℕ, ◌+◌, ◌<◌, true, List, [], ◌∷◌, ◌++◌, map, Option, Some, None, inl, refl, sym, subst, ap, arith, true≢false}
use Rattle.std.specs.Prelude.{◌&&◌, find}
use Rattle.std.specs.List.{AllByRecursion, filter, fold, list_any}
use Rattle.std.specs.Str.{bytes_eq}
use Rattle.std.proofs.lemmas.Bool.{and_parts}
use Rattle.std.proofs.lemmas.Slice.Eq.{bytes_eq-Decides}
use Rattle.ndc_script_types.specs.WellFormed.{AreTwoClusters, IsCluster, IsWellFormedAct, IsWellFormedHeader}
use Rattle.ndc_script_types.specs.declared.script.Act.{Act}
use Rattle.ndc_script_types.specs.declared.script.Act.TheVariants as act
use Rattle.ndc_script_types.specs.declared.script.Header.{Header}
use Rattle.ndc_model_cells.specs.declared.job.Job.TheVariants.{Arrive}
use Rattle.ndc_model_cells.specs.declared.job.ShardJob.{ShardJob}
use Rattle.ndc_model_cells.specs.declared.message.Message.{Message}
use Rattle.ndc_model_cells.specs.Cells.{is_learned_in, learned_message, learned_of}
use Rattle.ndc_model_cells.specs.Domains.{learned_of_domains}
use Rattle.ndc_model_cells.specs.Writing.{same_cluster}
use Rattle.ndc_domain.specs.Clusters.{count_of}
use Rattle.ndc_domain.specs.Records.{record_of}
use Rattle.ndc_domain.specs.declared.clusters.ClusterNo.{ClusterNo}
use Rattle.ndc_event.specs.declared.batch.Batch.{Batch}
use Rattle.ndc_event.specs.declared.name.Name.{Name}
use Rattle.ndc_laws.proofs.AnswerLemmas.{reached-first, reached-put-off}
use Rattle.ndc_laws.proofs.CellArrivalLemmas.{known-where}
use Rattle.ndc_laws.proofs.MergeLettersLemmas.{all-may}
use Rattle.ndc_laws_cells.proofs.FoundLemmas.{find-passes}
use Rattle.ndc_laws_program.specs.Arriving.{IsAnswered, MayCome}
use Rattle.ndc_laws_program.specs.Inside.{AnswersEach, AnswersInside, AnswersRound, at_reader, at_source}
use Rattle.ndc_laws_reached.proofs.ArrivalLaws.{bootstrapped_kept, due_kept}
use Rattle.ndc_laws_reached.proofs.ArrivalLemmas.{own-is}
use Rattle.ndc_laws_reached.proofs.BootstrapLemmas.{learned-itself}
use Rattle.ndc_laws_reached.proofs.BringLemmas.{IsArrival, IsBrought, MayArrive, done-world, may-still, world_after}
use Rattle.ndc_laws_reached.proofs.LaneLemmas.{below-among, emptied, emptied-to}
use Rattle.ndc_laws_reached.proofs.LineLemmas.{more-lines, room-for, settled_kept}
use Rattle.ndc_laws_reached.proofs.ManyLemmas.{due-may, flights-may, many, one-cluster, range-below}
use Rattle.ndc_laws_reached.proofs.MessageLemmas.{again-may, learned-true}
use Rattle.ndc_laws_reached.proofs.SettleLemmas.{others-two}
use Rattle.ndc_laws_reached.proofs.TableRound.{tables-one}
use Rattle.ndc_laws_reached.proofs.WorkflowApplyLemmas.{applying-kept}
use Rattle.ndc_model.specs.Conditions.{all_bootstrapped, due_jobs, late_jobs, reader_bootstrapped, tables_merged}
use Rattle.ndc_model.specs.Facts.{IsReached}
use Rattle.ndc_model.specs.Fair.{is_named}
use Rattle.ndc_model.specs.Moves.{Trace, all_arrive, arrives, bootstrapped, by_link, due, due_arrived, from_world, in_flight, quietly, sent_again, settled_once, without_flights, without_flights_to}
use Rattle.ndc_model.specs.Queues.{names_cluster}
use Rattle.ndc_model.specs.World.{Link, World, all_clusters, cell_at, cluster_at, is_link, link_at, link_found, others_of, shards_of}
use Rattle.ndc_model.proofs.FairLemmas.{clusters-among}
use Rattle.ndc_model.proofs.ListLemmas.{all-flat, all-weaker, any-one, fold-keeps}
use Rattle.ndc_model_sets.proofs.ForkLemmas.{among-left, among-right}
use Rattle.ndc_model_sets.proofs.Lists.{Among, all-among, all-from, filter-among, filter_map-among, find-among, list_any-one, map-among}

-- a message that may come to a cluster in a reached world is answered as it should be
pub is-answered : (header : Header) (lines : ℕ) (w : World) → IsReached header lines w → (cluster : ClusterNo) (shard : ℕ) (sent : Message) → MayCome header w cluster shard sent → IsAnswered header w cluster shard sent
is-answered header lines w is cluster shard sent may = record {
  known = known-where sent (cell_at cluster shard w);
  put_off = reached-put-off header lines w is cluster may.known shard may.below sent (record { is_true = may.written; named = may.named });
  missing = reached-first header lines w is cluster may.known shard may.below sent (record { is_true = may.written; named = may.named });
}

-- the items before one of a list, and the one
part-front : {X : Type 0} (P : X → Type 0) (front back : List X) (x : X) → AllByRecursion P (front ++ x ∷ back) → AllByRecursion P front × P x
part-front P [] back x all = (tt, all.0)
part-front P (y ∷ front) back x all = let rest = part-front P front back x all.1 in ((all.0, rest.0), rest.1)

module _ (header : Header) (lines : ℕ) (cluster : ClusterNo) (known : IsCluster header cluster) where
  -- jobs in which messages arrive that may
  arrivals-answered : (jobs : List ShardJob) (w : World) → IsReached header lines w → AllByRecursion (IsArrival header cluster w) jobs → AnswersEach header cluster jobs w
  arrivals-answered jobs w is all front back shard sent parts =
      subst (λ (v : World). IsAnswered header v cluster shard sent) (sym (done-world header cluster front (from_world w)))
      (is-answered header lines (world_after header cluster front w) before.kept.reached cluster shard sent
      (record { known = known; below = split.1.below; written = may.is_true; named = may.named }))
    where
      split : AllByRecursion (IsArrival header cluster w) front × IsArrival header cluster w (arrives shard sent)
      split = part-front (IsArrival header cluster w) front back (arrives shard sent) (subst (AllByRecursion (IsArrival header cluster w)) parts all)

      before : IsBrought header lines cluster w (world_after header cluster front w)
      before = (many header lines cluster known front w is split.0).0

      same : split.1.sent ≡ sent
      same = let jobs_are : Arrive sent ≡ Arrive split.1.sent = split.1.job in let it : split.1.sent ≡ sent = cc in it

      may : MayArrive header cluster shard (world_after header cluster front w) sent
      may = may-still header lines w (world_after header cluster front w) cluster shard sent before.kept (subst (MayArrive header cluster shard w) same split.1.may)

  -- messages by shard
  shards-answered : (messages : ℕ → List Message) (w : World) → IsReached header lines w → ((shard : ℕ) → shard < header.shards → AllByRecursion (MayArrive header cluster shard w) (messages shard))
      → AnswersEach header cluster (all_arrive messages (shards_of header)) w
  shards-answered messages w is may =
      arrivals-answered (all_arrive messages (shards_of header)) w is (all-flat (IsArrival header cluster w) (λ shard. map (arrives shard) (messages shard)) (shards_of header)
      (λ shard among. let below : shard < header.shards = omega (arith, range-below 0 header.shards shard among) in
      all-from (IsArrival header cluster w) (map (arrives shard) (messages shard)) (arrival shard below)))
    where
      arrival : (shard : ℕ) → shard < header.shards → (asked : ShardJob) → Among asked (map (arrives shard) (messages shard)) → IsArrival header cluster w asked
      arrival shard below asked among =
          let m = map-among (arrives shard) (messages shard) asked among in
          subst (IsArrival header cluster w) (sym m.2) (record { sent = m.0; job = refl; below = below; may = all-among (MayArrive header cluster shard w) (messages shard) m.0 (may shard below) m.1 })

  flights-answered : (w : World) → IsReached header lines w → AnswersEach header cluster (all_arrive (by_link cluster in_flight w.links) (shards_of header)) (without_flights_to cluster w)
  flights-answered w is =
      shards-answered (by_link cluster in_flight w.links) (without_flights_to cluster w) (emptied-to header lines w is cluster)
      (λ shard below. all-weaker (MayArrive header cluster shard w) (MayArrive header cluster shard (without_flights_to cluster w)) (λ sent may. record { is_true = may.is_true; named = may.named })
      (by_link cluster in_flight w.links shard) (flights-may header lines w is cluster shard below))

  due-answered : (w : World) → IsReached header lines w → AnswersEach header cluster (due_jobs header cluster w) w
  due-answered w is = shards-answered (by_link cluster (due w) w.links) w is (due-may header lines w is cluster)

  again-answered : (w : World) → IsReached header lines w → AnswersEach header cluster (all_arrive (sent_again header cluster w) (shards_of header)) w
  again-answered w is = shards-answered (sent_again header cluster w) w is (λ shard below. again-may header lines w is shard below cluster known)

-- what a source has learned of the domains of which a reader is a member late
module _ (header : Header) (lines : ℕ) (reader source : ClusterNo) (two : AreTwoClusters header reader source) (w : World) (is : IsReached header lines w) where
  late-named : (domain : Name) → list_any (λ one. bytes_eq one domain) (link_at reader source w).late ≡ true → is_named header reader w domain ≡ true
  late-named domain = by (find (is_link reader source) w.links) refl
    where
      by : (o : Option Link) → find (is_link reader source) w.links ≡ o → list_any (λ one. bytes_eq one domain) (link_found reader source o).late ≡ true → is_named header reader w domain ≡ true
      by None e h = absurd (true≢false (sym h))
      by (Some link) e h =
          let among = find-among (is_link reader source) w.links link e in
          let mine = and_parts (same_cluster link.reader reader) (same_cluster link.source source) (find-passes (is_link reader source) w.links link e) in
          let f = any-one (λ one. bytes_eq one domain) link.late h in
          let fit = all-among _ link.late f.0 (all-among _ w.links link is.fair.members.late among) f.1 in
          list_any-one (λ other. names_cluster reader (record_of (cluster_at other w).table domain)) (all_clusters header) source (below-among (count_of header.clusters) source two.second)
          (subst (λ (c : ClusterNo). names_cluster reader (record_of (cluster_at c w).table domain) ≡ true) (one-cluster link.source source mine.1)
          (subst (λ (c : ClusterNo). names_cluster c (record_of (cluster_at link.source w).table domain) ≡ true) (one-cluster link.reader reader mine.0)
          (subst (λ (d : Name). names_cluster link.reader (record_of (cluster_at link.source w).table d) ≡ true) ((bytes_eq-Decides f.0 domain).0 f.2) fit)))

  late-answered : AnswersEach header reader (late_jobs header reader source w) w
  late-answered = shards-answered header lines reader two.first (λ shard. learned_of_domains (link_at reader source w).late (cell_at source shard w)) w is
      (λ shard below. all-from (MayArrive header reader shard w) (learned_of_domains (link_at reader source w).late (cell_at source shard w)) (each shard below))
    where
      each : (shard : ℕ) → shard < header.shards → (sent : Message) → Among sent (learned_of_domains (link_at reader source w).late (cell_at source shard w)) → MayArrive header reader shard w sent
      each shard below sent among =
          let cell = cell_at source shard w in
          let m = filter_map-among (learned_message cell) (filter (λ b. is_learned_in cell b && list_any (λ domain. bytes_eq domain b.domain) (link_at reader source w).late) cell.arrived) sent among in
          let p = filter-among (λ b. is_learned_in cell b && list_any (λ domain. bytes_eq domain b.domain) (link_at reader source w).late) cell.arrived m.0 m.1 in
          let q = and_parts (is_learned_in cell m.0) (list_any (λ domain. bytes_eq domain m.0.domain) (link_at reader source w).late) p.0 in
          let has = learned-itself header lines w is shard below source two.second m.0 p.1 q.0 in
          let same : m.0 ≡ sent.batch = ap (λ (x : Message). x.batch) (own-is (learned_of m.0.domain m.0.workflow cell) cell.arrived m.0 sent m.2).1 in
          record {
            is_true = learned-true header lines w is shard below source two.second m.0 sent has m.2;
            named = subst (λ (x : Batch). is_named header reader w x.domain ≡ true) same (late-named m.0.domain q.1);
          }

-- a round of settlement
module _ (header : Header) (lines : ℕ) (t : Trace) (is : IsReached header lines t.world) where
  abbrev Reached : Trace → Type 0
  Reached u = IsReached header lines u.world

  known-there : (cluster : ClusterNo) → Among cluster (all_clusters header) → IsCluster header cluster
  known-there cluster among = clusters-among (count_of header.clusters) cluster among

  one-source : (reader : ClusterNo) → IsCluster header reader → (sources : List ClusterNo) → ((source : ClusterNo) → Among source sources → Among source (others_of header reader)) → (u : Trace) → Reached u → Reached (fold (bootstrapped header reader) u sources)
  one-source reader known sources within u kept =
      fold-keeps Reached (bootstrapped header reader) sources (λ v source among before. bootstrapped_kept header lines reader source v (others-two header reader source known (within source among)) before) u kept

  merged : Reached (quietly (tables_merged header) t)
  merged = (tables-one header lines t.world t.world (record { reached = is; batches = refl })).0.reached

  some-readers : (readers : List ClusterNo) → ((reader : ClusterNo) → Among reader readers → Among reader (all_clusters header)) → Reached (fold (reader_bootstrapped header) (quietly (tables_merged header) t) readers)
  some-readers readers within =
      fold-keeps Reached (reader_bootstrapped header) readers (λ v reader among before. one-source reader (known-there reader (within reader among)) (others_of header reader) (λ source there. there) v before) (quietly (tables_merged header) t) merged

  round-answered : AnswersRound header t
  round-answered = record { late = late; due = due_here }
    where
      before : {X : Type 0} (all front back : List X) (x y : X) → all ≡ front ++ x ∷ back → Among y front → Among y all
      before all front back x y parts among = subst (Among y) (sym parts) (among-left y front (x ∷ back) among)

      here : {X : Type 0} (all front back : List X) (x : X) → all ≡ front ++ x ∷ back → Among x all
      here all front back x parts = subst (Among x) (sym parts) (among-right x front (x ∷ back) (inl refl))

      late : (front back : List ClusterNo) (reader : ClusterNo) (fore rest : List ClusterNo) (source : ClusterNo) → all_clusters header ≡ front ++ reader ∷ back → others_of header reader ≡ fore ++ source ∷ rest
          → AnswersEach header reader (late_jobs header reader source (at_source header t front reader fore)) (at_source header t front reader fore)
      late front back reader fore rest source parts others =
          let known = known-there reader (here (all_clusters header) front back reader parts) in
          late-answered header lines reader source (others-two header reader source known (here (others_of header reader) fore rest source others)) (at_source header t front reader fore)
          (one-source reader known fore (λ other among. before (others_of header reader) fore rest source other others among) (fold (reader_bootstrapped header) (quietly (tables_merged header) t) front)
          (some-readers front (λ other among. before (all_clusters header) front back reader other parts among)))

      due_here : (front back : List ClusterNo) (reader : ClusterNo) → all_clusters header ≡ front ++ reader ∷ back → AnswersEach header reader (due_jobs header reader (at_reader header t front)) (at_reader header t front)
      due_here front back reader parts =
          due-answered header lines reader (known-there reader (here (all_clusters header) front back reader parts)) (at_reader header t front)
          (fold-keeps Reached (due_arrived header) front
          (λ v other among kept. due_kept header lines other v (known-there other (before (all_clusters header) front back reader other parts among)) kept) (all_bootstrapped header (quietly (tables_merged header) t))
          (some-readers (all_clusters header) (λ other among. among)))

-- every line
pub inside-answered : (header : Header) → IsWellFormedHeader header → (lines : ℕ) → lines < 100000 → (w : World) → IsReached header lines w → (asked : Act) → IsWellFormedAct header asked → AnswersInside header asked w
inside-answered header sound lines few w is (act.Work cluster) fit = flights-answered header lines cluster fit w is
inside-answered header sound lines few w is (act.Resend cluster) fit = again-answered header lines cluster fit w is
inside-answered header sound lines few w is (act.Bootstrap reader source) fit = late-answered header lines reader source fit w is
inside-answered header sound lines few w is (act.MergeLetters cluster) fit = arrivals-answered header lines cluster fit _ w is (all-may header sound lines w is cluster fit)
inside-answered header sound lines few w is act.Settle fit = (
  round-answered header (lines + 1) start begun,
  round-answered header (lines + 1) (settled_once header start) (settled_kept header (lines + 1) start (applying-kept header (lines + 1)) begun (λ domain workflow. omega (arith, room-for header lines (without_flights w) (emptied header lines w is) domain workflow))),
)
  where
    start : Trace
    start = from_world (without_flights w)

    begun : IsReached header (lines + 1) (without_flights w)
    begun = more-lines header lines (without_flights w) few (emptied header lines w is)
inside-answered header sound lines few w is other fit = tt
