-- What a settlement leaves.
use Rattle.std.proofs.Common.{◌≡◌, ℕ, zero, suc, ◌+◌, ◌*◌, ◌<◌, ◌≤◌, Bool, true, false, ◌||◌, cond, not, List, [], ◌∷◌, length, drop, Option, Some, None, option_map, ◌⊎◌, inl, inr, refl, sym, ◌∙◌, subst, ap, arith, true≢false}
use Rattle.std.specs.Prelude.{find, is_some, option_to_list}
use Rattle.std.specs.List.{filter, fold, prefix_len}
use Rattle.std.proofs.lemmas.Bool.{and_from, and_parts, eq-eqb}
use Rattle.ndc_script_types.specs.WellFormed.{AreTwoClusters, IsCluster, IsWellFormedHeader}
use Rattle.ndc_script_types.specs.declared.script.Header.{Header}
use Rattle.ndc_model_cells.specs.declared.message.Message.{Message}
use Rattle.ndc_model_cells.specs.Cells.{both, carries, is_learned_in, is_message_learned, is_second_learned, learned_of, own_message}
use Rattle.ndc_model_cells.specs.Places.{batch_there, is_of, place_of}
use Rattle.ndc_model_cells.specs.Shards.{shard_of}
use Rattle.ndc_model_cells.specs.Writing.{same_cluster}
use Rattle.ndc_domain.specs.Clusters.{count_of}
use Rattle.ndc_domain.specs.Records.{record_of}
use Rattle.ndc_domain.specs.declared.clusters.ClusterNo.{ClusterNo}
use Rattle.ndc_domain.specs.declared.record.DomainRecord.{DomainRecord}
use Rattle.ndc_event.specs.declared.batch.Batch.{Batch}
use Rattle.ndc_event.specs.declared.name.Name.{Name}
use Rattle.ndc_model.specs.Facts.{IsReached}
use Rattle.ndc_model.specs.Fair.{IsMessageTrue, written_of}
use Rattle.ndc_model.specs.Moves.{Trace, after_settlement, all_written, bootstrapped, due_arrived, from_world, map_from, merged_all, quietly, renewed, renewed_lane, renewed_link, settled_once, without_flights}
use Rattle.ndc_model.specs.Queues.{is_addressed, names_cluster, needs_nothing, new_lane}
use Rattle.ndc_model.specs.World.{Link, World, all_clusters, cell_at, is_link, lane_at, lane_in, link_found, others_of, queue_at}
use Rattle.ndc_model.proofs.ListLemmas.{fold-keeps, map_from-at}
use Rattle.ndc_queue.specs.Levels.{AreLevels}
use Rattle.ndc_model_sets.specs.Current.{HasNoStray}
use Rattle.ndc_model_sets.specs.Learned.{has_key}
use Rattle.ndc_model_sets.proofs.Lists.{Among, all-among, find-among}
use Rattle.ndc_laws_reached.specs.Writing.{ApplyingKeeps, count_in}
use Rattle.ndc_laws_reached.proofs.FrameLemmas.{batches_in}
use Rattle.ndc_laws_reached.proofs.LaneLemmas.{below-among, emptied, renewed-all}
use Rattle.ndc_laws_reached.proofs.LinkLemmas.{IsLinkFit, links-fit}
use Rattle.ndc_laws_reached.proofs.ArrivalLemmas.{own-is}
use Rattle.ndc_laws_reached.proofs.CellLemmas.{IsKept}
use Rattle.ndc_laws_cells.proofs.FoundLemmas.{find-passes, there-among}
use Rattle.ndc_laws_reached.proofs.LetterLemmas.{shard-below}
use Rattle.ndc_laws_reached.proofs.ManyLemmas.{one-cluster}
use Rattle.ndc_laws_reached.proofs.WrittenLemmas.{has-written, lives}
use Rattle.ndc_laws_reached.proofs.LineLemmas.{more-lines, room-for}
use Rattle.ndc_laws_reached.proofs.SettleLemmas.{IsAlike, bootstraps-alike}
use Rattle.ndc_laws_reached.proofs.TableRound.{IsSpread, OneTable, fold-visit, table_at, tables-one}
use Rattle.ndc_laws_reached.proofs.TrimmedLemmas.{find-mapped, link-there}
use Rattle.ndc_laws_reached.specs.Settled.{ApplyingSettles, IsSettled}
use Rattle.ndc_laws_reached.proofs.CameLemmas.{HasAll, dues-came, message-domain}
use Rattle.ndc_laws_reached.proofs.DoneLemmas.{IsDone, IsReady}
use Rattle.ndc_laws_reached.proofs.LateLemmas.{NoneInFlight, NoneLate, bootstraps-late, flight-none, none-in-flight, once-empty, renewed-empty, renewed-late}
use Rattle.ndc_laws_reached.proofs.RoundDoneLemmas.{round-done, round-idle}
use Rattle.ndc_laws_reached.proofs.WholeLemmas.{arrived-none, learned-all, owner-named, put-off-none}

-- a world in which the tables are one, nothing is late, and all that was written has arrived at each member
pub record HasArrived (header : Header) (lines : ℕ) (w : World) : Type 0 where
  pub reached : IsReached header lines w
  pub tables : OneTable header w
  pub late : NoneLate header w
  pub has : (cluster : ClusterNo) → IsCluster header cluster → HasAll header w cluster

-- the same, where nothing is to be applied again
record IsWhole (header : Header) (lines : ℕ) (w : World) : Type 0 where
  come : HasArrived header lines w
  done : (domain workflow : Name) → IsDone header domain workflow w

-- all of a queue is done for a reader
abbrev AllDone : ClusterNo → ClusterNo → ℕ → World → Type 0
AllDone reader source shard w = (lane_at reader source shard w).levels.done ≡ length (queue_at source shard w)

-- all items pass
prefix-all : (p : Message → Bool) (sents : List Message) → ((sent : Message) → Among sent sents → p sent ≡ true) → prefix_len p sents ≡ length sents
prefix-all p [] all = refl
prefix-all p (sent ∷ sents) all = rw (all sent (inl refl)) (omega (arith, prefix-all p sents (λ x among. all x (inr among))))

drop-among : (n : ℕ) (sents : List Message) (x : Message) → Among x (drop n sents) → Among x sents
drop-among zero sents x among = among
drop-among (suc n) [] x none = none
drop-among (suc n) (sent ∷ sents) x among = inr (drop-among n sents x among)

drop-length : (n : ℕ) (sents : List Message) → n ≤ length sents → n + length (drop n sents) ≡ length sents
drop-length zero sents less = omega arith
drop-length (suc n) [] less = absurd (omega (arith, less))
drop-length (suc n) (sent ∷ sents) less = omega (arith, drop-length n sents (omega (arith, less)))

module _ (header : Header) (lines : ℕ) (w : World) (is : HasArrived header lines w) where
  -- a batch of a message that is addressed to a reader is learned there
  batch-learned : (reader source : ClusterNo) → AreTwoClusters header reader source → (shard : ℕ) → shard < header.shards → (sent : Message) → Among sent (queue_at source shard w) → is_addressed reader (table_at source w) sent ≡ true
      → (b : Batch) → Among b (both sent) → Among b (all_written header shard w) → is_learned_in (cell_at reader shard w) b ≡ true
  batch-learned reader source two shard below sent there addressed b of_it written =
      let lives_there = lives header lines w is.reached shard below b written in
      let named : names_cluster reader (record_of (table_at reader w) b.domain) ≡ true =
      subst (λ (d : Name). names_cluster reader (record_of (table_at reader w) d) ≡ true) (sym (message-domain header lines w is.reached source shard two.second below sent b there of_it))
      (subst (λ (t : List DomainRecord). names_cluster reader (record_of t sent.batch.domain) ≡ true) (is.tables source reader two.second two.first) addressed) in
      ap (λ (l : List Batch). has_key (Some b.key) l) (learned-all header lines w is.reached is.tables reader two.first (is.has reader two.first) b.domain b.workflow shard below lives_there named)
      ∙ ap is_some (has-written header lines w is.reached shard below b written)

  -- so nothing is to be done for any message
  none-needed : (reader source : ClusterNo) → AreTwoClusters header reader source → (shard : ℕ) → shard < header.shards → (sent : Message) → Among sent (queue_at source shard w)
      → needs_nothing reader (table_at source w) (cell_at reader shard w) sent ≡ true
  none-needed reader source two shard below sent there = by (is_addressed reader (table_at source w) sent) refl
    where
      t : (batch_there (all_written header shard w) (place_of sent.batch) ≡ Some sent.batch)
          × (own_message (filter (is_of sent.batch.domain sent.batch.workflow) (all_written header shard w)) (all_written header shard w) sent.batch ≡ Some sent)
      t = all-among (IsMessageTrue header shard w) (queue_at source shard w) sent (is.reached.fair.messages source shard two.second below).written there

      first : is_addressed reader (table_at source w) sent ≡ true → is_learned_in (cell_at reader shard w) sent.batch ≡ true
      first addressed = batch-learned reader source two shard below sent there addressed sent.batch (inl refl) (there-among (all_written header shard w) (place_of sent.batch) sent.batch t.0)

      second : is_addressed reader (table_at source w) sent ≡ true → (o : Option Batch) → sent.second ≡ o → is_second_learned (cell_at reader shard w) o ≡ true
      second addressed None e = refl
      second addressed (Some s) e =
          let m = (own-is (filter (is_of sent.batch.domain sent.batch.workflow) (all_written header shard w)) (all_written header shard w) sent.batch sent t.1).1 in
          let found : find (carries sent.batch) (all_written header shard w) ≡ Some s = ap (λ (x : Message). x.second) m ∙ e in
          batch-learned reader source two shard below sent there addressed s (subst (λ (o : Option Batch). Among s (sent.batch ∷ option_to_list o)) (sym e) (inr (inl refl))) (find-among (carries sent.batch) (all_written header shard w) s found)

      by : (a : Bool) → is_addressed reader (table_at source w) sent ≡ a → (is_message_learned (cell_at reader shard w) sent || not a) ≡ true
      by true e = ap (λ (l : Bool). l || false) (and_from (is_learned_in (cell_at reader shard w) sent.batch) (is_second_learned (cell_at reader shard w) sent.second) (first e) (second e sent.second refl))
      by false e = or-true (is_message_learned (cell_at reader shard w) sent)
        where
          or-true : (l : Bool) → (l || true) ≡ true
          or-true true = refl
          or-true false = refl

  -- renewing leaves such a world
  pub renewed-arrived : (reader : ClusterNo) → HasArrived header lines (renewed w reader)
  unfolding renewed
  renewed-arrived reader = record {
    reached = renewed-all header lines w is.reached reader;
    tables = is.tables;
    late = λ one two apart. renewed-late header one two w reader (is.late one two apart);
    has = is.has;
  }

  -- where levels are renewed all of the queue is done
  module _ (reader source : ClusterNo) (two : AreTwoClusters header reader source) (shard : ℕ) (below : shard < header.shards) where
    all-done : (other : ClusterNo) → (same_cluster reader other ≡ true) ⊎ AllDone reader source shard w → AllDone reader source shard (renewed w other)
    unfolding renewed
    all-done other from =
        ap (λ (l : Link). (lane_in l shard).levels.done) (ap (link_found reader source) (find-mapped (is_link reader source) (renewed_link w other) w.links ends ∙ ap (option_map (renewed_link w other)) found.1))
        ∙ by (same_cluster found.0.reader other) refl
      where
        ends : (link : Link) → is_link reader source (renewed_link w other link) ≡ is_link reader source link
        ends link = same (same_cluster link.reader other)
          where
            same : (t : Bool) → is_link reader source (cond t (record link { lanes = map_from (renewed_lane w link) 0 link.lanes }) link) ≡ is_link reader source link
            same true = refl
            same false = refl

        found : (link : Link) × (find (is_link reader source) w.links ≡ Some link)
        found = link-there header w reader source is.reached.shaped two

        fit : IsLinkFit header w found.0
        fit = all-among (IsLinkFit header w) w.links found.0 (links-fit header lines w is.reached) (find-among (is_link reader source) w.links found.0 found.1)

        mine : (same_cluster found.0.reader reader ≡ true) × (same_cluster found.0.source source ≡ true)
        mine = and_parts (same_cluster found.0.reader reader) (same_cluster found.0.source source) (find-passes (is_link reader source) w.links found.0 found.1)

        in_reader : found.0.reader ≡ reader
        in_reader = one-cluster found.0.reader reader mine.0

        in_source : found.0.source ≡ source
        in_source = one-cluster found.0.source source mine.1

        -- what is done then
        rises : (lane_in found.0 shard).levels.done + prefix_len (needs_nothing found.0.reader (table_at found.0.source w) (cell_at found.0.reader shard w)) (drop (lane_in found.0 shard).levels.done (queue_at found.0.source shard w)) ≡ length (queue_at source shard w)
        rises =
            subst (λ (r : ClusterNo). (lane_in found.0 shard).levels.done + prefix_len (needs_nothing r (table_at found.0.source w) (cell_at r shard w)) (drop (lane_in found.0 shard).levels.done (queue_at found.0.source shard w)) ≡ length (queue_at source shard w)) (sym in_reader)
            (subst (λ (s : ClusterNo). (lane_in found.0 shard).levels.done + prefix_len (needs_nothing reader (table_at s w) (cell_at reader shard w)) (drop (lane_in found.0 shard).levels.done (queue_at s shard w)) ≡ length (queue_at source shard w)) (sym in_source)
            (ap (λ (n : ℕ). (lane_in found.0 shard).levels.done + n)
            (prefix-all (needs_nothing reader (table_at source w) (cell_at reader shard w)) (drop (lane_in found.0 shard).levels.done (queue_at source shard w))
            (λ sent among. none-needed reader source two shard below sent (drop-among (lane_in found.0 shard).levels.done (queue_at source shard w) sent among)))
            ∙ drop-length (lane_in found.0 shard).levels.done (queue_at source shard w) most))
          where
            levels : AreLevels (queue_at source shard w) (lane_in found.0 shard).levels
            levels = subst (λ (s : ClusterNo). AreLevels (queue_at s shard w) (lane_in found.0 shard).levels) in_source (fit.lanes shard below).is_true.levels

            most : (lane_in found.0 shard).levels.done ≤ length (queue_at source shard w)
            most = omega (arith, levels.done_most, levels.read_most)

        by : (t : Bool) → same_cluster found.0.reader other ≡ t
            → (lane_in (cond t (record found.0 { lanes = map_from (renewed_lane w found.0) 0 found.0.lanes }) found.0) shard).levels.done ≡ length (queue_at source shard w)
        by true e =
            ap (λ lane. lane.levels.done) (map_from-at (renewed_lane w found.0) 0 shard found.0.lanes shard new_lane new_lane (omega (arith, below, fit.many)) (omega arith)) ∙ rises
        by false e = before from
          where
            before : (same_cluster reader other ≡ true) ⊎ AllDone reader source shard w → (lane_in found.0 shard).levels.done ≡ length (queue_at source shard w)
            before (inl same) = absurd (true≢false (sym same ∙ sym (ap (λ (c : ClusterNo). same_cluster c other) in_reader) ∙ e))
            before (inr done) = sym (ap (λ (o : Option Link). (lane_in (link_found reader source o) shard).levels.done) found.1) ∙ done

module _ (header : Header) (sound : IsWellFormedHeader header) (lines : ℕ) (keeps : ApplyingKeeps header lines) (settles : ApplyingSettles header lines) where
  live : (domain workflow : Name) → shard_of domain workflow header.shards < header.shards
  live domain workflow = shard-below domain workflow header.shards (omega (arith, sound.shards_least))

  -- the arrivals of a round
  abbrev arrivals : Trace → Trace
  arrivals t =
      fold (due_arrived header)
      (fold (λ v reader. fold (bootstrapped header reader) v (others_of header reader))
      (quietly (λ w. fold (merged_all header) w (all_clusters header)) t) (all_clusters header)) (all_clusters header)

  arrivals-come : (t : Trace) → IsReached header lines t.world → HasArrived header lines (arrivals t).world × (batches_in header (arrivals t).world ≡ batches_in header t.world)
  arrivals-come t is = (
    record {
      reached = due.0.reached;
      tables = λ first second here there. (λ i. due.0.tables i first) ∙ one-table first second here there ∙ (λ i. sym due.0.tables i second);
      late = λ reader source two. ap (λ (links : List Link). (link_found reader source (find (is_link reader source) links)).late) due.0.links ∙ late reader source two;
      has = due.1;
    },
    due.0.batches ∙ alike.batches ∙ tables.0.batches,
  )
    where
      one : Trace
      one = quietly (λ w. fold (merged_all header) w (all_clusters header)) t

      two : Trace
      two = fold (λ v reader. fold (bootstrapped header reader) v (others_of header reader)) one (all_clusters header)

      tables : IsSpread header lines t.world one.world × OneTable header one.world
      tables = tables-one header lines t.world t.world (record { reached = is; batches = refl })

      alike : IsAlike header lines one.world two.world
      alike = bootstraps-alike header lines one tables.0.reached

      one-table : OneTable header two.world
      one-table first second here there = (λ i. alike.tables i first) ∙ tables.1 first second here there ∙ (λ i. sym alike.tables i second)

      late : NoneLate header two.world
      late = bootstraps-late header lines one tables.0.reached

      due : IsKept header lines two.world (arrivals t).world × ((cluster : ClusterNo) → IsCluster header cluster → HasAll header (arrivals t).world cluster)
      due = dues-came header lines two.world late one-table alike.reached two refl

  -- the same was written
  written-alike : (v w : World) → batches_in header v ≡ batches_in header w → (domain workflow : Name) → written_of header domain workflow v ≡ written_of header domain workflow w
  written-alike v w same domain workflow = ap (λ (f : ℕ → List Batch). filter (is_of domain workflow) (f (shard_of domain workflow header.shards))) same

  -- after the arrivals each writer is ready
  arrivals-ready : (t : Trace) → IsReached header lines t.world → ((domain workflow : Name) → IsDone header domain workflow t.world ⊎ (count_in header domain workflow t.world + 1 ≤ 2 * lines)) → IsReady header lines (arrivals t).world
  arrivals-ready t is room = record {
    reached = come.0.reached;
    tables = come.0.tables;
    learned = λ cluster known domain workflow owned.
        learned-all header lines (arrivals t).world come.0.reached come.0.tables cluster known (come.0.has cluster known) domain workflow (shard_of domain workflow header.shards) (live domain workflow) refl
        (owner-named header lines (arrivals t).world come.0.reached come.0.tables cluster known domain owned);
    room = λ domain workflow. same domain workflow (room domain workflow);
  }
    where
      come : HasArrived header lines (arrivals t).world × (batches_in header (arrivals t).world ≡ batches_in header t.world)
      come = arrivals-come t is

      same : (domain workflow : Name) → IsDone header domain workflow t.world ⊎ (count_in header domain workflow t.world + 1 ≤ 2 * lines)
          → IsDone header domain workflow (arrivals t).world ⊎ (count_in header domain workflow (arrivals t).world + 1 ≤ 2 * lines)
      same domain workflow (inl done) = inl (subst HasNoStray (sym (written-alike (arrivals t).world t.world come.1 domain workflow)) done)
      same domain workflow (inr left) = inr (subst (λ (l : List Batch). length l + 1 ≤ 2 * lines) (sym (written-alike (arrivals t).world t.world come.1 domain workflow)) left)

  -- after a round each workflow is done
  once-done : (t : Trace) → IsReached header lines t.world → ((domain workflow : Name) → count_in header domain workflow t.world + 1 ≤ 2 * lines)
      → IsReached header lines (settled_once header t).world × ((domain workflow : Name) → IsDone header domain workflow (settled_once header t).world)
  unfolding settled_once
  once-done t is room =
      let r = round-done header lines keeps settles live (arrivals t) (arrivals-ready t is (λ domain workflow. inr (room domain workflow))) in
      (r.0.ready.reached, r.1)

  -- a second round leaves all as its arrivals left it
  twice-whole : (t : Trace) → IsReached header lines t.world → ((domain workflow : Name) → IsDone header domain workflow t.world) → IsWhole header lines (settled_once header t).world
  unfolding settled_once
  twice-whole t is done =
      subst (IsWhole header lines) (sym (round-idle header lines keeps settles (arrivals t).world (arrivals-ready t is (λ domain workflow. inl (done domain workflow))) still (arrivals t) refl))
      (record { come = come.0; done = still })
    where
      come : HasArrived header lines (arrivals t).world × (batches_in header (arrivals t).world ≡ batches_in header t.world)
      come = arrivals-come t is

      still : (domain workflow : Name) → IsDone header domain workflow (arrivals t).world
      still domain workflow = subst HasNoStray (sym (written-alike (arrivals t).world t.world come.1 domain workflow)) (done domain workflow)

  -- levels are renewed
  renewed-whole : (w : World) (reader : ClusterNo) → IsWhole header lines w → IsWhole header lines (renewed w reader)
  unfolding renewed
  renewed-whole w reader is = record { come = renewed-arrived header lines w is.come reader; done = is.done }

  -- a whole world whose levels are renewed is settled
  whole-settled : (w : World) → IsWhole header lines w → NoneInFlight w → IsSettled header (fold renewed w (all_clusters header))
  whole-settled w is grounded = record {
    tables = whole.come.tables;
    members = λ cluster known domain workflow named. learned cluster known domain workflow named;
    strangers = λ cluster known domain workflow stranger. arrived-none header lines v whole.come.reached whole.come.tables cluster known domain workflow (shard_of domain workflow header.shards) (live domain workflow) stranger;
    strays = λ cluster known domain workflow named. subst HasNoStray (sym (learned cluster known domain workflow named)) (whole.done domain workflow);
    put_off = λ cluster shard known below. put-off-none header lines v whole.come.reached whole.come.tables cluster known (whole.come.has cluster known) shard below;
    flight = λ reader source shard. flight-none v reader source shard (fold-keeps NoneInFlight renewed (all_clusters header) (λ u reader among before. renewed-empty u reader before) w grounded);
    late = whole.come.late;
    done = λ reader source shard two below. (fold-visit (IsWhole header lines) (AllDone reader source shard) renewed (all_clusters header) reader (below-among (count_of header.clusters) reader two.first)
        (λ u other among before. (renewed-whole u other before, λ done. all-done header lines u before.come reader source two shard below other (inr done)))
        (λ u before. all-done header lines u before.come reader source two shard below reader (inl (eq-eqb reader.number reader.number refl))) w is).1;
  }
    where
      v : World
      v = fold renewed w (all_clusters header)

      whole : IsWhole header lines (fold renewed w (all_clusters header))
      whole = fold-keeps (IsWhole header lines) renewed (all_clusters header) (λ u reader among before. renewed-whole u reader before) w is

      learned : (cluster : ClusterNo) → IsCluster header cluster → (domain workflow : Name) → names_cluster cluster (record_of (table_at cluster v) domain) ≡ true
          → learned_of domain workflow (cell_at cluster (shard_of domain workflow header.shards) v) ≡ written_of header domain workflow v
      learned cluster known domain workflow named =
          learned-all header lines v whole.come.reached whole.come.tables cluster known (whole.come.has cluster known) domain workflow (shard_of domain workflow header.shards) (live domain workflow) refl named

-- a settlement leaves a settled world
pub settlement_settled : (header : Header) (lines : ℕ) (w : World) → IsWellFormedHeader header → lines < 100000 → ApplyingKeeps header (lines + 1) → ApplyingSettles header (lines + 1) → IsReached header lines w
    → IsSettled header (after_settlement header w).world
unfolding after_settlement
settlement_settled header lines w sound below keeps settles is =
    whole-settled header sound (lines + 1) keeps settles (settled_once header (settled_once header start)).world
    (twice-whole header sound (lines + 1) keeps settles (settled_once header start) once.0 once.1)
    (once-empty header (settled_once header start) (once-empty header start (none-in-flight w)))
  where
    start : Trace
    start = from_world (without_flights w)

    reached : IsReached header lines (without_flights w)
    reached = emptied header lines w is

    once : IsReached header (lines + 1) (settled_once header start).world × ((domain workflow : Name) → IsDone header domain workflow (settled_once header start).world)
    once =
        once-done header sound (lines + 1) keeps settles start (more-lines header lines (without_flights w) below reached)
        (λ domain workflow. omega (arith, room-for header lines (without_flights w) reached domain workflow))
