-- At the end of a handover the target has learned all that was written with the old version.
use Rattle.std.proofs.Common.{◌≡◌, ◌<◌, ◌≤◌, ◌+◌, ◌==◌, ℕ, suc, zero, Bool, true, false, ◌&&◌, ◌||◌, not, nat_lt, is_some, length, map, take, drop, List, [], ◌∷◌, ◌⊎◌, inl, inr, Option, Some, None, Ok, Err, refl, sym, ◌∙◌, subst, ap, arith, true≢false, if◌then◌else◌, ◌≢◌}
use Rattle.std.specs.Prelude.{find, option_to_list, slice_index_or}
use Rattle.std.specs.List.{AllByRecursion, filter, flat_map, IsAmong}
use Rattle.std.specs.Str.{bytes_eq}
use Rattle.std.proofs.lemmas.Bool.{and_from, and_parts, eq-eqb, eqb-true}
use Rattle.std.proofs.lemmas.Bool.Decides.{nat_tests}
use Rattle.std.proofs.lemmas.List.{take-append-drop}
use Rattle.std.proofs.lemmas.Slice.Eq.{bytes_eq-Decides}
use Rattle.ndc_domain.specs.declared.record.DomainRecord.{DomainRecord}
use Rattle.ndc_laws_cells.proofs.Lists.{is-among}
use Rattle.ndc_script_types.specs.WellFormed.{AreTwoClusters, IsCluster, IsWellFormedHeader}
use Rattle.ndc_script_types.specs.declared.script.Header.{Header}
use Rattle.ndc_model_cells.specs.declared.message.Message.{Message}
use Rattle.ndc_model_cells.specs.Cells.{both, carries, is_learned_in, is_message_learned, is_second_learned, learned_of}
use Rattle.ndc_model_cells.specs.Places.{is_of}
use Rattle.ndc_model_cells.specs.Shards.{shard_of}
use Rattle.ndc_model_cells.specs.Writing.{same_cluster, may_write}
use Rattle.ndc_domain.specs.Clusters.{writer_of}
use Rattle.ndc_domain.specs.Records.{record_of}
use Rattle.ndc_domain.specs.declared.clusters.ClusterNo.{ClusterNo}
use Rattle.ndc_event.specs.declared.batch.Batch.{Batch}
use Rattle.ndc_event.specs.declared.key.BatchKey.{BatchKey}
use Rattle.ndc_event.specs.declared.name.Name.{Name}
use Rattle.ndc_event.specs.Batch.{is_carrier_fit}
use Rattle.ndc_laws_reached.proofs.ArrivalLemmas.{own-is}
use Rattle.ndc_laws_cells.proofs.FoundLemmas.{find-passes}
use Rattle.ndc_laws_reached.proofs.LetterLemmas.{shard-below}
use Rattle.ndc_laws_reached.proofs.ManyLemmas.{among-flat, one-cluster}
use Rattle.ndc_laws_reached.proofs.WrittenLemmas.{names-of, wanted-some}
use Rattle.ndc_laws_reached.proofs.LinkLemmas.{IsLinkFit, links-fit}
use Rattle.ndc_laws_reached.proofs.TrimmedLemmas.{link-there}
use Rattle.ndc_laws_reached.proofs.CameLemmas.{written-message}
use Rattle.ndc_laws_reached.proofs.WriterLemmas.{within, may-parts}
use Rattle.ndc_graceful.specs.Ready.{lagging_from, not_below, ready_of, ready_unless}
use Rattle.ndc_graceful.specs.declared.handover.Handover.{Handover}
use Rattle.ndc_graceful.specs.declared.handover.ReadyError.TheVariants.{NotYet}
use Rattle.ndc_model.specs.Facts.{IsHandoverFit, IsReached, is_old, place_in}
use Rattle.ndc_model.specs.Fair.{IsMessageTrue, IsOwn, written_of}
use Rattle.ndc_model.specs.Handovers.{levels_of, ready_in}
use Rattle.ndc_model.specs.Moves.{all_written}
use Rattle.ndc_model.specs.Queues.{Lane, is_addressed, names_cluster, needs_nothing, new_lane}
use Rattle.ndc_model.specs.Reading.{learned_at}
use Rattle.ndc_model.specs.World.{Link, World, cell_at, cluster_at, is_late_in, is_link, lane_at, link_at, link_found, queue_at, cell_of, home_at}
use Rattle.ndc_queue.specs.Levels.{LevelPair, new_levels}
use Rattle.ndc_event.specs.Key.{key_lt}
use Rattle.ndc_laws_reached.proofs.OneWriterLemmas.{learned_sound}
use Rattle.ndc_model_sets.specs.Branches.{current_tip, greatest_key}
use Rattle.ndc_model_sets.specs.Paths.{is_wanted}
use Rattle.ndc_model_sets.specs.Sets.{Has, batch_at}
use Rattle.ndc_model_sets.proofs.BranchLemmas.{has-among, same-batch}
use Rattle.ndc_model_sets.specs.Sound.{IsSound}
use Rattle.ndc_model_sets.proofs.CurrentLemmas.{IsGreatestOf, current-greatest, of_run, run-greatest}
use Rattle.ndc_model_sets.proofs.FaultLemmas.{passes}
use Rattle.ndc_model_sets.proofs.KeyLemmas.{IsBefore, before-parts}
use Rattle.ndc_model_sets.proofs.ForkLemmas.{among-cases}
use Rattle.ndc_model_sets.proofs.Lists.{Among, all-among, filter-among, find-among}
use Rattle.ndc_model_sets.proofs.SetLemmas.{found-has, found-key}

-- no shard lags: each is done up to its place
none-lags : (shard : ℕ) (places : List ℕ) (levels : List LevelPair) → lagging_from shard places levels ≡ Ok tt → (i : ℕ) → i < length places → i < length levels
    → slice_index_or places i 0 ≤ (slice_index_or levels i new_levels).done
none-lags shard [] levels ready i less more = absurd (omega (arith, less))
none-lags shard (place ∷ places) [] ready i less more = absurd (omega (arith, more))
none-lags shard (place ∷ places) (one ∷ levels) ready i less more = by (nat_lt one.done place) refl ready i less more (none-lags (shard + 1) places levels)
  where
    by : (t : Bool) → nat_lt one.done place ≡ t → (if t then Err (NotYet shard one.done place) else lagging_from (shard + 1) places levels) ≡ Ok tt → (i : ℕ) → i < length (place ∷ places) → i < length (one ∷ levels)
        → (lagging_from (shard + 1) places levels ≡ Ok tt → (i : ℕ) → i < length places → i < length levels → slice_index_or places i 0 ≤ (slice_index_or levels i new_levels).done)
        → slice_index_or (place ∷ places) i 0 ≤ (slice_index_or (one ∷ levels) i new_levels).done
    by true e h i less more rest = absurd (cc)
    by false e h zero less more rest = grind (arith, nat_tests)
    by false e h (suc i) less more rest = rest h i (omega (arith, less)) (omega (arith, more))

-- the levels of a lane
lane-levels : (lanes : List Lane) (i : ℕ) → slice_index_or (map (λ lane. lane.levels) lanes) i new_levels ≡ (slice_index_or lanes i new_lane).levels
lane-levels [] i = refl
lane-levels (lane ∷ lanes) zero = refl
lane-levels (lane ∷ lanes) (suc i) = lane-levels lanes i

length-levels : (lanes : List Lane) → length (map (λ lane. lane.levels) lanes) ≡ length lanes
length-levels [] = refl
length-levels (lane ∷ lanes) = ap suc (length-levels lanes)

-- what stands in a prefix stands in a longer one
among-front : {X : Type 0} (x : X) (xs : List X) (n m : ℕ) → n ≤ m → Among x (take n xs) → Among x (take m xs)
among-front x [] n m most h = h' n h
  where
    h' : (n : ℕ) → Among x (take n []) → Among x (take m [])
    h' zero k = absurd k
    h' (suc n) k = absurd k
among-front x (y ∷ ys) zero m most h = absurd h
among-front x (y ∷ ys) (suc n) zero most h = absurd (omega (arith, most))
among-front x (y ∷ ys) (suc n) (suc m) most (inl e) = inl e
among-front x (y ∷ ys) (suc n) (suc m) most (inr h) = inr (among-front x ys n m (omega (arith, most)) h)

module _ (header : Header) (fit : IsWellFormedHeader header) (lines : ℕ) (w : World) (is : IsReached header lines w) (handover : Handover) (opened : Among handover w.handovers) (ready : ready_in handover w ≡ Ok tt) where
  handed : IsHandoverFit header w handover
  handed = all-among (IsHandoverFit header w) w.handovers handover is.handovers.each opened

  ends : AreTwoClusters header handover.to handover.from
  ends = record { first = handed.clusters.second; second = handed.clusters.first; differ = λ e. handed.clusters.differ (sym e) }

  -- nothing is to be brought, and no shard lags
  parts : (is_late_in handover.domain (link_at handover.to handover.from w) ≡ false) × (lagging_from 0 handover.places (levels_of handover.to handover.from w) ≡ Ok tt)
  unfolding ready_of
  parts = by (not_below handover.new (record_of (cluster_at handover.to w).table handover.domain)) (is_late_in handover.domain (link_at handover.to handover.from w)) refl ready
    where
      by : (o : Option ℕ) (late : Bool) → is_late_in handover.domain (link_at handover.to handover.from w) ≡ late → ready_unless o late handover.places (levels_of handover.to handover.from w) ≡ Ok tt
          → (is_late_in handover.domain (link_at handover.to handover.from w) ≡ false) × (lagging_from 0 handover.places (levels_of handover.to handover.from w) ≡ Ok tt)
      by (Some version) late e h = absurd (cc)
      by None true e h = absurd (cc)
      by None false e h = (e, h)

  there : (link : Link) × (find (is_link handover.to handover.from) w.links ≡ Some link)
  there = link-there header w handover.to handover.from is.shaped ends

  link-is : link_at handover.to handover.from w ≡ there.0
  link-is = ap (link_found handover.to handover.from) there.1

  link-fit : IsLinkFit header w (link_at handover.to handover.from w)
  link-fit = subst (IsLinkFit header w) (sym link-is) (all-among (IsLinkFit header w) w.links there.0 (links-fit header lines w is) (find-among (is_link handover.to handover.from) w.links there.0 there.1))

  link-ends : ((link_at handover.to handover.from w).reader ≡ handover.to) × ((link_at handover.to handover.from w).source ≡ handover.from)
  link-ends =
      let p = and_parts (same_cluster there.0.reader handover.to) (same_cluster there.0.source handover.from) (find-passes (is_link handover.to handover.from) w.links there.0 there.1) in
      (ap (λ (l : Link). l.reader) link-is ∙ one-cluster there.0.reader handover.to p.0, ap (λ (l : Link). l.source) link-is ∙ one-cluster there.0.source handover.from p.1)

  module _ (shard : ℕ) (below : shard < header.shards) where
    abbrev lane : Lane
    lane = lane_at handover.to handover.from shard w

    abbrev queue : List Message
    queue = queue_at handover.from shard w

    done-enough : place_in handover shard ≤ lane.levels.done
    done-enough =
        let most = none-lags 0 handover.places (levels_of handover.to handover.from w) parts.1 shard (let p = handed.places in omega (arith, below, p))
        (let l = length-levels (link_at handover.to handover.from w).lanes in let m = link-fit.many in omega (arith, below, l, m)) in
        let same = ap (λ (levels : LevelPair). levels.done) (lane-levels (link_at handover.to handover.from w).lanes shard) in
        omega (arith, most, same)

    -- what is done is learned, not addressed, or late
    done-all : AllByRecursion (λ sent. (needs_nothing handover.to (cluster_at handover.from w).table (cell_at handover.to shard w) sent || is_late_in sent.batch.domain (link_at handover.to handover.from w)) ≡ true) (take lane.levels.done queue)
    done-all =
        subst (λ (source : ClusterNo). AllByRecursion (λ sent. (needs_nothing handover.to (cluster_at source w).table (cell_at handover.to shard w) sent || is_late_in sent.batch.domain (link_at handover.to handover.from w)) ≡ true) (take lane.levels.done (queue_at source shard w))) link-ends.1
        (subst (λ (reader : ClusterNo). AllByRecursion (λ sent. (needs_nothing reader (cluster_at (link_at handover.to handover.from w).source w).table (cell_at reader shard w) sent || is_late_in sent.batch.domain (link_at handover.to handover.from w)) ≡ true) (take lane.levels.done (queue_at (link_at handover.to handover.from w).source shard w))) link-ends.0
        (link-fit.lanes shard below).is_true.done)

    -- what is of the domain and of the old version stands before the place
    old-before : (sent : Message) → Among sent queue → is_old handover sent ≡ true → Among sent (take lane.levels.done queue)
    old-before sent among old =
        among-front sent queue (place_in handover shard) lane.levels.done done-enough
        (by (among-cases sent (take (place_in handover shard) queue) (drop (place_in handover shard) queue) (subst (Among sent) (sym (take-append-drop (place_in handover shard) queue)) among)))
      where
        by : Among sent (take (place_in handover shard) queue) ⊎ Among sent (drop (place_in handover shard) queue) → Among sent (take (place_in handover shard) queue)
        by (inl h) = h
        by (inr h) =
            absurd (true≢false (sym (all-among (λ x. not (is_old handover x) ≡ true) (drop (place_in handover shard) queue) sent (handed.behind shard below) h) ∙ ap not old))

    -- so it is learned
    old-learned : (sent : Message) → Among sent queue → is_old handover sent ≡ true → is_message_learned (cell_at handover.to shard w) sent ≡ true
    old-learned sent among old =
        by (is_message_learned (cell_at handover.to shard w) sent) refl (is_addressed handover.to (cluster_at handover.from w).table sent) addressed (is_late_in sent.batch.domain (link_at handover.to handover.from w)) not_late
        (all-among (λ x. (needs_nothing handover.to (cluster_at handover.from w).table (cell_at handover.to shard w) x || is_late_in x.batch.domain (link_at handover.to handover.from w)) ≡ true) (take lane.levels.done queue) sent done-all (old-before sent among old))
      where
        domain_is : sent.batch.domain ≡ handover.domain
        domain_is = (bytes_eq-Decides sent.batch.domain handover.domain).0 (and_parts (bytes_eq sent.batch.domain handover.domain) (sent.batch.key.version == handover.old) old).0

        addressed : is_addressed handover.to (cluster_at handover.from w).table sent ≡ true
        addressed = ap (λ d. names_cluster handover.to (record_of (cluster_at handover.from w).table d)) domain_is ∙ handed.names

        not_late : is_late_in sent.batch.domain (link_at handover.to handover.from w) ≡ false
        not_late = ap (λ d. is_late_in d (link_at handover.to handover.from w)) domain_is ∙ parts.0

        by : (known : Bool) → is_message_learned (cell_at handover.to shard w) sent ≡ known → (named : Bool) → named ≡ true → (late : Bool) → late ≡ false
            → ((known || not named) || late) ≡ true → is_message_learned (cell_at handover.to shard w) sent ≡ true
        by true e named n late l h = e
        by false e true n true l h = absurd (true≢false l)
        by false e true n false l h = absurd (true≢false (sym h))
        by false e false n late l h = absurd (true≢false (sym n))

  -- each batch of the domain and the old version is learned at the target
  pub taken-over : (workflow : Name) (b : Batch) → Has (written_of header handover.domain workflow w) b → b.key.version ≡ handover.old → Has (learned_at header handover.to handover.domain workflow w) b
  taken-over workflow b has version = from (written-message header w (shard_of handover.domain workflow header.shards) b f.1)
    where
      below : shard_of handover.domain workflow header.shards < header.shards
      below = shard-below handover.domain workflow header.shards fit.shards_least

      f : (is_of handover.domain workflow b ≡ true) × Among b (all_written header (shard_of handover.domain workflow header.shards) w)
      f = filter-among (is_of handover.domain workflow) (all_written header (shard_of handover.domain workflow header.shards) w) b (has-among (written_of header handover.domain workflow w) b has)

      names : (b.domain ≡ handover.domain) × (b.workflow ≡ workflow)
      names = names-of handover.domain workflow b f.0

      -- a learned batch of this key is this one
      is-there : is_learned_in (cell_at handover.to (shard_of handover.domain workflow header.shards) w) b ≡ true → Has (learned_at header handover.to handover.domain workflow w) b
      is-there h =
          by (batch_at b.key (learned_at header handover.to handover.domain workflow w)) refl
          (subst (λ d. is_some (batch_at b.key (learned_of d workflow (cell_at handover.to (shard_of handover.domain workflow header.shards) w))) ≡ true) names.0
          (subst (λ u. is_some (batch_at b.key (learned_of b.domain u (cell_at handover.to (shard_of handover.domain workflow header.shards) w))) ≡ true) names.1 h))
        where
          by : (o : Option Batch) → batch_at b.key (learned_at header handover.to handover.domain workflow w) ≡ o → is_some o ≡ true → Has (learned_at header handover.to handover.domain workflow w) b
          by None e k = absurd (true≢false (sym k))
          by (Some x) e k =
              let x_has = found-has (learned_at header handover.to handover.domain workflow w) b.key x e in
              let same = same-batch (written_of header handover.domain workflow w) x b (within header lines w is handover.to handed.clusters.second handover.domain workflow below x x_has) has
              (found-key (learned_at header handover.to handover.domain workflow w) b.key x e) in
              subst (λ (y : Batch). Has (learned_at header handover.to handover.domain workflow w) y) same x_has

      -- a message with the batch is of the domain and of the old version
      of-sent : (sent : Message) → IsMessageTrue header (shard_of handover.domain workflow header.shards) w sent → Among b (both sent)
          → (is_old handover sent ≡ true) × (is_message_learned (cell_at handover.to (shard_of handover.domain workflow header.shards) w) sent ≡ true → is_learned_in (cell_at handover.to (shard_of handover.domain workflow header.shards) w) b ≡ true)
      of-sent sent true_is (inl same) = (
        old-is (ap (λ (x : Batch). x.domain) (sym same) ∙ names.0) (ap (λ (x : Batch). x.key.version) (sym same) ∙ version),
        λ h. subst (λ (x : Batch). is_learned_in (cell_at handover.to (shard_of handover.domain workflow header.shards) w) x ≡ true) (sym same)
            (and_parts (is_learned_in (cell_at handover.to (shard_of handover.domain workflow header.shards) w) sent.batch) (is_second_learned (cell_at handover.to (shard_of handover.domain workflow header.shards) w) sent.second) h).0,
      )
        where
          old-is : sent.batch.domain ≡ handover.domain → sent.batch.key.version ≡ handover.old → is_old handover sent ≡ true
          old-is d v = and_from (bytes_eq sent.batch.domain handover.domain) (sent.batch.key.version == handover.old) ((bytes_eq-Decides sent.batch.domain handover.domain).1 d) (eq-eqb sent.batch.key.version handover.old v)
      of-sent sent true_is (inr h) = by sent.second refl h
        where
          carried : sent.second ≡ Some b → carries sent.batch b ≡ true
          carried e =
              find-passes (carries sent.batch) (all_written header (shard_of handover.domain workflow header.shards) w) b
              (ap (λ (m : Message). m.second) (own-is (filter (is_of sent.batch.domain sent.batch.workflow) (all_written header (shard_of handover.domain workflow header.shards) w)) (all_written header (shard_of handover.domain workflow header.shards) w) sent.batch sent true_is.1).1 ∙ e)

          version-same : b.carrier ≡ Some sent.batch.key → sent.batch.key.version ≡ b.key.version
          version-same e =
              let p = subst (λ (o : Option BatchKey). is_carrier_fit b.key b.parent o ≡ true) e (passes b ((is.fair.writing.sound handover.domain workflow).faultless b has)).carrier in
              eqb-true sent.batch.key.version b.key.version
              (and_parts (sent.batch.key.version == b.key.version) (sent.batch.key.task + 1 == b.key.task) (and_parts (not (is_some b.parent)) ((sent.batch.key.version == b.key.version) && (sent.batch.key.task + 1 == b.key.task)) p).1).0

          by : (o : Option Batch) → sent.second ≡ o → Among b (option_to_list o)
              → (is_old handover sent ≡ true) × (is_message_learned (cell_at handover.to (shard_of handover.domain workflow header.shards) w) sent ≡ true → is_learned_in (cell_at handover.to (shard_of handover.domain workflow header.shards) w) b ≡ true)
          by None e k = absurd k
          by (Some s) e (inr k) = absurd k
          by (Some s) e (inl same) =
              let second : sent.second ≡ Some b = e ∙ ap Some (sym same) in
              let c = and_parts (is_of sent.batch.domain sent.batch.workflow b) (is_wanted b.carrier sent.batch) (carried second) in
              let n = names-of sent.batch.domain sent.batch.workflow b c.0 in (
                and_from (bytes_eq sent.batch.domain handover.domain) (sent.batch.key.version == handover.old) ((bytes_eq-Decides sent.batch.domain handover.domain).1 (sym n.0 ∙ names.0))
                    (eq-eqb sent.batch.key.version handover.old (version-same (wanted-some b.carrier sent.batch c.1) ∙ version)),
                λ h. subst (λ o. is_second_learned (cell_at handover.to (shard_of handover.domain workflow header.shards) w) o ≡ true) second
                    (and_parts (is_learned_in (cell_at handover.to (shard_of handover.domain workflow header.shards) w) sent.batch) (is_second_learned (cell_at handover.to (shard_of handover.domain workflow header.shards) w) sent.second) h).1,
              )

      from : (c : ClusterNo) × IsCluster header c × ((sent : Message) × Among sent (queue_at c (shard_of handover.domain workflow header.shards) w) × Among b (both sent)) → Has (learned_at header handover.to handover.domain workflow w) b
      from (c, known, m) =
          let sent = m.0 in
          let among = m.1 in
          let of = m.2 in
          let at = shard_of handover.domain workflow header.shards in
          let own = all-among (IsOwn header c at (cluster_at c w).table (cell_at c at w)) (flat_map both (queue_at c at w)) b (is.fair.writers c at known below) (among-flat both (queue_at c at w) sent b among of) in
          let writers : Some c ≡ Some handover.from = sym own.version ∙ ap (writer_of header.clusters) version ∙ handed.writer in
          let one : c ≡ handover.from = cc in
          let queued = subst (λ (x : ClusterNo). Among sent (queue_at x at w)) one among in
          let true_is = all-among (IsMessageTrue header at w) (queue_at handover.from at w) sent (is.fair.messages handover.from at handed.clusters.first below).written queued in
          let s = of-sent sent true_is of in
          is-there (s.1 (old-learned at below sent queued s.0))

  -- where no greater version was written, the current branch at the target is that of all that was written
  pub taken-current : (workflow : Name) (b : Batch) → Has (written_of header handover.domain workflow w) b → b.key.version ≡ handover.old
      → ((x : Batch) → Has (written_of header handover.domain workflow w) x → x.key.version ≤ handover.old)
      → current_tip b.run (learned_at header handover.to handover.domain workflow w) ≡ current_tip b.run (written_of header handover.domain workflow w)
  taken-current workflow b has version most =
      current-greatest batches sound.set sound.closed sound.parents sound.chains b.run g.0 here
      ∙ sym (current-greatest all whole.set whole.closed whole.parents whole.chains b.run g.0 g.2)
    where
      all : List Batch
      all = written_of header handover.domain workflow w

      batches : List Batch
      batches = learned_at header handover.to handover.domain workflow w

      whole : IsSound (written_of header handover.domain workflow w)
      whole = is.fair.writing.sound handover.domain workflow

      sound : IsSound (learned_at header handover.to handover.domain workflow w)
      sound = learned_sound header lines w handover.to handover.domain workflow fit.shards_least handed.clusters.second is

      g : (m : Batch) × (greatest_key (of_run b.run (written_of header handover.domain workflow w)) ≡ Some m) × IsGreatestOf b.run (written_of header handover.domain workflow w) m
      g = run-greatest (written_of header handover.domain workflow w) b whole.set has

      old : g.0.key.version ≡ handover.old
      old = by (g.2.top b has refl)
        where
          before : IsBefore b.key g.0.key → b.key.version ≤ g.0.key.version
          before (inl l) = omega (arith, l)
          before (inr e) = let p = e.0 in omega (arith, p)

          by : (b ≡ g.0) ⊎ (key_lt b.key g.0.key ≡ true) → g.0.key.version ≡ handover.old
          by (inl same) = sym (ap (λ (x : Batch). x.key.version) same) ∙ version
          by (inr l) = let up = before (before-parts b.key g.0.key l) in let down = most g.0 g.2.has in omega (arith, up, down, version)

      here : IsGreatestOf b.run (learned_at header handover.to handover.domain workflow w) g.0
      here = record {
        has = taken-over workflow g.0 g.2.has old;
        mine = g.2.mine;
        top = λ x there own. g.2.top x (within header lines w is handover.to handed.clusters.second handover.domain workflow (shard-below handover.domain workflow header.shards fit.shards_least) x there) own;
      }

-- while a handover is open no cluster may write with its old version
pub nothing-old : (header : Header) (lines : ℕ) (w : World) (handover : Handover) → IsReached header lines w → IsAmong w.handovers handover → (cluster : ClusterNo) (workflow : Name) (version : ℕ)
    → may_write (home_at header cluster w) handover.domain workflow (cell_of header cluster handover.domain workflow w) ≡ Ok version → version ≢ handover.old
nothing-old header lines w handover is opened cluster workflow version may same =
    let handed = all-among (IsHandoverFit header w) w.handovers handover is.handovers.each (is-among w.handovers handover opened) in
    let r = (may-parts (home_at header cluster w) handover.domain workflow (cell_of header cluster handover.domain workflow w) version may).by_record in
    let writers : Some cluster ≡ Some handover.from = sym r.writer ∙ ap (writer_of header.clusters) same ∙ handed.writer in
    let one : cluster ≡ handover.from = cc in
    let given = handed.given in
    let records : Some r.found ≡ Some given.found = sym (subst (λ (c : ClusterNo). record_of (cluster_at c w).table handover.domain ≡ Some r.found) one r.has) ∙ given.has in
    let record_same : r.found ≡ given.found = cc in
    let least = given.least in let later = handed.later in let version_is = r.version_is in
    let versions : r.found.version ≡ given.found.version = ap (λ (x : DomainRecord). x.version) record_same in
    absurd (omega (arith, least, later, version_is, same, versions))
