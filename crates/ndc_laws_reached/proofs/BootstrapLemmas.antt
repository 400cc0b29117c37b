-- A member that is late is brought all that it lacks, and is late no more.
use Rattle.std.proofs.Common.{◌≡◌, ℕ, ◌<◌, Bool, true, false, ◌&&◌, ◌||◌, if◌then◌else◌, List, [], ◌∷◌, take, Option, Some, None, inl, inr, refl, sym, ◌∙◌, subst, ap, true≢false}
use Rattle.std.specs.List.{AllByRecursion, IsAmong, filter, flat_map, list_any}
use Rattle.std.specs.Prelude.{find, is_some, not, option_to_list}
use Rattle.std.specs.Str.{bytes_eq}
use Rattle.std.proofs.lemmas.Bool.{and_from, and_parts, or_left}
use Rattle.std.proofs.lemmas.Slice.Eq.{bytes_eq-Decides}
use Rattle.ndc_script_types.specs.WellFormed.{AreTwoClusters, IsCluster}
use Rattle.ndc_script_types.specs.declared.script.Header.{Header}
use Rattle.ndc_model_cells.specs.declared.message.Message.{Message}
use Rattle.ndc_model_cells.specs.Arrival.{has_arrived}
use Rattle.ndc_model_cells.specs.Cells.{Cell, arrived_of, both, carries, is_learned_in, is_message_learned, is_second_learned, learned_message, learned_of, message_of}
use Rattle.ndc_model_cells.specs.Writing.{same_cluster}
use Rattle.ndc_event.specs.Key.{key_eq}
use Rattle.ndc_model_cells.specs.Places.{batch_there, is_of, place_of}
use Rattle.ndc_model_cells.proofs.PlaceLemmas.{set_of_workflow}
use Rattle.ndc_domain.specs.Records.{record_of}
use Rattle.ndc_domain.specs.declared.clusters.ClusterNo.{ClusterNo}
use Rattle.ndc_event.specs.declared.batch.Batch.{Batch}
use Rattle.ndc_event.specs.declared.key.BatchKey.{BatchKey}
use Rattle.ndc_event.specs.declared.name.Name.{Name}
use Rattle.ndc_model.specs.Facts.{IsReached}
use Rattle.ndc_model.specs.Fair.{IsOwn, is_named}
use Rattle.ndc_model.specs.Moves.{all_arrive, all_written, renewed}
use Rattle.ndc_model_cells.specs.Domains.{learned_of_domains}
use Rattle.ndc_model.specs.Queues.{is_addressed, names_cluster, needs_nothing}
use Rattle.ndc_model.specs.World.{Link, World, cell_at, cluster_at, is_late_in, is_link, lane_in, link_at, link_found, queue_at, shards_of, with_link}
use Rattle.ndc_model.proofs.ListLemmas.{all-self, all-take, any-one}
use Rattle.ndc_laws_cells.proofs.Lists.{is-among}
use Rattle.ndc_model_sets.specs.Learned.{IsPart, has_key}
use Rattle.ndc_model_sets.specs.Paths.{is_wanted}
use Rattle.ndc_model_sets.specs.Sets.{Has, batch_at, earlier_of}
use Rattle.ndc_model_sets.proofs.BranchLemmas.{among-has}
use Rattle.ndc_model_sets.proofs.KeyLemmas.{key_eq-self}
use Rattle.ndc_model_sets.proofs.LearnedLemmas.{closed_part, learned_closed}
use Rattle.ndc_model_sets.proofs.Lists.{Among, all-among, all-from, among-filter, among-filter_map, filter-among, filter_map-among, find-among, find-only}
use Rattle.ndc_model_sets.proofs.SetLemmas.{found-has, found-key}
use Rattle.ndc_model_sets.proofs.SoundLemmas.{parent-alone}
use Rattle.ndc_laws_reached.proofs.LaneLemmas.{named-there, renewed-all}
use Rattle.ndc_laws_reached.proofs.LinkLemmas.{IsLinkFit, links-fit, one-link}
use Rattle.ndc_laws_reached.proofs.ArrivalLemmas.{none-is, own-is}
use Rattle.ndc_laws_reached.proofs.BringLemmas.{HasCome, IsBrought, MayArrive, world_after}
use Rattle.ndc_laws_cells.proofs.FoundLemmas.{find-passes, there-among, there-place}
use Rattle.ndc_laws_reached.proofs.ManyLemmas.{among-flat, by-shard, one-cluster}
use Rattle.ndc_laws_reached.proofs.MessageLemmas.{learned-arrived, learned-true, second-same}
use Rattle.ndc_laws_reached.proofs.WrittenLemmas.{arrived-written, carried-alone, cell-is, has-written, names-of, one-carried, one-written}

-- a batch that is learned by its key is learned itself
module _ (header : Header) (lines : ℕ) (w : World) (is : IsReached header lines w) (shard : ℕ) (below : shard < header.shards) (cluster : ClusterNo) (known : IsCluster header cluster) where
  pub learned-itself : (b : Batch) → Among b (cell_at cluster shard w).arrived → is_learned_in (cell_at cluster shard w) b ≡ true → Has (learned_of b.domain b.workflow (cell_at cluster shard w)) b
  learned-itself b there h = by (batch_at b.key (learned_of b.domain b.workflow cell)) refl h
    where
      cell : Cell
      cell = cell_at cluster shard w

      by : (o : Option Batch) → batch_at b.key (learned_of b.domain b.workflow (cell_at cluster shard w)) ≡ o → is_some o ≡ true → Has (learned_of b.domain b.workflow (cell_at cluster shard w)) b
      by None e h = absurd (true≢false (sym h))
      by (Some x) e h =
          let has = found-has (learned_of b.domain b.workflow (cell_at cluster shard w)) b.key x e in
          let p = learned-arrived header lines w is shard below cluster known b.domain b.workflow x has in
          let n = names-of b.domain b.workflow x p.1 in
          let k : x.key ≡ b.key = found-key (learned_of b.domain b.workflow (cell_at cluster shard w)) b.key x e in
          let same : x ≡ b = one-written header lines w is shard below x b (arrived-written header lines w is shard below cluster known x p.0) (arrived-written header lines w is shard below cluster known b there)
          (λ i. record { domain = n.0 i; workflow = n.1 i; key = k i }) in
          e ∙ ap (λ (y : Batch). Some y) same

  -- what has arrived by its place has arrived itself
  pub come-itself : (b : Batch) → Among b (all_written header shard w) → has_arrived b (cell_at cluster shard w) ≡ true → Among b (cell_at cluster shard w).arrived
  come-itself b written h = by (batch_there (cell_at cluster shard w).arrived (place_of b)) refl h
    where
      by : (o : Option Batch) → batch_there (cell_at cluster shard w).arrived (place_of b) ≡ o → is_some o ≡ true → Among b (cell_at cluster shard w).arrived
      by None e h = absurd (true≢false (sym h))
      by (Some x) e h =
          let there = there-among (cell_at cluster shard w).arrived (place_of b) x e in
          subst (λ (y : Batch). Among y (cell_at cluster shard w).arrived)
          (one-written header lines w is shard below x b (arrived-written header lines w is shard below cluster known x there) written (sym (there-place (cell_at cluster shard w).arrived (place_of b) x e))) there

module _ (header : Header) (lines : ℕ) (reader source : ClusterNo) (two : AreTwoClusters header reader source) (w : World) (is : IsReached header lines w) where
  abbrev late : List Name
  late = (link_at reader source w).late

  abbrev brought_for : ℕ → List Message
  brought_for shard = learned_of_domains (link_at reader source w).late (cell_at source shard w)

  abbrev v : World
  v = world_after header reader (all_arrive (λ shard. learned_of_domains (link_at reader source w).late (cell_at source shard w)) (shards_of header)) w

  -- a domain that is late names the reader
  late-named : (domain : Name) → list_any (λ one. bytes_eq one domain) (link_at reader source w).late ≡ true → is_named header reader w domain ≡ true
  late-named domain h = by (find (is_link reader source) w.links) refl h
    where
      by : (o : Option Link) → find (is_link reader source) w.links ≡ o → list_any (λ one. bytes_eq one domain) (link_found reader source o).late ≡ true → is_named header reader w domain ≡ true
      by None e h = absurd (true≢false (sym h))
      by (Some link) e h =
          let fit = all-among (IsLinkFit header w) w.links link (links-fit header lines w is) (find-among (is_link reader source) w.links link e) in
          let mine = and_parts (same_cluster link.reader reader) (same_cluster link.source source) (find-passes (is_link reader source) w.links link e) in
          let r : link.reader ≡ reader = one-cluster link.reader reader mine.0 in
          let f = any-one (λ one. bytes_eq one domain) link.late h in
          let same : f.0 ≡ domain = (bytes_eq-Decides f.0 domain).0 f.2 in
          named-there header w reader link.source domain fit.ends.second
          (subst (λ (c : ClusterNo). names_cluster c (record_of (cluster_at link.source w).table domain) ≡ true) r
          (subst (λ (d : Name). names_cluster link.reader (record_of (cluster_at link.source w).table d) ≡ true) same (all-among _ link.late f.0 fit.late f.1)))

  -- all of it may arrive
  each-may : (shard : ℕ) → shard < header.shards → AllByRecursion (MayArrive header reader shard w) (brought_for shard)
  each-may shard below = all-from (MayArrive header reader shard w) (brought_for shard) each
    where
      each : (sent : Message) → Among sent (brought_for shard) → MayArrive header reader shard w sent
      each sent among =
          let m = filter_map-among (learned_message (cell_at source shard w)) (filter (λ b. is_learned_in (cell_at source shard w) b && list_any (λ domain. bytes_eq domain b.domain) (link_at reader source w).late) (cell_at source shard w).arrived) sent among in
          let p = filter-among (λ b. is_learned_in (cell_at source shard w) b && list_any (λ domain. bytes_eq domain b.domain) (link_at reader source w).late) (cell_at source shard w).arrived m.0 m.1 in
          let q = and_parts (is_learned_in (cell_at source shard w) m.0) (list_any (λ domain. bytes_eq domain m.0.domain) (link_at reader source w).late) p.0 in
          let has = learned-itself header lines w is shard below source two.second m.0 p.1 q.0 in
          let same : m.0 ≡ sent.batch = ap (λ (x : Message). x.batch) (own-is (learned_of m.0.domain m.0.workflow (cell_at source shard w)) (cell_at source shard w).arrived m.0 sent m.2).1 in
          record {
            is_true = learned-true header lines w is shard below source two.second m.0 sent has m.2;
            named = subst (λ (x : Batch). is_named header reader w x.domain ≡ true) same (late-named m.0.domain q.1);
          }

  pub brought : IsBrought header lines reader w v
      × ((shard : ℕ) (sent : Message) → shard < header.shards → Among sent (brought_for shard) → HasCome reader shard v sent)
  brought = by-shard header lines reader two.first brought_for w is each-may

  reached : IsReached header lines v
  reached = brought.0.kept.reached

  module _ (shard : ℕ) (below : shard < header.shards) where
    abbrev theirs : Cell
    theirs = cell_at source shard w

    abbrev ours : Cell
    ours = cell_at reader shard v

    abbrev all : List Batch
    all = all_written header shard w

    -- a learned batch of a domain that is late has come: alone, or with the one that carries it
    came : (domain workflow : Name) → list_any (λ one. bytes_eq one domain) (link_at reader source w).late ≡ true → (x : Batch) → Has (learned_of domain workflow theirs) x → has_arrived x ours ≡ true
    came domain workflow due x has = by x.carrier refl
      where
        p : Among x theirs.arrived × (is_of domain workflow x ≡ true)
        p = learned-arrived header lines w is shard below source two.second domain workflow x has

        -- a batch that is not carried, and is learned, has its message among those that came
        sent-for : (y : Batch) → Has (learned_of domain workflow theirs) y → y.carrier ≡ None
            → Among (message_of (learned_of y.domain y.workflow theirs) theirs.arrived y) (brought_for shard)
        sent-for y y_has alone =
            let q = learned-arrived header lines w is shard below source two.second domain workflow y y_has in
            let n = names-of domain workflow y q.1 in
            let y_own : Has (learned_of y.domain y.workflow theirs) y = subst (λ (d : Name). Has (learned_of d y.workflow theirs) y) (sym n.0) (subst (λ (u : Name). Has (learned_of domain u theirs) y) (sym n.1) y_has) in
            let learned_there : is_learned_in theirs y ≡ true = ap is_some y_own in
            let y_due : list_any (λ one. bytes_eq one y.domain) (link_at reader source w).late ≡ true = subst (λ (d : Name). list_any (λ one. bytes_eq one d) (link_at reader source w).late ≡ true) (sym n.0) due in
            among-filter_map (learned_message theirs) (filter (λ b. is_learned_in theirs b && list_any (λ one. bytes_eq one b.domain) (link_at reader source w).late) theirs.arrived) y
            (message_of (learned_of y.domain y.workflow theirs) theirs.arrived y)
            (ap (λ (o : Option BatchKey). if is_some o then None else Some (message_of (learned_of y.domain y.workflow theirs) theirs.arrived y)) alone)
            (among-filter (λ b. is_learned_in theirs b && list_any (λ one. bytes_eq one b.domain) (link_at reader source w).late) theirs.arrived y
            (and_from (is_learned_in theirs y) (list_any (λ one. bytes_eq one y.domain) (link_at reader source w).late) learned_there y_due) q.0)

        written : Among x all
        written = arrived-written header lines w is shard below source two.second x p.0

        -- the one that carries it is learned too
        carrier-has : (key : BatchKey) → x.carrier ≡ Some key → has_key (Some key) (learned_of domain workflow theirs) ≡ true
        carrier-has key e = subst (λ (o : Option BatchKey). has_key o (learned_of domain workflow theirs) ≡ true) (first x.parent refl)
            ((learned_closed (arrived_of domain workflow theirs) (set_of_workflow domain workflow theirs (cell-is header lines w is shard below source two.second))).1 x has)
          where
            first : (o : Option BatchKey) → x.parent ≡ o → earlier_of o x.carrier ≡ Some key
            first None at = e
            first (Some parent) at =
                absurd (parent-alone x parent key ((is.fair.writing.sound x.domain x.workflow).faultless x (has-written header lines w is shard below x written)) at e)

        by-carrier : (key : BatchKey) → x.carrier ≡ Some key → (o : Option Batch) → batch_at key (learned_of domain workflow theirs) ≡ o → is_some o ≡ true → has_arrived x ours ≡ true
        by-carrier key e None at h = absurd (true≢false (sym h))
        by-carrier key e (Some c) at h =
            let c_has = found-has (learned_of domain workflow theirs) key c at in
            let q = learned-arrived header lines w is shard below source two.second domain workflow c c_has in
            let c_written = arrived-written header lines w is shard below source two.second c q.0 in
            let k : c.key ≡ key = found-key (learned_of domain workflow theirs) key c at in
            let wanted : is_wanted x.carrier c ≡ true = subst (λ (o : Option BatchKey). is_wanted o c ≡ true) (sym e) (subst (λ (j : BatchKey). key_eq c.key j ≡ true) k (key_eq-self c.key)) in
            let nc = names-of domain workflow c q.1 in
            let nx = names-of domain workflow x p.1 in
            let mine : is_of c.domain c.workflow x ≡ true =
            and_from (bytes_eq x.domain c.domain) (bytes_eq x.workflow c.workflow) ((bytes_eq-Decides x.domain c.domain).1 (nx.0 ∙ sym nc.0)) ((bytes_eq-Decides x.workflow c.workflow).1 (nx.1 ∙ sym nc.1)) in
            let carries_it : carries c x ≡ true = and_from (is_of c.domain c.workflow x) (is_wanted x.carrier c) mine wanted in
            let alone : c.carrier ≡ None = none-is c.carrier (not-carried c c_written carries_it) in
            let second : find (carries c) theirs.arrived ≡ Some x =
            second-same header lines w is shard below source two.second c q.0
            ∙ find-only (carries c) all x carries_it written (λ y y_written cy. one-carried header lines w is shard below c y x c_written y_written written cy carries_it) in
            (brought.1 shard (message_of (learned_of c.domain c.workflow theirs) theirs.arrived c) below (sent-for c c_has alone)).second x second
          where
            not-carried : (c : Batch) → Among c all → carries c x ≡ true → is_some c.carrier ≡ false
            not-carried c c_written carries_it = test (is_some c.carrier) refl
              where
                test : (t : Bool) → is_some c.carrier ≡ t → t ≡ false
                test true e = absurd (carried-alone header lines w is shard below c x c_written written e carries_it)
                test false e = refl

        by : (o : Option BatchKey) → x.carrier ≡ o → has_arrived x ours ≡ true
        by None e = (brought.1 shard (message_of (learned_of x.domain x.workflow theirs) theirs.arrived x) below (sent-for x has e)).batch
        by (Some key) e = by-carrier key e (batch_at key (learned_of domain workflow theirs)) refl (carrier-has key e)

    -- so what the source has learned of it the reader has learned
    learned-too : (domain workflow : Name) → list_any (λ one. bytes_eq one domain) (link_at reader source w).late ≡ true → IsPart (learned_of domain workflow theirs) (learned_of domain workflow ours)
    learned-too domain workflow due =
        let set = set_of_workflow domain workflow theirs (cell-is header lines w is shard below source two.second) in
        let closed = learned_closed (arrived_of domain workflow theirs) set in
        let our_set = set_of_workflow domain workflow ours (cell-is header lines v reached shard below reader two.first) in
        closed_part (arrived_of domain workflow ours) (learned_of domain workflow theirs) our_set closed.0
        (λ x has. let p = learned-arrived header lines w is shard below source two.second domain workflow x has in
        let written : Among x (all_written header shard v) =
        subst (λ (f : ℕ → List Batch). Among x (f shard)) (sym brought.0.kept.batches) (arrived-written header lines w is shard below source two.second x p.0) in
        among-has (arrived_of domain workflow ours) x our_set.ordered
        (among-filter (is_of domain workflow) ours.arrived x p.1 (come-itself header lines v reached shard below reader two.first x written (came domain workflow due x has))))
        closed.1

    -- an entry of the source's queue that is late is learned by the reader
    entry-learned : (sent : Message) → IsAmong (queue_at source shard w) sent → list_any (λ one. bytes_eq one sent.batch.domain) (link_at reader source w).late ≡ true → is_message_learned ours sent ≡ true
    entry-learned sent among due =
        and_from (is_learned_in ours sent.batch) (is_second_learned ours sent.second) (one sent.batch (inl refl) due) (second sent.second refl)
      where
        own : (b : Batch) → Among b (both sent) → IsOwn header source shard (cluster_at source w).table theirs b
        own b b_among =
            all-among (IsOwn header source shard (cluster_at source w).table theirs) (flat_map both (queue_at source shard w)) b (is.fair.writers source shard two.second below)
            (among-flat both (queue_at source shard w) sent b (is-among (queue_at source shard w) sent among) b_among)

        one : (b : Batch) → Among b (both sent) → list_any (λ d. bytes_eq d b.domain) (link_at reader source w).late ≡ true → is_learned_in ours b ≡ true
        one b b_among b_due = ap is_some (learned-too b.domain b.workflow b_due b (own b b_among).learned)

        second : (o : Option Batch) → sent.second ≡ o → is_second_learned ours o ≡ true
        second None e = refl
        second (Some s) e =
            one s (subst (λ (o : Option Batch). Among s (sent.batch ∷ option_to_list o)) (sym e) (inr (inl refl)))
            (subst (λ (d : Name). list_any (λ one. bytes_eq one d) (link_at reader source w).late ≡ true) (sym (same-domain s e)) due)
          where
            same-domain : (s : Batch) → sent.second ≡ Some s → s.domain ≡ sent.batch.domain
            same-domain s e =
                let t = all-among _ (queue_at source shard w) sent (is.fair.messages source shard two.second below).written (is-among (queue_at source shard w) sent among) in
                let m = (own-is (filter (is_of sent.batch.domain sent.batch.workflow) all) all sent.batch sent t.1).1 in
                let found : find (carries sent.batch) all ≡ Some s = ap (λ (x : Message). x.second) m ∙ e in
                (names-of sent.batch.domain sent.batch.workflow s (and_parts (is_of sent.batch.domain sent.batch.workflow s) (is_wanted s.carrier sent.batch) (find-passes (carries sent.batch) all s found)).0).0

  -- the link is late for nothing
  late-ended : IsReached header lines (with_link reader source (λ link. record link { late = [] }) v)
  late-ended =
      one-link header lines reader source (λ link. record link { late = [] }) v (λ link. refl)
      (λ fit. record {
        ends = fit.ends;
        many = fit.many;
        lanes = λ shard below. let f = fit.lanes shard below in record {
          is_true = record {
            trimmed_most = f.is_true.trimmed_most;
            levels = f.is_true.levels;
            done = ended (find (is_link reader source) v.links) refl shard below f.is_true.done;
            flight = f.is_true.flight;
          };
          named = f.named;
        };
        late = tt;
      }) reached
    where
      same-link : link_at reader source v ≡ link_at reader source w
      same-link = ap (λ (links : List Link). link_found reader source (find (is_link reader source) links)) brought.0.kept.links

      entry : (link : Link) → link ≡ link_at reader source v → (shard : ℕ) → shard < header.shards → (sent : Message) → IsAmong (queue_at source shard v) sent
          → (needs_nothing reader (cluster_at source v).table (cell_at reader shard v) sent || is_late_in sent.batch.domain link) ≡ true
          → (needs_nothing reader (cluster_at source v).table (cell_at reader shard v) sent || false) ≡ true
      entry link at shard below sent among h = by (needs_nothing reader (cluster_at source v).table (cell_at reader shard v) sent) refl h
        where
          by : (t : Bool) → needs_nothing reader (cluster_at source v).table (cell_at reader shard v) sent ≡ t → (t || is_late_in sent.batch.domain link) ≡ true → (t || false) ≡ true
          by true e h = refl
          by false e h =
              let due : list_any (λ one. bytes_eq one sent.batch.domain) (link_at reader source w).late ≡ true = subst (λ (l : Link). is_late_in sent.batch.domain l ≡ true) (at ∙ same-link) h in
              let before : IsAmong (queue_at source shard w) sent = subst (λ (q : ClusterNo → ℕ → List Message). IsAmong (q source shard) sent) brought.0.kept.queues among in
              absurd (true≢false (sym (or_left (is_message_learned (cell_at reader shard v) sent) (not (is_addressed reader (cluster_at source v).table sent)) (entry-learned shard below sent before due)) ∙ e))

      -- the same by the ends of the link
      entry-at : (r s : ClusterNo) → r ≡ reader → s ≡ source → (link : Link) → link ≡ link_at reader source v → (shard : ℕ) → shard < header.shards → (sent : Message) → IsAmong (queue_at s shard v) sent
          → (needs_nothing r (cluster_at s v).table (cell_at r shard v) sent || is_late_in sent.batch.domain link) ≡ true
          → (needs_nothing r (cluster_at s v).table (cell_at r shard v) sent || false) ≡ true
      entry-at r s er es link at shard below sent =
          subst (λ (x : ClusterNo). IsAmong (queue_at s shard v) sent → (needs_nothing x (cluster_at s v).table (cell_at x shard v) sent || is_late_in sent.batch.domain link) ≡ true
          → (needs_nothing x (cluster_at s v).table (cell_at x shard v) sent || false) ≡ true) (sym er)
          (subst (λ (y : ClusterNo). IsAmong (queue_at y shard v) sent → (needs_nothing reader (cluster_at y v).table (cell_at reader shard v) sent || is_late_in sent.batch.domain link) ≡ true
          → (needs_nothing reader (cluster_at y v).table (cell_at reader shard v) sent || false) ≡ true) (sym es) (entry link at shard below sent))

      of-link : (link : Link) → link.reader ≡ reader → link.source ≡ source → link ≡ link_at reader source v → (shard : ℕ) → shard < header.shards
          → AllByRecursion (λ sent. (needs_nothing link.reader (cluster_at link.source v).table (cell_at link.reader shard v) sent || is_late_in sent.batch.domain link) ≡ true) (take (lane_in link shard).levels.done (queue_at link.source shard v))
          → AllByRecursion (λ sent. (needs_nothing link.reader (cluster_at link.source v).table (cell_at link.reader shard v) sent || false) ≡ true) (take (lane_in link shard).levels.done (queue_at link.source shard v))
      of-link link er es at shard below all_done =
          all-from _ (take (lane_in link shard).levels.done (queue_at link.source shard v))
          (λ sent among. entry-at link.reader link.source er es link at shard below sent
          (all-among (IsAmong (queue_at link.source shard v)) (take (lane_in link shard).levels.done (queue_at link.source shard v)) sent
          (all-take (IsAmong (queue_at link.source shard v)) (lane_in link shard).levels.done (queue_at link.source shard v) (all-self (queue_at link.source shard v))) among)
          (all-among (λ m. (needs_nothing link.reader (cluster_at link.source v).table (cell_at link.reader shard v) m || is_late_in m.batch.domain link) ≡ true)
          (take (lane_in link shard).levels.done (queue_at link.source shard v)) sent all_done among))

      -- where the link is found it is the reader's of the source
      ended : (o : Option Link) → find (is_link reader source) v.links ≡ o → (shard : ℕ) → shard < header.shards
          → AllByRecursion (λ sent. (needs_nothing (link_found reader source o).reader (cluster_at (link_found reader source o).source v).table (cell_at (link_found reader source o).reader shard v) sent || is_late_in sent.batch.domain (link_found reader source o)) ≡ true)
          (take (lane_in (link_found reader source o) shard).levels.done (queue_at (link_found reader source o).source shard v))
          → AllByRecursion (λ sent. (needs_nothing (link_found reader source o).reader (cluster_at (link_found reader source o).source v).table (cell_at (link_found reader source o).reader shard v) sent || false) ≡ true)
          (take (lane_in (link_found reader source o) shard).levels.done (queue_at (link_found reader source o).source shard v))
      ended None e shard below = of-link (link_found reader source None) refl refl (sym (ap (link_found reader source) e)) shard below
      ended (Some link) e shard below =
          let mine = and_parts (same_cluster link.reader reader) (same_cluster link.source source) (find-passes (is_link reader source) v.links link e) in
          of-link link (one-cluster link.reader reader mine.0) (one-cluster link.source source mine.1) (sym (ap (link_found reader source) e)) shard below

  -- a member that is late takes all that it lacks, and its levels are renewed
  pub bootstrap-kept : IsReached header lines (renewed (with_link reader source (λ link. record link { late = [] }) v) reader)
  bootstrap-kept = renewed-all header lines (with_link reader source (λ link. record link { late = [] }) v) late-ended reader
