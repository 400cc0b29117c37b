-- After the arrivals of a settlement all that was written of a domain has arrived at each of its members.
use Rattle.std.proofs.Common.{◌≡◌, ℕ, ◌<◌, Bool, true, false, ◌||◌, not, if◌then◌else◌, List, [], ◌∷◌, take, drop, Option, Some, None, ◌⊎◌, inl, inr, refl, sym, ◌∙◌, subst, ap, true≢false}
use Rattle.std.specs.Prelude.{◌==◌, find, is_some, option_to_list}
use Rattle.std.specs.List.{filter, flat_map, fold, list_any}
use Rattle.std.specs.Str.{bytes_eq}
use Rattle.std.proofs.lemmas.Bool.{and_parts, eq-eqb, eqb-true}
use Rattle.std.proofs.lemmas.List.{take-append-drop}
use Rattle.ndc_script_types.specs.WellFormed.{AreTwoClusters, IsCluster}
use Rattle.ndc_script_types.specs.declared.script.Header.{Header}
use Rattle.ndc_model_cells.specs.declared.message.Message.{Message}
use Rattle.ndc_model_cells.specs.declared.place.Place.{Place}
use Rattle.ndc_model_cells.specs.Arrival.{has_arrived}
use Rattle.ndc_model_cells.specs.Cells.{Cell, both, carries, is_learned_in, is_message_learned, is_second_learned, learned_of}
use Rattle.ndc_model_cells.specs.Places.{batch_there, is_of, place_of}
use Rattle.ndc_model_cells.specs.Writing.{same_cluster}
use Rattle.ndc_domain.specs.Clusters.{count_of}
use Rattle.ndc_domain.specs.Records.{record_of}
use Rattle.ndc_domain.specs.declared.clusters.ClusterNo.{ClusterNo}
use Rattle.ndc_domain.specs.declared.record.DomainRecord.{DomainRecord}
use Rattle.ndc_event.specs.declared.batch.Batch.{Batch}
use Rattle.ndc_event.specs.declared.name.Name.{Name}
use Rattle.ndc_model.specs.Facts.{IsReached}
use Rattle.ndc_model.specs.Fair.{IsMessageTrue, IsOwn}
use Rattle.ndc_model.specs.Moves.{Trace, all_written, by_link, due, due_arrived, jobs_done}
use Rattle.ndc_model.specs.Queues.{is_addressed, names_cluster, needs_nothing}
use Rattle.ndc_model.specs.World.{Link, World, all_clusters, cell_at, is_late_in, is_link, lane_in, link_found, queue_at}
use Rattle.ndc_model.proofs.FairLemmas.{clusters-among}
use Rattle.ndc_model.proofs.ListLemmas.{fold-keeps}
use Rattle.ndc_model_sets.specs.Paths.{is_wanted}
use Rattle.ndc_model_sets.specs.Sets.{batch_at}
use Rattle.ndc_model_sets.proofs.ForkLemmas.{among-cases}
use Rattle.ndc_model_sets.proofs.Lists.{Among, all-among, among-filter, find-among}
use Rattle.ndc_model_sets.proofs.SetLemmas.{found-has, found-key}
use Rattle.ndc_laws_reached.proofs.LaneLemmas.{below-among}
use Rattle.ndc_laws_reached.proofs.LinkLemmas.{IsLinkFit, links-fit}
use Rattle.ndc_laws_reached.proofs.ArrivalLemmas.{own-is}
use Rattle.ndc_laws_reached.proofs.BringLemmas.{HasCome, IsBrought, kept-none, kept-then}
use Rattle.ndc_laws_reached.proofs.CellLemmas.{IsKept}
use Rattle.ndc_laws_cells.proofs.FoundLemmas.{find-passes, order-finds}
use Rattle.ndc_laws_reached.proofs.ManyLemmas.{among-flat, by-shard, due-may, one-cluster}
use Rattle.ndc_laws_reached.proofs.MessageLemmas.{learned-arrived}
use Rattle.ndc_laws_reached.proofs.WrittenLemmas.{flat-among, in_order-among, names-of}
use Rattle.ndc_laws_reached.proofs.TableRound.{OneTable, fold-visit, table_at}
use Rattle.ndc_laws_reached.proofs.TrimmedLemmas.{link-there}
use Rattle.ndc_laws_reached.proofs.LateLemmas.{NoneLate}

-- all that was written of a domain has arrived at a cluster, where its record names it
abbrev pub HasAll : Header → World → ClusterNo → Type 0
HasAll header w cluster =
    (shard : ℕ) → shard < header.shards → (b : Batch) → Among b (all_written header shard w) → names_cluster cluster (record_of (table_at cluster w) b.domain) ≡ true → has_arrived b (cell_at cluster shard w) ≡ true

-- what is learned has arrived
pub learned-arrives : (header : Header) (lines : ℕ) (w : World) → IsReached header lines w → (cluster : ClusterNo) (shard : ℕ) → IsCluster header cluster → shard < header.shards → (b : Batch)
    → is_learned_in (cell_at cluster shard w) b ≡ true → has_arrived b (cell_at cluster shard w) ≡ true
learned-arrives header lines w is cluster shard known below b = by (batch_at b.key (learned_of b.domain b.workflow (cell_at cluster shard w))) refl
  where
    by : (o : Option Batch) → batch_at b.key (learned_of b.domain b.workflow (cell_at cluster shard w)) ≡ o → is_learned_in (cell_at cluster shard w) b ≡ true → has_arrived b (cell_at cluster shard w) ≡ true
    by None e h = absurd (true≢false (sym h ∙ ap is_some e))
    by (Some x) e h =
        let q = learned-arrived header lines w is shard below cluster known b.domain b.workflow x (found-has (learned_of b.domain b.workflow (cell_at cluster shard w)) b.key x e) in
        let n = names-of b.domain b.workflow x q.1 in
        let key : x.key ≡ b.key = found-key (learned_of b.domain b.workflow (cell_at cluster shard w)) b.key x e in
        let place : place_of x ≡ place_of b = (λ i. record { domain = n.0 i; workflow = n.1 i; key = key i }) in
        subst (λ (p : Place). is_some (batch_there (cell_at cluster shard w).arrived p) ≡ true) place (ap is_some (order-finds (cell_at cluster shard w).arrived x (is.fair.arrivals cluster shard known below).once q.0))

-- the batches of a message that is learned have arrived
message-arrived : (header : Header) (lines : ℕ) (w : World) → IsReached header lines w → (cluster : ClusterNo) (shard : ℕ) → IsCluster header cluster → shard < header.shards → (sent : Message) (b : Batch)
    → is_message_learned (cell_at cluster shard w) sent ≡ true → Among b (both sent) → has_arrived b (cell_at cluster shard w) ≡ true
message-arrived header lines w is cluster shard known below sent b learned among =
    let p = and_parts (is_learned_in (cell_at cluster shard w) sent.batch) (is_second_learned (cell_at cluster shard w) sent.second) learned in
    by sent.second p.0 p.1 among
  where
    by : (o : Option Batch) → is_learned_in (cell_at cluster shard w) sent.batch ≡ true → is_second_learned (cell_at cluster shard w) o ≡ true → Among b (sent.batch ∷ option_to_list o) → has_arrived b (cell_at cluster shard w) ≡ true
    by o first second (inl same) = learned-arrives header lines w is cluster shard known below b (subst (λ (x : Batch). is_learned_in (cell_at cluster shard w) x ≡ true) (sym same) first)
    by None first second (inr none) = absurd none
    by (Some s) first second (inr (inl same)) = learned-arrives header lines w is cluster shard known below b (subst (λ (x : Batch). is_learned_in (cell_at cluster shard w) x ≡ true) (sym same) second)
    by (Some s) first second (inr (inr none)) = absurd none

-- the batches of a message that has come have arrived
come-arrived : (cluster : ClusterNo) (shard : ℕ) (v : World) (sent : Message) (b : Batch) → HasCome cluster shard v sent → Among b (both sent) → has_arrived b (cell_at cluster shard v) ≡ true
come-arrived cluster shard v sent b come among = by sent.second refl among
  where
    by : (o : Option Batch) → sent.second ≡ o → Among b (sent.batch ∷ option_to_list o) → has_arrived b (cell_at cluster shard v) ≡ true
    by o e (inl same) = subst (λ (x : Batch). has_arrived x (cell_at cluster shard v) ≡ true) (sym same) come.batch
    by None e (inr none) = absurd none
    by (Some s) e (inr (inl same)) = subst (λ (x : Batch). has_arrived x (cell_at cluster shard v) ≡ true) (sym same) (come.second s e)
    by (Some s) e (inr (inr none)) = absurd none

-- the batches of a message of a queue are of one domain
pub message-domain : (header : Header) (lines : ℕ) (w : World) → IsReached header lines w → (source : ClusterNo) (shard : ℕ) → IsCluster header source → shard < header.shards → (sent : Message) (b : Batch)
    → Among sent (queue_at source shard w) → Among b (both sent) → b.domain ≡ sent.batch.domain
message-domain header lines w is source shard known below sent b there among = by sent.second refl among
  where
    all : List Batch
    all = all_written header shard w

    by : (o : Option Batch) → sent.second ≡ o → Among b (sent.batch ∷ option_to_list o) → b.domain ≡ sent.batch.domain
    by o e (inl same) = ap (λ (x : Batch). x.domain) same
    by None e (inr none) = absurd none
    by (Some s) e (inr (inr none)) = absurd none
    by (Some s) e (inr (inl same)) =
        let t = all-among (IsMessageTrue header shard w) (queue_at source shard w) sent (is.fair.messages source shard known below).written there in
        let m = (own-is (filter (is_of sent.batch.domain sent.batch.workflow) (all_written header shard w)) (all_written header shard w) sent.batch sent t.1).1 in
        let found : find (carries sent.batch) (all_written header shard w) ≡ Some s = ap (λ (x : Message). x.second) m ∙ e in
        ap (λ (x : Batch). x.domain) same
        ∙ (names-of sent.batch.domain sent.batch.workflow s (and_parts (is_of sent.batch.domain sent.batch.workflow s) (is_wanted s.carrier sent.batch) (find-passes (carries sent.batch) (all_written header shard w) s found)).0).0

-- what was written stands in a message of a cluster's queue
pub written-message : (header : Header) (w : World) (shard : ℕ) (b : Batch) → Among b (all_written header shard w)
    → (cluster : ClusterNo) × IsCluster header cluster × ((sent : Message) × Among sent (queue_at cluster shard w) × Among b (both sent))
written-message header w shard b among = by (in_order-among (flat_map (λ c. flat_map both (cell_at c shard w).written) (all_clusters header)) [] b among)
  where
    by : Among b [] ⊎ Among b (flat_map (λ c. flat_map both (cell_at c shard w).written) (all_clusters header)) → (cluster : ClusterNo) × IsCluster header cluster × ((sent : Message) × Among sent (queue_at cluster shard w) × Among b (both sent))
    by (inl none) = absurd none
    by (inr there) =
        let f = flat-among (λ c. flat_map both (cell_at c shard w).written) (all_clusters header) b there in
        let g = flat-among both (cell_at f.0 shard w).written b f.2 in
        (f.0, clusters-among (count_of header.clusters) f.0 f.1, (g.0, g.1, g.2))

-- what had arrived at any cluster has arrived still after what is brought to one
pub brought-still : (header : Header) (lines : ℕ) (cluster : ClusterNo) (w v : World) → IsBrought header lines cluster w v → (other : ClusterNo) (shard : ℕ) (b : Batch) → has_arrived b (cell_at other shard w) ≡ true
    → has_arrived b (cell_at other shard v) ≡ true
brought-still header lines cluster w v brought other shard b there = by (other.number == cluster.number) refl
  where
    own : (o : Option Batch) → batch_there (cell_at cluster shard w).arrived (place_of b) ≡ o → has_arrived b (cell_at cluster shard w) ≡ true → has_arrived b (cell_at cluster shard v) ≡ true
    own None e h = absurd (true≢false (sym h ∙ ap is_some e))
    own (Some x) e h = ap is_some (brought.grows shard (place_of b) x e)

    by : (t : Bool) → (other.number == cluster.number) ≡ t → has_arrived b (cell_at other shard v) ≡ true
    by true e =
        let same : cluster.number ≡ other.number = sym (eqb-true other.number cluster.number e) in
        subst (λ (n : ℕ). has_arrived b (cell_at (record { number = n }) shard v) ≡ true) same
        (own (batch_there (cell_at cluster shard w).arrived (place_of b)) refl (subst (λ (n : ℕ). has_arrived b (cell_at (record { number = n }) shard w) ≡ true) (sym same) there))
    by false e =
        let apart : other.number ≡ cluster.number → ⊥ = (λ same. true≢false (sym (eq-eqb other.number cluster.number same) ∙ e)) in
        subst (λ (c : Cell). has_arrived b c ≡ true) (sym (brought.others other shard apart)) there

module _ (header : Header) (lines : ℕ) (w : World) (none : NoneLate header w) (tables : OneTable header w) where
  -- what is due to a reader arrives
  module _ (reader : ClusterNo) (known : IsCluster header reader) (t : Trace) (kept : IsKept header lines w t.world) where
    abbrev u : World
    u = t.world

    abbrev v : World
    v = (due_arrived header t reader).world

    due-brought : IsBrought header lines reader t.world (due_arrived header t reader).world
        × ((shard : ℕ) (sent : Message) → shard < header.shards → Among sent (by_link reader (due t.world) t.world.links shard) → HasCome reader shard (due_arrived header t reader).world sent)
    unfolding due_arrived jobs_done
    due-brought = by-shard header lines reader known (by_link reader (due t.world) t.world.links) t.world kept.reached (due-may header lines t.world kept.reached reader)

    -- an entry of another cluster's queue that is addressed to the reader has come
    entry-came : (source : ClusterNo) → AreTwoClusters header reader source → (shard : ℕ) → shard < header.shards → (sent : Message) → Among sent (queue_at source shard u) → is_addressed reader (table_at source u) sent ≡ true
        → (b : Batch) → Among b (both sent) → has_arrived b (cell_at reader shard v) ≡ true
    entry-came source two shard below sent there addressed b among = of-link found.0 found.1
      where
        found : (link : Link) × (find (is_link reader source) u.links ≡ Some link)
        found = link-there header u reader source kept.reached.shaped two

        of-link : (link : Link) → find (is_link reader source) u.links ≡ Some link → has_arrived b (cell_at reader shard v) ≡ true
        of-link link e = cases (among-cases sent (take (lane_in link shard).levels.done (queue_at source shard u)) (drop (lane_in link shard).levels.done (queue_at source shard u))
            (subst (λ (q : List Message). Among sent q) (sym (take-append-drop (lane_in link shard).levels.done (queue_at source shard u))) there))
          where
            stands : Among link u.links
            stands = find-among (is_link reader source) u.links link e

            fit : IsLinkFit header u link
            fit = all-among (IsLinkFit header u) u.links link (links-fit header lines u kept.reached) stands

            mine : (same_cluster link.reader reader ≡ true) × (same_cluster link.source source ≡ true)
            mine = and_parts (same_cluster link.reader reader) (same_cluster link.source source) (find-passes (is_link reader source) u.links link e)

            late : link.late ≡ []
            late = sym (ap (λ (o : Option Link). (link_found reader source o).late) (ap (find (is_link reader source)) (sym kept.links) ∙ e)) ∙ none reader source two

            -- a message that is done is learned
            done : Among sent (take (lane_in link shard).levels.done (queue_at source shard u)) → is_message_learned (cell_at reader shard u) sent ≡ true
            done front =
                pass (is_message_learned (cell_at reader shard u) sent)
                (subst (λ (a : Bool). ((is_message_learned (cell_at reader shard u) sent || not a) || is_late_in sent.batch.domain link) ≡ true) addressed
                (subst (λ (r : ClusterNo). (needs_nothing r (table_at source u) (cell_at r shard u) sent || is_late_in sent.batch.domain link) ≡ true) (one-cluster link.reader reader mine.0)
                (subst (λ (s : ClusterNo). (needs_nothing link.reader (table_at s u) (cell_at link.reader shard u) sent || is_late_in sent.batch.domain link) ≡ true) (one-cluster link.source source mine.1)
                (all-among (λ m. (needs_nothing link.reader (table_at link.source u) (cell_at link.reader shard u) m || is_late_in m.batch.domain link) ≡ true) (take (lane_in link shard).levels.done (queue_at link.source shard u)) sent
                (fit.lanes shard below).is_true.done
                (subst (λ (s : ClusterNo). Among sent (take (lane_in link shard).levels.done (queue_at s shard u))) (sym (one-cluster link.source source mine.1)) front)))))
              where
                pass : (learned : Bool) → ((learned || false) || is_late_in sent.batch.domain link) ≡ true → learned ≡ true
                pass true h = refl
                pass false h = absurd (true≢false (sym h ∙ ap (λ (names : List Name). list_any (λ one. bytes_eq one sent.batch.domain) names) late))

            cases : Among sent (take (lane_in link shard).levels.done (queue_at source shard u)) ⊎ Among sent (drop (lane_in link shard).levels.done (queue_at source shard u)) → has_arrived b (cell_at reader shard v) ≡ true
            cases (inl front) = brought-still header lines reader u v due-brought.0 reader shard b (message-arrived header lines u kept.reached reader shard known below sent b (done front) among)
            cases (inr rest) = come-arrived reader shard v sent b (due-brought.1 shard sent below is-due) among
              where
                there-due : Among sent (due u shard link)
                there-due =
                    subst (λ (r : ClusterNo). Among sent (filter (is_addressed r (table_at link.source u)) (drop (lane_in link shard).levels.done (queue_at link.source shard u)))) (sym (one-cluster link.reader reader mine.0))
                    (subst (λ (s : ClusterNo). Among sent (filter (is_addressed reader (table_at s u)) (drop (lane_in link shard).levels.done (queue_at s shard u)))) (sym (one-cluster link.source source mine.1))
                    (among-filter (is_addressed reader (table_at source u)) (drop (lane_in link shard).levels.done (queue_at source shard u)) sent addressed rest))

                is-due : Among sent (by_link reader (due u) u.links shard)
                is-due =
                    among-flat (λ l. if same_cluster l.reader reader then due u shard l else []) u.links link sent stands
                    (subst (λ (c : Bool). Among sent (if c then due u shard link else [])) (sym mine.0) there-due)

    -- so all that was written of its domains has arrived
    has-all : HasAll header v reader
    has-all shard below b written named = from (written-message header u shard b (subst (λ (f : ℕ → List Batch). Among b (f shard)) due-brought.0.kept.batches written))
      where
        from : (cluster : ClusterNo) × IsCluster header cluster × ((sent : Message) × Among sent (queue_at cluster shard u) × Among b (both sent)) → has_arrived b (cell_at reader shard v) ≡ true
        from f = by (reader.number == f.0.number) refl
          where
            own : reader.number ≡ f.0.number → has_arrived b (cell_at reader shard v) ≡ true
            own same =
                let there : Among b (flat_map both (queue_at reader shard u)) = subst (λ (n : ℕ). Among b (flat_map both (queue_at (record { number = n }) shard u))) (sym same) (among-flat both (queue_at f.0 shard u) f.2.0 b f.2.1 f.2.2) in
                let mine = all-among (IsOwn header reader shard (table_at reader u) (cell_at reader shard u)) (flat_map both (queue_at reader shard u)) b (kept.reached.fair.writers reader shard known below) there in
                brought-still header lines reader u v due-brought.0 reader shard b (learned-arrives header lines u kept.reached reader shard known below b (ap is_some mine.learned))

            by : (c : Bool) → (reader.number == f.0.number) ≡ c → has_arrived b (cell_at reader shard v) ≡ true
            by true e = own (eqb-true reader.number f.0.number e)
            by false e =
                entry-came f.0 (record { first = known; second = f.1; differ = λ same. true≢false (sym (eq-eqb reader.number f.0.number same) ∙ e) }) shard below f.2.0 f.2.1 addressed b f.2.2
              where
                one : table_at reader v ≡ table_at f.0 u
                one = (λ i. due-brought.0.kept.tables i reader) ∙ (λ i. kept.tables i reader) ∙ tables reader f.0 known f.1 ∙ (λ i. sym kept.tables i f.0)

                addressed : is_addressed reader (table_at f.0 u) f.2.0 ≡ true
                addressed =
                    subst (λ (d : Name). names_cluster reader (record_of (table_at f.0 u) d) ≡ true) (message-domain header lines u kept.reached f.0 shard f.1 below f.2.0 b f.2.1 f.2.2)
                    (subst (λ (table : List DomainRecord). names_cluster reader (record_of table b.domain) ≡ true) one named)

  -- after what is due to another cluster all has arrived still
  all-stays : (reader other : ClusterNo) → IsCluster header other → (t : Trace) → (kept : IsKept header lines w t.world) → HasAll header t.world reader → HasAll header (due_arrived header t other).world reader
  all-stays reader other also t kept has shard below b written named =
      let brought = (due-brought other also t kept).0 in
      brought-still header lines other t.world (due_arrived header t other).world brought reader shard b
      (has shard below b (subst (λ (f : ℕ → List Batch). Among b (f shard)) brought.kept.batches written)
      (subst (λ (f : ClusterNo → List DomainRecord). names_cluster reader (record_of (f reader) b.domain) ≡ true) brought.kept.tables named))

  -- after all that is due
  pub dues-came : IsReached header lines w → (t : Trace) → t.world ≡ w → IsKept header lines w (fold (due_arrived header) t (all_clusters header)).world
      × ((cluster : ClusterNo) → IsCluster header cluster → HasAll header (fold (due_arrived header) t (all_clusters header)).world cluster)
  dues-came is t same = (
    (fold-keeps (λ (x : Trace). IsKept header lines w x.world) (due_arrived header) (all_clusters header)
        (λ x reader among before. step x reader (clusters-among (count_of header.clusters) reader among) before) t start),
    λ cluster known. (fold-visit (λ (x : Trace). IsKept header lines w x.world) (λ (x : Trace). HasAll header x.world cluster) (due_arrived header) (all_clusters header) cluster (below-among (count_of header.clusters) cluster known)
        (λ x reader among before. let there = clusters-among (count_of header.clusters) reader among in (step x reader there before, λ has. all-stays cluster reader there x before has))
        (λ x before. has-all cluster known x before) t start).1,
  )
    where
      start : IsKept header lines w t.world
      start = subst (IsKept header lines w) (sym same) (kept-none header lines w is)

      step : (x : Trace) (reader : ClusterNo) → IsCluster header reader → IsKept header lines w x.world → IsKept header lines w (due_arrived header x reader).world
      step x reader known before = kept-then header lines w x.world (due_arrived header x reader).world before (due-brought reader known x before).0.kept
