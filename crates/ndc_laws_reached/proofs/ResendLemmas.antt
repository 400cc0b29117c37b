-- After a resend all that has arrived at the cluster is learned.
use Rattle.std.proofs.Common.{◌≡◌, ℕ, ◌<◌, Bool, true, false, cond, not, List, [], ◌∷◌, map, Option, Some, None, ◌⊎◌, inl, inr, refl, sym, ◌∙◌, subst, ap, arith, true≢false}
use Rattle.std.specs.Prelude.{find, is_some, option_to_list}
use Rattle.std.specs.List.{filter, flat_map}
use Rattle.std.proofs.lemmas.Bool.{and_from, and_parts}
use Rattle.std.proofs.lemmas.List.{get_or-set_same}
use Rattle.std.proofs.lemmas.Slice.Eq.{bytes_eq-Decides}
use Rattle.std.specs.Str.{bytes_eq}
use Rattle.ndc_script_types.specs.WellFormed.{IsCluster}
use Rattle.ndc_script_types.specs.declared.script.Header.{Header}
use Rattle.ndc_model_cells.specs.declared.job.ShardJob.{ShardJob}
use Rattle.ndc_model_cells.specs.declared.message.Message.{Message}
use Rattle.ndc_model_cells.specs.Arrival.{has_arrived}
use Rattle.ndc_model_cells.specs.Cells.{Cell, arrived_of, both, carries, is_learned_in, learned_of, message_of, own_message, put_off_in}
use Rattle.ndc_model_cells.specs.Jobs.{cell_for, cells_after}
use Rattle.ndc_model_cells.specs.Places.{batch_there, in_order, is_of, place_of}
use Rattle.ndc_model_cells.proofs.PlaceLemmas.{set_of_workflow}
use Rattle.ndc_domain.specs.declared.clusters.ClusterNo.{ClusterNo}
use Rattle.ndc_event.specs.declared.batch.Batch.{Batch}
use Rattle.ndc_event.specs.declared.key.BatchKey.{BatchKey}
use Rattle.ndc_event.specs.declared.name.Name.{Name}
use Rattle.ndc_model.specs.Facts.{IsReached}
use Rattle.ndc_model.specs.Moves.{all_arrive, all_written, ancestors_of, arrives, jobs_done, missing_ancestors, renewed, resent, sent_again}
use Rattle.ndc_model.specs.World.{Cluster, World, cell_at, cluster_at, home_at, new_cluster, shards_of}
use Rattle.ndc_model.proofs.ListLemmas.{all-flat, all-map, filter-none}
use Rattle.ndc_laws_cells.proofs.Lists.{among-is}
use Rattle.ndc_model_sets.specs.Learned.{IsClosed, has_key}
use Rattle.ndc_model_sets.specs.Paths.{is_wanted}
use Rattle.ndc_model_sets.specs.Sets.{Has, IsSet, batch_at, earlier, earlier_of}
use Rattle.ndc_model_sets.specs.Sound.{IsSound}
use Rattle.ndc_model_sets.proofs.BranchLemmas.{among-has, has-among}
use Rattle.ndc_model_sets.proofs.KeyLemmas.{key_eq-self}
use Rattle.ndc_model_sets.proofs.LearnedLemmas.{closed_whole, learned_closed}
use Rattle.ndc_model_sets.proofs.Lists.{Among, among-filter, among-filter_map, filter-among, filter_map-among, find-among, find-only}
use Rattle.ndc_model_sets.proofs.SetLemmas.{found-has, found-key}
use Rattle.ndc_model_sets.proofs.SoundLemmas.{parent-alone}
use Rattle.ndc_laws_reached.proofs.ArrivalLemmas.{none-is, own-is}
use Rattle.ndc_laws_reached.proofs.BootstrapLemmas.{come-itself, learned-itself}
use Rattle.ndc_laws_reached.proofs.BringLemmas.{HasCome, IsBrought, world_after}
use Rattle.ndc_laws_cells.proofs.FoundLemmas.{find-passes, order-finds}
use Rattle.ndc_laws_reached.proofs.ManyLemmas.{among-flat, by-shard}
use Rattle.ndc_laws_reached.proofs.MessageLemmas.{again-may, learned-arrived}
use Rattle.ndc_laws_reached.proofs.WrittenLemmas.{arrived-written, carried-alone, cell-is, flat-among, has-written, in_order-among, names-of, one-carried, one-written, own-names, sound-of, wanted-some}
use Rattle.ndc_laws_reached.proofs.ComeLemmas.{Arrives, IsBroughtBy, among-order, job-message, jobs-from}
use Rattle.ndc_laws_reached.proofs.WayLemmas.{Follows, way-follows, way-inside}

module _ (header : Header) (lines : ℕ) (reader : ClusterNo) (known : IsCluster header reader) (w : World) (is : IsReached header lines w) (shard : ℕ) (below : shard < header.shards) where
  abbrev all : List Batch
  all = all_written header shard w

  abbrev old : Cell
  old = cell_at reader shard w

  abbrev missing : List Batch
  missing = missing_ancestors (all_written header shard w) (cell_at reader shard w)

  abbrev jobs : List ShardJob
  jobs = all_arrive (sent_again header reader w) (shards_of header)

  abbrev v : World
  v = world_after header reader (all_arrive (sent_again header reader w) (shards_of header)) w

  abbrev new : Cell
  new = cell_at reader shard (world_after header reader (all_arrive (sent_again header reader w) (shards_of header)) w)

  came : IsBrought header lines reader w v × ((place : ℕ) (sent : Message) → place < header.shards → Among sent (sent_again header reader w place) → HasCome reader place v sent)
  came = by-shard header lines reader known (sent_again header reader w) w is (λ place less. again-may header lines w is place less reader known)

  -- what had arrived has arrived still
  still : (b : Batch) → has_arrived b old ≡ true → has_arrived b new ≡ true
  still b = by (batch_there old.arrived (place_of b)) refl
    where
      by : (o : Option Batch) → batch_there old.arrived (place_of b) ≡ o → has_arrived b old ≡ true → has_arrived b new ≡ true
      by None e h = absurd (true≢false (sym (sym (ap is_some e) ∙ h)))
      by (Some x) e h = ap is_some (came.0.grows shard (place_of b) x e)

  -- the batches of a workflow are a sound set
  module _ (p : Batch) (written : Among p all) where
    abbrev own : List Batch
    own = filter (is_of p.domain p.workflow) all

    own-sound : IsSound own
    own-sound = sound-of header lines w is shard below p written

    own-has : Has own p
    own-has = among-has own p own-sound.set.ordered (among-filter (is_of p.domain p.workflow) all p (own-names p) written)

    inside : (x : Batch) → Among x (ancestors_of all p) → Among x all × (is_of p.domain p.workflow x ≡ true)
    inside x among = let f = filter-among (is_of p.domain p.workflow) all x (way-inside p own own-sound.set own-sound.closed own-has x among) in (f.1, f.0)

    follows : (x : Batch) → (x ≡ p) ⊎ Among x (ancestors_of all p) → (earlier x ≡ None) ⊎ Follows (ancestors_of all p) x
    follows x on = way-follows p own own-sound.set own-sound.closed own-has x on

  -- a batch that was put off had arrived
  put-off-written : (p : Batch) → Among p (put_off_in old) → Among p all
  put-off-written p among = arrived-written header lines w is shard below reader known p ((filter-among (λ b. not (is_learned_in old b)) old.arrived p among).1)

  -- the message of an ancestor that is missing has come, where it is not carried
  message-came : (x : Batch) → x.carrier ≡ None → Among x missing → HasCome reader shard v (message_of (filter (is_of x.domain x.workflow) all) all x)
  message-came x alone among =
      came.1 shard (message_of (filter (is_of x.domain x.workflow) all) all x) below
      (among-filter_map (λ b. own_message (filter (is_of b.domain b.workflow) all) all b) missing x (message_of (filter (is_of x.domain x.workflow) all) all x)
      (ap (λ (o : Option BatchKey). cond (is_some o) None (Some (message_of (filter (is_of x.domain x.workflow) all) all x))) alone) among)

  -- an ancestor of what was put off has come
  module _ (p : Batch) (put_off : Among p (put_off_in old)) where
    -- one that had not arrived is among those that are missing
    is-missing : (x : Batch) → Among x (ancestors_of all p) → has_arrived x old ≡ false → Among x missing
    is-missing x among fails =
        among-filter (λ b. not (has_arrived b old)) (in_order (flat_map (ancestors_of all) (put_off_in old))) x (ap not fails)
        (among-order (flat_map (ancestors_of all) (put_off_in old)) x one (among-flat (ancestors_of all) (put_off_in old) p x put_off among))
      where
        one : (y : Batch) → Among y (flat_map (ancestors_of all) (put_off_in old)) → place_of y ≡ place_of x → y ≡ x
        one y there same =
            let f = flat-among (ancestors_of all) (put_off_in old) y there in
            one-written header lines w is shard below y x (inside f.0 (put-off-written f.0 f.1) y f.2).0 (inside p (put-off-written p put_off) x among).0 same

    -- one that is carried comes with the batch that carries it
    carried-came : (x y : Batch) → Among x (ancestors_of all p) → Among y (ancestors_of all p) → carries y x ≡ true → has_arrived x old ≡ false → has_arrived x new ≡ true
    carried-came x y among carrier carries_it fails = by (has_arrived y old) refl
      where
        x_written : Among x all
        x_written = (inside p (put-off-written p put_off) x among).0

        y_written : Among y all
        y_written = (inside p (put-off-written p put_off) y carrier).0

        alone : is_some y.carrier ≡ false
        alone = test (is_some y.carrier) refl
          where
            test : (t : Bool) → is_some y.carrier ≡ t → t ≡ false
            test true e = absurd (carried-alone header lines w is shard below y x y_written x_written e carries_it)
            test false e = refl

        second : find (carries y) all ≡ Some x
        second = find-only (carries y) all x carries_it x_written (λ z z_written cz. one-carried header lines w is shard below y z x y_written z_written x_written cz carries_it)

        by : (t : Bool) → has_arrived y old ≡ t → has_arrived x new ≡ true
        by true e = absurd (true≢false (sym e ∙ (is.fair.arrivals reader shard known below).carried y x (among-is all y y_written) (among-is all x x_written) carries_it ∙ fails))
        by false e = (message-came y (none-is y.carrier alone) (is-missing y carrier e)).second x second

    come : (x : Batch) → Among x (ancestors_of all p) → has_arrived x new ≡ true
    come x among = by (has_arrived x old) refl
      where
        x_inside : Among x all × (is_of p.domain p.workflow x ≡ true)
        x_inside = inside p (put-off-written p put_off) x among

        of-carrier : (o : Option BatchKey) → x.carrier ≡ o → has_arrived x old ≡ false → has_arrived x new ≡ true
        of-carrier None e fails = (message-came x e (is-missing x among fails)).batch
        of-carrier (Some key) e fails = from (follows p (put-off-written p put_off) x (inr among))
          where
            first : (o : Option BatchKey) → x.parent ≡ o → earlier_of o x.carrier ≡ Some key
            first None at = e
            first (Some parent) at = absurd (parent-alone x parent key ((is.fair.writing.sound x.domain x.workflow).faultless x (has-written header lines w is shard below x x_inside.0)) at e)

            from : (earlier x ≡ None) ⊎ Follows (ancestors_of all p) x → has_arrived x new ≡ true
            from (inl none) = absurd (let both_are : None ≡ Some key = sym none ∙ first x.parent refl in cc)
            from (inr found) =
                let y_inside = inside p (put-off-written p put_off) found.0 found.1 in
                let n = names-of p.domain p.workflow x x_inside.1 in
                let m = names-of p.domain p.workflow found.0 y_inside.1 in
                let mine : is_of found.0.domain found.0.workflow x ≡ true =
                and_from (bytes_eq x.domain found.0.domain) (bytes_eq x.workflow found.0.workflow) ((bytes_eq-Decides x.domain found.0.domain).1 (n.0 ∙ sym m.0)) ((bytes_eq-Decides x.workflow found.0.workflow).1 (n.1 ∙ sym m.1)) in
                let keys : x.carrier ≡ Some found.0.key = e ∙ sym (first x.parent refl) ∙ found.2 in
                let wanted : is_wanted x.carrier found.0 ≡ true = subst (λ (o : Option BatchKey). is_wanted o found.0 ≡ true) (sym keys) (key_eq-self found.0.key) in
                carried-came x found.0 among found.1 (and_from (is_of found.0.domain found.0.workflow x) (is_wanted x.carrier found.0) mine wanted) fails

        by : (t : Bool) → has_arrived x old ≡ t → has_arrived x new ≡ true
        by true e = still x e
        by false e = of-carrier x.carrier refl e

  -- the earlier key of a batch is none, or that of a batch of its workflow that has arrived
  abbrev EarlierCame : Batch → Type 0
  EarlierCame b = (earlier b ≡ None) ⊎ ((z : Batch) × Among z all × (is_of b.domain b.workflow z ≡ true) × (earlier b ≡ Some z.key) × (has_arrived z new ≡ true))

  -- of what follows on a way
  way-came : (p : Batch) → Among p (put_off_in old) → (b : Batch) → is_of p.domain p.workflow b ≡ true → (earlier b ≡ None) ⊎ Follows (ancestors_of all p) b → EarlierCame b
  way-came p put_off b mine (inl none) = inl none
  way-came p put_off b mine (inr found) =
      let y_inside = inside p (put-off-written p put_off) found.0 found.1 in
      let n = names-of p.domain p.workflow b mine in
      let m = names-of p.domain p.workflow found.0 y_inside.1 in
      inr (
        found.0,
        y_inside.0,
        and_from (bytes_eq found.0.domain b.domain) (bytes_eq found.0.workflow b.workflow) ((bytes_eq-Decides found.0.domain b.domain).1 (m.0 ∙ sym n.0)) ((bytes_eq-Decides found.0.workflow b.workflow).1 (m.1 ∙ sym n.1)),
        found.2,
        come p put_off found.0 found.1,
      )

  -- of what had arrived
  arrived-came : (b : Batch) → Among b old.arrived → EarlierCame b
  arrived-came b there = by (is_learned_in old b) refl
    where
      from-learned : (o : Option BatchKey) → earlier b ≡ o → has_key o (learned_of b.domain b.workflow old) ≡ true → EarlierCame b
      from-learned None e h = inl e
      from-learned (Some key) e h = found (batch_at key (learned_of b.domain b.workflow old)) refl h
        where
          found : (o : Option Batch) → batch_at key (learned_of b.domain b.workflow old) ≡ o → is_some o ≡ true → EarlierCame b
          found None at h = absurd (true≢false (sym h))
          found (Some z) at h =
              let q = learned-arrived header lines w is shard below reader known b.domain b.workflow z (found-has (learned_of b.domain b.workflow old) key z at) in
              inr (
                z,
                arrived-written header lines w is shard below reader known z q.0,
                q.1,
                e ∙ ap (λ (k : BatchKey). Some k) (sym (found-key (learned_of b.domain b.workflow old) key z at)),
                still z (ap is_some (order-finds old.arrived z (is.fair.arrivals reader shard known below).once q.0)),
              )

      by : (t : Bool) → is_learned_in old b ≡ t → EarlierCame b
      by true e =
          from-learned (earlier b) refl
          ((learned_closed (arrived_of b.domain b.workflow old) (set_of_workflow b.domain b.workflow old (cell-is header lines w is shard below reader known))).1 b (learned-itself header lines w is shard below reader known b there e))
      by false e =
          let put_off : Among b (put_off_in old) = among-filter (λ x. not (is_learned_in old x)) old.arrived b (ap not e) there in
          way-came b put_off b (own-names b) (follows b (put-off-written b put_off) b (inl refl))

  -- of what was sent
  sent-came : (sent : Message) → Among sent (sent_again header reader w shard) → (b : Batch) → Among b (both sent) → EarlierCame b
  sent-came sent among b of_it =
      let m = filter_map-among (λ x. own_message (filter (is_of x.domain x.workflow) all) all x) missing sent among in
      let f = filter-among (λ x. not (has_arrived x old)) (in_order (flat_map (ancestors_of all) (put_off_in old))) m.0 m.1 in
      from m.0 (own-is (filter (is_of m.0.domain m.0.workflow) all) all m.0 sent m.2).1 (in_order-among (flat_map (ancestors_of all) (put_off_in old)) [] m.0 f.1)
    where
      from : (x : Batch) → message_of (filter (is_of x.domain x.workflow) all) all x ≡ sent → Among x [] ⊎ Among x (flat_map (ancestors_of all) (put_off_in old)) → EarlierCame b
      from x same (inl none) = absurd none
      from x same (inr there) = on (flat-among (ancestors_of all) (put_off_in old) x there)
        where
          second : (p : Batch) → Among p (put_off_in old) → Among x (ancestors_of all p) → find (carries x) all ≡ Some b → EarlierCame b
          second p put_off on_way e =
              let c = and_parts (is_of x.domain x.workflow b) (is_wanted b.carrier x) (find-passes (carries x) all b e) in
              let written : Among b all = find-among (carries x) all b e in
              let n = names-of x.domain x.workflow b c.0 in
              let key : b.carrier ≡ Some x.key = wanted-some b.carrier x c.1 in
              inr (
                x,
                (inside p (put-off-written p put_off) x on_way).0,
                and_from (bytes_eq x.domain b.domain) (bytes_eq x.workflow b.workflow) ((bytes_eq-Decides x.domain b.domain).1 (sym n.0)) ((bytes_eq-Decides x.workflow b.workflow).1 (sym n.1)),
                first written key b.parent refl,
                come p put_off x on_way,
              )
            where
              first : Among b all → b.carrier ≡ Some x.key → (o : Option BatchKey) → b.parent ≡ o → earlier_of o b.carrier ≡ Some x.key
              first written e None at = e
              first written e (Some parent) at = absurd (parent-alone b parent x.key ((is.fair.writing.sound b.domain b.workflow).faultless b (has-written header lines w is shard below b written)) at e)

          part : (p : Batch) → Among p (put_off_in old) → Among x (ancestors_of all p) → (o : Option Batch) → find (carries x) all ≡ o → Among b (x ∷ option_to_list o) → EarlierCame b
          part p put_off on_way o e (inl itself) =
              subst EarlierCame (sym itself) (way-came p put_off x (inside p (put-off-written p put_off) x on_way).1 (follows p (put-off-written p put_off) x (inr on_way)))
          part p put_off on_way None e (inr none) = absurd none
          part p put_off on_way (Some s) e (inr (inl same_second)) = second p put_off on_way (e ∙ ap (λ (y : Batch). Some y) (sym same_second))
          part p put_off on_way (Some s) e (inr (inr none)) = absurd none

          on : (p : Batch) × Among p (put_off_in old) × Among x (ancestors_of all p) → EarlierCame b
          on f = part f.0 f.1 f.2 (find (carries x) all) refl (subst (λ (m : Message). Among b (both m)) (sym same) of_it)

  -- the cell after the jobs
  new-cell : new ≡ cell_for shard (cells_after (home_at header reader w) jobs (cluster_at reader w).cells)
  new-cell =
      ap (λ (c : Cluster). cell_for shard c.cells)
      (get_or-set_same w.clusters reader.number (record (cluster_at reader w) { cells = cells_after (home_at header reader w) jobs (cluster_at reader w).cells }) (new_cluster 0) (omega (arith, known, is.shaped.clusters)))

  -- each batch that has arrived
  each-came : (b : Batch) → Among b new.arrived → EarlierCame b
  each-came b among =
      by (jobs-from (home_at header reader w) shard jobs (cluster_at reader w).cells b
      (all-flat Arrives (λ s. map (arrives s) (sent_again header reader w s)) (shards_of header) (λ s there. all-map Arrives (arrives s) (sent_again header reader w s) (λ sent. (sent, refl))))
      (subst (λ (c : Cell). Among b c.arrived) new-cell among))
    where
      by : Among b old.arrived ⊎ IsBroughtBy shard jobs b → EarlierCame b
      by (inl there) = arrived-came b there
      by (inr found) =
          sent-came found.3.0 (subst (λ (n : ℕ). Among found.3.0 (sent_again header reader w n)) found.2 (job-message (sent_again header reader w) (shards_of header) found.0 found.3.0 found.1 found.3.1)) b found.3.2

  reached : IsReached header lines v
  reached = came.0.kept.reached

  same-written : all_written header shard v ≡ all
  same-written = ap (λ (f : ℕ → List Batch). f shard) came.0.kept.batches

  -- what has arrived of a workflow is closed
  closed : (domain workflow : Name) → IsClosed (arrived_of domain workflow new)
  closed domain workflow b has =
      let f = filter-among (is_of domain workflow) new.arrived b (has-among (arrived_of domain workflow new) b has) in
      from f.0 (each-came b f.1)
    where
      set : IsSet (arrived_of domain workflow new)
      set = set_of_workflow domain workflow new (cell-is header lines v reached shard below reader known)

      from : is_of domain workflow b ≡ true → EarlierCame b → has_key (earlier b) (arrived_of domain workflow new) ≡ true
      from mine (inl none) = ap (λ (o : Option BatchKey). has_key o (arrived_of domain workflow new)) none
      from mine (inr found) =
          let n = names-of domain workflow b mine in
          let m = names-of b.domain b.workflow found.0 found.2 in
          let own_z : is_of domain workflow found.0 ≡ true =
          and_from (bytes_eq found.0.domain domain) (bytes_eq found.0.workflow workflow) ((bytes_eq-Decides found.0.domain domain).1 (m.0 ∙ n.0)) ((bytes_eq-Decides found.0.workflow workflow).1 (m.1 ∙ n.1)) in
          let there : Among found.0 new.arrived = come-itself header lines v reached shard below reader known found.0 (subst (λ (l : List Batch). Among found.0 l) (sym same-written) found.1) found.4 in
          let has_z : Has (arrived_of domain workflow new) found.0 = among-has (arrived_of domain workflow new) found.0 set.ordered (among-filter (is_of domain workflow) new.arrived found.0 own_z there) in
          ap (λ (o : Option BatchKey). has_key o (arrived_of domain workflow new)) found.3 ∙ ap is_some has_z

  -- so all of it is learned
  none-off : put_off_in new ≡ []
  none-off = filter-none (λ b. not (is_learned_in new b)) new.arrived (λ b among. ap not (each b among))
    where
      each : (b : Batch) → Among b new.arrived → is_learned_in new b ≡ true
      each b among =
          let set = set_of_workflow b.domain b.workflow new (cell-is header lines v reached shard below reader known) in
          ap (λ (list : List Batch). has_key (Some b.key) list) (closed_whole (arrived_of b.domain b.workflow new) set (closed b.domain b.workflow))
          ∙ ap is_some (among-has (arrived_of b.domain b.workflow new) b set.ordered (among-filter (is_of b.domain b.workflow) new.arrived b (own-names b) among))

-- after a resend nothing is put off
pub resent_whole : (header : Header) (lines : ℕ) (reader : ClusterNo) (w : World) (shard : ℕ) → IsCluster header reader → IsReached header lines w → shard < header.shards
    → put_off_in (cell_at reader shard (resent header reader w).world) ≡ []
unfolding resent jobs_done renewed
resent_whole header lines reader w shard known is below = none-off header lines reader known w is shard below
