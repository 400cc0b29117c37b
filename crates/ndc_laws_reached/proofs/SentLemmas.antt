-- An entry that is written keeps messages true: those that were written, the new one, and what waits.
use Rattle.std.proofs.Common.{◌≡◌, ℕ, Bool, true, false, cond, is_some, not, List, [], ◌∷◌, ◌⊎◌, inl, inr, Option, Some, None, refl, sym, ◌∙◌, subst, ap, IfSome, if◌then◌else◌, option_to_list}
use Rattle.std.specs.List.{AllByRecursion, cons_option, filter, filter_map}
use Rattle.std.specs.Prelude.{find}
use Rattle.std.proofs.lemmas.Bool.{and_from}
use Rattle.ndc_script_types.specs.WellFormed.{IsCluster}
use Rattle.ndc_model_cells.specs.declared.message.Message.{Message}
use Rattle.ndc_model_cells.specs.Cells.{Cell, arrived_of, carries, is_learned_in, learned_of, message_of, own_message, put_off_in}
use Rattle.ndc_model_cells.specs.Places.{AreInOrder, batch_there, is_of, place_of}
use Rattle.ndc_model_cells.specs.Shards.{shard_of}
use Rattle.ndc_model_cells.specs.Writing.{entry_message, with_batches, with_written}
use Rattle.ndc_model_cells.proofs.CellLemmas.{filter-both}
use Rattle.ndc_domain.specs.declared.clusters.ClusterNo.{ClusterNo}
use Rattle.ndc_event.specs.declared.batch.Batch.{Batch}
use Rattle.ndc_event.specs.declared.key.BatchKey.{BatchKey}
use Rattle.ndc_event.specs.declared.name.Name.{Name}
use Rattle.ndc_model.specs.Fair.{AreMessagesTrue, MessagesAreTrue, written_of}
use Rattle.ndc_model.specs.Moves.{all_written, messages_among}
use Rattle.ndc_model.specs.World.{World, cell_at}
use Rattle.ndc_model.proofs.ListLemmas.{all-append, all-weaker}
use Rattle.ndc_model_sets.specs.Learned.{IsPart, has_key}
use Rattle.ndc_model_sets.specs.Paths.{events_to, is_wanted, path_to, versions_of}
use Rattle.ndc_model_sets.specs.Sets.{Has, IsSet, arrived, earlier, earlier_of}
use Rattle.ndc_model_sets.specs.Sound.{IsSound}
use Rattle.ndc_model_sets.proofs.ArrivalLemmas.{is_there, stays}
use Rattle.ndc_model_sets.proofs.BranchLemmas.{among-has, has-among}
use Rattle.ndc_model_sets.proofs.KeyLemmas.{key_eq-self}
use Rattle.ndc_model_sets.proofs.LearnedLemmas.{learned-reaches, learned_closed, reaches-has}
use Rattle.ndc_model_sets.proofs.Lists.{Among, among-filter, filter-among, find-only}
use Rattle.ndc_model_sets.proofs.PathLemmas.{part-path}
use Rattle.ndc_model_sets.proofs.SoundLemmas.{old-path}
use Rattle.ndc_state.specs.Replay.{history_of}
use Rattle.ndc_laws_reached.proofs.ArrivalLemmas.{key-more}
use Rattle.ndc_laws_cells.proofs.FoundLemmas.{order-finds, there-among}
use Rattle.ndc_laws_reached.proofs.WrittenLemmas.{arrived-written, has-written, names-of, own-names}
use Rattle.ndc_laws_reached.proofs.FitLemmas.{among-more, carried-cases, new-among, place-new}
use Rattle.ndc_laws_reached.proofs.HeldLemmas.{held-set, held-within, new-fit, news-learned}
use Rattle.ndc_laws_reached.proofs.JoinedLemmas.{joined-sound, never-true}
use Rattle.ndc_laws_reached.proofs.LandLemmas.{Write, all-here, are-new, behind, by-cell, here, here-ordered, second-other, second-own, shard-cases}
use Rattle.ndc_laws_reached.proofs.OffLemmas.{off-same}
use Rattle.ndc_laws_cells.proofs.PairLemmas.{AreNew, entry_with, find-more, joined, more, more-new, more-either, more-own, more-stays, news}
use Rattle.ndc_laws_reached.proofs.WroteLemmas.{old-sound}
use Rattle.ndc_model_cells.proofs.PlaceLemmas.{set_of_workflow}
use Rattle.ndc_laws_cells.specs.Adding.{Added}
use Rattle.ndc_laws_cells.specs.Entries.{IsSecond}

-- paths of a sound set stay, with an entry more
joined-path : (all : List Batch) (b : Batch) (second : Option Batch) → IsSound all → Added all b → IfSome second (IsSecond all b) → has_key (earlier b) all ≡ true
    → (x : Batch) → Has all x → path_to x.key (joined b second all) ≡ path_to x.key all
joined-path all b None sound first other reached x has = old-path all b sound first.fresh (first.sound.faultless b (is_there b all sound.set.ordered first.fresh)) reached x has
joined-path all b (Some s) sound first other reached x has =
    old-path (arrived b all) s first.sound other.added.fresh (other.added.sound.faultless s (is_there s (arrived b all) first.sound.set.ordered other.added.fresh))
    (ap (λ o. has_key o (arrived b all)) (ap (λ o. earlier_of o s.carrier) other.parent ∙ other.carrier) ∙ ap is_some (is_there b all sound.set.ordered first.fresh)) x (stays b all sound.set.ordered x has)
    ∙ old-path all b sound first.fresh (first.sound.faultless b (is_there b all sound.set.ordered first.fresh)) reached x has

-- nothing is found where nothing passes
find-none : {X : Type 0} (p : X → Bool) (xs : List X) → ((x : X) → Among x xs → p x ≡ true → ⊥) → find p xs ≡ None
find-none p [] none = refl
find-none p (x ∷ xs) none = ap (λ t. cond t (Some x) (find p xs)) (never-true (p x) (none x (inl refl))) ∙ find-none p xs (λ y h. none y (inr h))

-- what functions give that say the same
filter_map-same : {X Y : Type 0} (f g : X → Option Y) (xs : List X) → ((x : X) → Among x xs → f x ≡ g x) → filter_map f xs ≡ filter_map g xs
filter_map-same f g [] same = refl
filter_map-same f g (x ∷ xs) same = ap (λ o. cons_option o (filter_map f xs)) (same x (inl refl)) ∙ ap (cons_option (g x)) (filter_map-same f g xs (λ y h. same y (inr h)))

module _ (it : Write) where
  open it use {header, lines, w, is, cluster, known, b, second, originals, below, may}

  abbrev at : ℕ
  at = shard_of b.domain b.workflow header.shards

  abbrev old : List Batch
  old = written_of header b.domain b.workflow w

  abbrev v : World
  v = behind it

  abbrev cell : Cell
  cell = cell_at cluster at w

  abbrev new : Cell
  new = with_written (entry_with b second) cell

  abbrev all : List Batch
  all = here it

  abbrev ordered : AreInOrder all
  ordered = here-ordered it

  abbrev fresh : AreNew all b second
  fresh = are-new it

  abbrev sound : IsSound old
  sound = old-sound it

  -- what the writer has learned is a part of all that was written
  learned-within : IsPart (learned_of b.domain b.workflow cell) old
  learned-within x has =
      let held : Has (arrived_of b.domain b.workflow cell) x = reaches-has (arrived_of b.domain b.workflow cell) x
      (learned-reaches (arrived_of b.domain b.workflow cell) x (held-set it) has) in
      held-within it x held

  earlier-written : has_key (earlier b) old ≡ true
  earlier-written = by (earlier b) may.write.reached
    where
      by : (o : Option BatchKey) → has_key o (learned_of b.domain b.workflow cell) ≡ true → has_key o old ≡ true
      by None e = refl
      by (Some key) e = key-more (learned_of b.domain b.workflow cell) old key learned-within e

  -- the events up to an old batch are what they were
  events-same : (x : Batch) → Among x all → events_to x.key (filter (is_of x.domain x.workflow) (more b second all)) ≡ events_to x.key (filter (is_of x.domain x.workflow) all)
  events-same x h = by (is_of x.domain x.workflow b) refl
    where
      by : (t : Bool) → is_of x.domain x.workflow b ≡ t → events_to x.key (filter (is_of x.domain x.workflow) (more b second all)) ≡ events_to x.key (filter (is_of x.domain x.workflow) all)
      by false e = ap (events_to x.key) (filter-both (is_of x.domain x.workflow) b second all e (second-other it x.domain x.workflow e))
      by true e =
          let n = names-of x.domain x.workflow b e in
          let has : Has old x =
          subst (λ d. Has (written_of header d b.workflow w) x) (sym n.0) (subst (λ u. Has (written_of header x.domain u w) x) (sym n.1) (has-written header lines w is at below x h)) in
          subst (λ d. events_to x.key (filter (is_of d x.workflow) (more b second all)) ≡ events_to x.key (filter (is_of d x.workflow) all)) n.0
          (subst (λ u. events_to x.key (filter (is_of b.domain u) (more b second all)) ≡ events_to x.key (filter (is_of b.domain u) all)) n.1
          (ap (events_to x.key) (more-own b.domain b.workflow b second all ordered (own-names b) (second-own it))
          ∙ ap history_of (joined-path old b second sound may.write.added may.write.second earlier-written x has)))

  -- an old batch carries no new one
  none-carried : (x z : Batch) → Among x all → Among z (news b second) → carries x z ≡ false
  none-carried x z h k = never-true (carries x z) no_way
    where
      by : (Among x all × Among z all) ⊎ ((x ≡ b) × (second ≡ Some z)) → ⊥
      by (inl m) = place-new it z z m.1 k refl
      by (inr m) = place-new it x b h (inl refl) (ap place_of m.0)

      no_way : carries x z ≡ true → ⊥
      no_way c = by (carried-cases it x z (among-more it x h) (new-among it z k) c)

  carried-same : (x : Batch) → Among x all → find (carries x) (more b second all) ≡ find (carries x) all
  carried-same x h = find-more (carries x) b second all (none-carried x b h (inl refl)) (other second refl)
    where
      other : (o : Option Batch) → second ≡ o → IfSome o (λ s. carries x s ≡ false)
      other None e = tt
      other (Some s) e = none-carried x s h (inr (subst (λ o. Among s (option_to_list o)) (sym e) (inl refl)))

  -- the message of an old batch is what it was
  own-same : (x : Batch) → Among x all → own_message (filter (is_of x.domain x.workflow) (more b second all)) (more b second all) x ≡ own_message (filter (is_of x.domain x.workflow) all) all x
  own-same x h =
      let events = events-same x h in
      let carried = carried-same x h in
      λ i. if is_some x.carrier then None else Some (record { batch = x; history = versions_of (events i); second = carried i })

  -- messages, and all that was written in their shard
  abbrev IsTrueIn : List Batch → Message → Type 0
  IsTrueIn l sent = (batch_there l (place_of sent.batch) ≡ Some sent.batch) × (own_message (filter (is_of sent.batch.domain sent.batch.workflow) l) l sent.batch ≡ Some sent)

  still-true : (sent : Message) → IsTrueIn all sent → IsTrueIn (more b second all) sent
  still-true sent t =
      (more-stays b second all (place_of sent.batch) sent.batch ordered t.0, own-same sent.batch (there-among all (place_of sent.batch) sent.batch t.0) ∙ t.1)

  -- messages of old batches are what they were
  messages-same : (bs : List Batch) → ((x : Batch) → Among x bs → Among x all) → messages_among (more b second all) bs ≡ messages_among all bs
  messages-same bs there =
      filter_map-same (λ x. own_message (filter (is_of x.domain x.workflow) (more b second all)) (more b second all) x) (λ x. own_message (filter (is_of x.domain x.workflow) all) all x) bs
      (λ x h. own-same x (there x h))

  off-written : (other : ClusterNo) → IsCluster header other → (x : Batch) → Among x (put_off_in (cell_at other at w)) → Among x all
  off-written other there x h = arrived-written header lines w is at below other there x (filter-among (λ y. not (is_learned_in (cell_at other at w) y)) (cell_at other at w).arrived x h).1

  abbrev AreTrueWith : List Batch → Cell → Type 0
  AreTrueWith l c = AllByRecursion (IsTrueIn l) c.written × (c.waiting ≡ messages_among l (put_off_in c))

  -- an old cell of the shard
  old-true : (other : ClusterNo) → IsCluster header other → AreTrueWith (more b second all) (cell_at other at w)
  old-true other there =
      let t : AreMessagesTrue header w at (cell_at other at w) = is.fair.messages other at there below in (
        all-weaker (IsTrueIn all) (IsTrueIn (more b second all)) still-true (cell_at other at w).written t.written,
        t.waiting ∙ sym (messages-same (put_off_in (cell_at other at w)) (off-written other there)),
      )

  -- what the writer has learned then is a part of all that was written
  new-within : IsPart (learned_of b.domain b.workflow new) (joined b second old)
  new-within x has =
      among-has (joined b second old) x (joined-sound old b second may.write.added may.write.second).set.ordered
      (subst (Among x) (more-own b.domain b.workflow b second all ordered (own-names b) (second-own it))
      (among-filter (is_of b.domain b.workflow) (more b second all) x p.0 (there (more-either b second cell.arrived (place_of x) x cell-order (order-finds new.arrived x new-order p.1)))))
    where
      cell-order : AreInOrder cell.arrived
      cell-order = (is.fair.arrivals cluster at known below).once

      new-order : AreInOrder new.arrived
      new-order = (new-fit it).ordered

      new-set : IsSet (arrived_of b.domain b.workflow new)
      new-set = set_of_workflow b.domain b.workflow new (new-fit it)

      p : (is_of b.domain b.workflow x ≡ true) × Among x new.arrived
      p = filter-among (is_of b.domain b.workflow) new.arrived x
          (has-among (arrived_of b.domain b.workflow new) x (reaches-has (arrived_of b.domain b.workflow new) x (learned-reaches (arrived_of b.domain b.workflow new) x new-set has)))

      there : Among x (news b second) ⊎ (batch_there cell.arrived (place_of x) ≡ Some x) → Among x (more b second all)
      there (inl h) = new-among it x h
      there (inr e) = among-more it x (arrived-written header lines w is at below cluster known x (there-among cell.arrived (place_of x) x e))

  -- the message of the entry
  abbrev message : Message
  message = entry_message (entry_with b second) (with_batches (entry_with b second) cell)

  new-events : events_to b.key (filter (is_of b.domain b.workflow) (more b second all)) ≡ events_to b.key (learned_of b.domain b.workflow new)
  new-events =
      let whole = joined-sound old b second may.write.added may.write.second in
      let part = learned_closed (arrived_of b.domain b.workflow new) (set_of_workflow b.domain b.workflow new (new-fit it)) in
      ap (events_to b.key) (more-own b.domain b.workflow b second all ordered (own-names b) (second-own it))
      ∙ ap history_of (sym (part-path (learned_of b.domain b.workflow new) (joined b second old) b part.0 part.1 whole.set whole.closed new-within
      (news-learned it b (inl refl))))

  new-carried : find (carries b) (more b second all) ≡ second
  new-carried = by second refl may.write.second
    where
      by : (o : Option Batch) → second ≡ o → IfSome o (IsSecond old b) → find (carries b) (more b second all) ≡ o
      by None e none =
          find-none (carries b) (more b second all)
          (λ x h c. never x (carried-cases it b x (new-among it b (inl refl)) h c))
        where
          never : (x : Batch) → (Among b all × Among x all) ⊎ ((b ≡ b) × (second ≡ Some x)) → ⊥
          never x (inl m) = place-new it b b m.0 (inl refl) refl
          never x (inr m) = let both : None ≡ Some x = sym e ∙ m.1 in absurd (cc)
      by (Some s) e other =
          find-only (carries b) (more b second all) s (and_from (is_of b.domain b.workflow s) (is_wanted s.carrier b)
          (subst (λ (d : Name). is_of d b.workflow s ≡ true) other.domain_is (subst (λ (u : Name). is_of s.domain u s ≡ true) other.workflow_is (own-names s)))
          (ap (λ o. is_wanted o b) other.carrier ∙ key_eq-self b.key))
          (new-among it s (inr (subst (λ o. Among s (option_to_list o)) (sym e) (inl refl))))
          (λ x h c. only x (carried-cases it b x (new-among it b (inl refl)) h c))
        where
          only : (x : Batch) → (Among b all × Among x all) ⊎ ((b ≡ b) × (second ≡ Some x)) → x ≡ s
          only x (inl m) = absurd (place-new it b b m.0 (inl refl) refl)
          only x (inr m) = let both : Some s ≡ Some x = sym e ∙ m.1 in let same : s ≡ x = cc in sym same

  new-message : IsTrueIn (more b second all) message
  new-message = (
    more-new b second all b ordered fresh (inl refl),
    ap (λ t. if t then None else Some (message_of (filter (is_of b.domain b.workflow) (more b second all)) (more b second all) b)) (ap is_some may.write.carrier)
        ∙ (λ i. Some (record { batch = b; history = versions_of (new-events i); second = new-carried i })),
  )

  new-true : AreTrueWith (more b second all) new
  new-true =
      let t : AreMessagesTrue header w at cell = is.fair.messages cluster at known below in (
        all-append (IsTrueIn (more b second all)) cell.written (message ∷ []) (all-weaker (IsTrueIn all) (IsTrueIn (more b second all)) still-true cell.written t.written) (new-message, tt),
        t.waiting ∙ sym (messages-same (put_off_in cell) (off-written cluster known)) ∙ ap (messages_among (more b second all)) (sym (off-same it)),
      )

  as-true : (shard : ℕ) (c : Cell) → AreTrueWith (all_written header shard v) c → AreMessagesTrue header v shard c
  as-true shard c t = record { written = t.0; waiting = t.1 }

  pub messages-kept : MessagesAreTrue header v
  messages-kept other shard there less =
      by-cell header w is.shaped cluster known at below new (λ o p c. AreMessagesTrue header v p c)
      (as-true at new (subst (λ l. AreTrueWith l new) (sym (all-here it)) new-true)) other shard
      (as-true shard (cell_at other shard w) (shard-cases it (λ p l. AreTrueWith l (cell_at other p w)) (old-true other there) shard
      (let t : AreMessagesTrue header w shard (cell_at other shard w) = is.fair.messages other shard there less in (t.written, t.waiting))))
