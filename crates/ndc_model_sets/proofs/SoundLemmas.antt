-- Closed parts of sound sets, and sets with one more batch.
use Rattle.std.proofs.Common.{◌≡◌, ◌+◌, ◌≤◌, Bool, true, false, not, ◌==◌, nat_lt, List, [], ◌⊎◌, inl, inr, Option, Some, None, IsOk, refl, sym, ◌∙◌, subst, ap, true≢false, arith}
use Rattle.std.specs.Prelude.{is_some}
use Rattle.std.specs.List.{AllByRecursion}
use Rattle.std.proofs.lemmas.Bool.{and_parts, ltb-false, ltb-true, eqb-true}
use Rattle.ndc_event.specs.Key.{key_lt}
use Rattle.ndc_event.specs.declared.batch.Batch.{Batch}
use Rattle.ndc_event.specs.declared.key.BatchKey.{BatchKey}
use Rattle.ndc_event.specs.Batch.{is_parent_fit, is_carrier_fit, fault_of}
use Rattle.ndc_state.specs.Laws.{AreApart}
use Rattle.ndc_state.specs.Replay.{history_of, replay_of}
use Rattle.ndc_model_sets.specs.Sets.{earlier_of, earlier, PointsBack, IsSet, batch_at, Has, arrived}
use Rattle.ndc_model_sets.specs.Learned.{has_key, IsClosed, IsPart}
use Rattle.ndc_model_sets.specs.Paths.{path_to, events_to}
use Rattle.ndc_model_sets.specs.Origins.{origins_in}
use Rattle.ndc_model_sets.specs.Sound.{AreFaultless, IsParentFit, ParentsFit, OriginsDiffer, IsCopyFit, CopiesFit, PathsReplay, ContinuesAs, CarriersFit, IsSound}
use Rattle.ndc_model_sets.specs.Writing.{CopiesFitWith}
use Rattle.ndc_model_sets.proofs.KeyLemmas.{before-from}
use Rattle.ndc_model_sets.proofs.SetLemmas.{found-key, found-has, has-found}
use Rattle.ndc_model_sets.proofs.ArrivalLemmas.{arrival_keeps_sets, stays, was_or_new, is_there}
use Rattle.ndc_model_sets.proofs.PathLemmas.{part-path}
use Rattle.ndc_model_sets.proofs.FaultLemmas.{Passes, passes}

-- the set of no batch is sound
pub nothing_is_sound : IsSound []
nothing_is_sound = record {
  set = record { ordered = tt; back = tt };
  closed = λ b has. absurd (cc);
  faultless = λ b has. absurd (cc);
  parents = λ b before key has e at. absurd (cc);
  chains = λ one two has other run version less. absurd (cc);
  origins = λ b has. absurd (cc);
  copies = λ b other has there. absurd (cc);
  replays = λ b has. absurd (cc);
  carriers = λ b carrier key has e at. absurd (cc);
}

-- a closed part of a sound set is sound
pub part_is_sound : (batches part : List Batch) → IsSound batches → IsSet part → IsClosed part → IsPart part batches → IsSound part
part_is_sound batches part sound set closed within =
    record {
      set = set;
      closed = closed;
      faultless = λ b has. sound.faultless b (within b has);
      parents = λ b before key has e at. sound.parents b before key (within b has) e (found key before at);
      chains = λ one two has other run version less.
          subst (λ (l : List Batch). Has l one) (sym (path two other)) (sound.chains one two (within one has) (within two other) run version less);
      origins = λ b has. subst (λ (l : List Batch). AreApart (origins_in b.run (history_of l))) (sym (path b has)) (sound.origins b (within b has));
      copies = λ b other has there. sound.copies b other (within b has) (within other there);
      replays = λ b has. subst (λ (l : List Batch). IsOk (replay_of b.run (history_of l))) (sym (path b has)) (sound.replays b (within b has));
      carriers = λ b carrier key has e at. sound.carriers b carrier key (within b has) e (found key carrier at);
    }
  where
    path : (b : Batch) → Has part b → path_to b.key part ≡ path_to b.key batches
    path b has = part-path part batches b set closed sound.set sound.closed within has

    found : (key : BatchKey) (b : Batch) → batch_at key part ≡ Some b → batch_at key batches ≡ Some b
    found key b at = has-found batches key b (found-key part key b at) (within b (found-has part key b at))

-- the earlier key of a batch without a fault comes before its own
pub faultless-back : (b : Batch) → fault_of b ≡ None → PointsBack b
faultless-back b e key h = by b.parent refl h
  where
    p : Passes b
    p = passes b e

    behind_parent : (parent : BatchKey) → is_parent_fit b.key (Some parent) ≡ true → key_lt parent b.key ≡ true
    behind_parent parent t = order (nat_lt parent.version b.key.version) refl
      where
        q : (not (nat_lt b.key.version parent.version) ≡ true) × (nat_lt parent.task b.key.task ≡ true)
        q = and_parts (not (nat_lt b.key.version parent.version)) (nat_lt parent.task b.key.task) t

        up_to : (t : Bool) → nat_lt b.key.version parent.version ≡ t → not t ≡ true → parent.version ≤ b.key.version
        up_to true e f = absurd (cc)
        up_to false e f = ltb-false b.key.version parent.version e

        order : (t : Bool) → nat_lt parent.version b.key.version ≡ t → key_lt parent b.key ≡ true
        order true e = before-from parent b.key (inl (ltb-true parent.version b.key.version e))
        order false e = before-from parent b.key (inr (omega (arith, ltb-false parent.version b.key.version e, up_to (nat_lt b.key.version parent.version) refl q.0), ltb-true parent.task b.key.task q.1))

    behind_carrier : (carrier : BatchKey) → is_carrier_fit b.key b.parent (Some carrier) ≡ true → key_lt carrier b.key ≡ true
    behind_carrier carrier t =
        let q = and_parts (not (is_some b.parent)) _ t in
        let r = and_parts (carrier.version == b.key.version) (carrier.task + 1 == b.key.task) q.1 in
        before-from carrier b.key (inr (eqb-true carrier.version b.key.version r.0, omega (arith, eqb-true (carrier.task + 1) b.key.task r.1)))

    by : (o : Option BatchKey) → b.parent ≡ o → earlier_of o b.carrier ≡ Some key → key_lt key b.key ≡ true
    by (Some parent) at f =
        let same : parent ≡ key = cc in
        subst (λ (k : BatchKey). key_lt k b.key ≡ true) same (behind_parent parent (subst (λ (o : Option BatchKey). is_parent_fit b.key o ≡ true) at p.parent))
    by None at f = behind_carrier key (subst (λ (o : Option BatchKey). is_carrier_fit b.key b.parent o ≡ true) f p.carrier)

-- a batch with a parent has no carrier
pub parent-alone : (b : Batch) (parent carrier : BatchKey) → fault_of b ≡ None → b.parent ≡ Some parent → b.carrier ≡ Some carrier → ⊥
parent-alone b parent carrier e f g =
    let p = passes b e in
    let t : is_carrier_fit b.key (Some parent) (Some carrier) ≡ true =
    subst (λ (o : Option BatchKey). is_carrier_fit b.key o (Some carrier) ≡ true) f (subst (λ (o : Option BatchKey). is_carrier_fit b.key b.parent o ≡ true) g p.carrier) in
    true≢false (sym t)

-- a sound set with one more batch, whose key is new and whose earlier key is one of the set's
module _ (batches : List Batch) (new : Batch) (sound : IsSound batches) (fresh : batch_at new.key batches ≡ None) (faultless : fault_of new ≡ None) (reached : has_key (earlier new) batches ≡ true) where
  pub new-set : IsSet (arrived new batches)
  new-set = arrival_keeps_sets new batches sound.set (faultless-back new faultless)

  pub old-there : IsPart batches (arrived new batches)
  old-there = stays new batches sound.set.ordered

  pub new-there : Has (arrived new batches) new
  new-there = is_there new batches sound.set.ordered fresh

  pub which : (b : Batch) → Has (arrived new batches) b → (b ≡ new) ⊎ Has batches b
  which b has = was_or_new new batches b sound.set.ordered has

  key-there : (o : Option BatchKey) → has_key o batches ≡ true → has_key o (arrived new batches) ≡ true
  key-there None h = refl
  key-there (Some key) h = by (batch_at key batches) refl h
    where
      by : (o : Option Batch) → batch_at key batches ≡ o → is_some o ≡ true → has_key (Some key) (arrived new batches) ≡ true
      by None at h = absurd (cc)
      by (Some b) at h = ap is_some (has-found (arrived new batches) key b (found-key batches key b at) (old-there b (found-has batches key b at)))

  pub new-closed : IsClosed (arrived new batches)
  new-closed b has = by (which b has)
    where
      by : (b ≡ new) ⊎ Has batches b → has_key (earlier b) (arrived new batches) ≡ true
      by (inl same) = subst (λ (x : Batch). has_key (earlier x) (arrived new batches) ≡ true) (sym same) (key-there (earlier new) reached)
      by (inr h) = key-there (earlier b) (sound.closed b h)

  -- a path of the set stays
  pub old-path : (b : Batch) → Has batches b → path_to b.key (arrived new batches) ≡ path_to b.key batches
  old-path b has = sym (part-path batches (arrived new batches) b sound.set sound.closed new-set new-closed old-there has)

  pub all-faultless : AreFaultless (arrived new batches)
  all-faultless b has = by (which b has)
    where
      by : (b ≡ new) ⊎ Has batches b → fault_of b ≡ None
      by (inl same) = subst (λ (x : Batch). fault_of x ≡ None) (sym same) faultless
      by (inr h) = sound.faultless b h

  -- what an earlier key of a batch of the set names is of the set
  earlier-old : (b before : Batch) (key : BatchKey) → has_key (earlier b) batches ≡ true → earlier b ≡ Some key → batch_at key (arrived new batches) ≡ Some before → batch_at key batches ≡ Some before
  earlier-old b before key there e at = by (batch_at key batches) refl (sym (ap (λ o. has_key o batches) e) ∙ there)
    where
      by : (o : Option Batch) → batch_at key batches ≡ o → is_some o ≡ true → batch_at key batches ≡ Some before
      by None f h = absurd (cc)
      by (Some x) f h =
          let other : batch_at key (arrived new batches) ≡ Some x = has-found (arrived new batches) key x (found-key batches key x f) (old-there x (found-has batches key x f)) in
          let same : x ≡ before = cc in f ∙ ap Some same

  named-by : (b : Batch) → Has (arrived new batches) b → (b ≡ new) ⊎ Has batches b → has_key (earlier b) batches ≡ true
  named-by b has (inl same) = subst (λ (x : Batch). has_key (earlier x) batches ≡ true) (sym same) reached
  named-by b has (inr h) = sound.closed b h

  -- a parent or a carrier of a batch is of the set
  pub parent-old : (b before : Batch) (key : BatchKey) → Has (arrived new batches) b → b.parent ≡ Some key → batch_at key (arrived new batches) ≡ Some before → batch_at key batches ≡ Some before
  parent-old b before key has e at = earlier-old b before key (named-by b has (which b has)) (ap (λ p. earlier_of p b.carrier) e) at

  pub carrier-old : (b before : Batch) (key : BatchKey) → Has (arrived new batches) b → b.parent ≡ None → b.carrier ≡ Some key → batch_at key (arrived new batches) ≡ Some before → batch_at key batches ≡ Some before
  carrier-old b before key has none e at = earlier-old b before key (named-by b has (which b has)) (ap (λ p. earlier_of p b.carrier) none ∙ e) at

  pub all-parents : ((before : Batch) (key : BatchKey) → new.parent ≡ Some key → batch_at key batches ≡ Some before → IsParentFit before new) → ParentsFit (arrived new batches)
  all-parents fit b before key has e at = by (which b has) (parent-old b before key has e at)
    where
      by : (b ≡ new) ⊎ Has batches b → batch_at key batches ≡ Some before → IsParentFit before b
      by (inl same) there = subst (IsParentFit before) (sym same) (fit before key (sym (ap (λ (x : Batch). x.parent) same) ∙ e) there)
      by (inr h) there = sound.parents b before key h e there

  pub all-origins : AreApart (origins_in new.run (events_to new.key (arrived new batches))) → OriginsDiffer (arrived new batches)
  all-origins apart b has = by (which b has)
    where
      by : (b ≡ new) ⊎ Has batches b → AreApart (origins_in b.run (events_to b.key (arrived new batches)))
      by (inl same) = subst (λ (x : Batch). AreApart (origins_in x.run (events_to x.key (arrived new batches)))) (sym same) apart
      by (inr h) = subst (λ (l : List Batch). AreApart (origins_in b.run (history_of l))) (sym (old-path b h)) (sound.origins b h)

  pub all-replay : IsOk (replay_of new.run (events_to new.key (arrived new batches))) → PathsReplay (arrived new batches)
  all-replay ok b has = by (which b has)
    where
      by : (b ≡ new) ⊎ Has batches b → IsOk (replay_of b.run (events_to b.key (arrived new batches)))
      by (inl same) = subst (λ (x : Batch). IsOk (replay_of x.run (events_to x.key (arrived new batches)))) (sym same) ok
      by (inr h) = subst (λ (l : List Batch). IsOk (replay_of b.run (history_of l))) (sym (old-path b h)) (sound.replays b h)

  pub all-copies : CopiesFitWith batches new → CopiesFit (arrived new batches)
  all-copies fit b other has there = by (which b has) (which other there)
    where
      Fit : Batch → Batch → Type 0
      Fit x y = AllByRecursion (λ copy. AllByRecursion (IsCopyFit copy y.run) y.events) x.events

      by : (b ≡ new) ⊎ Has batches b → (other ≡ new) ⊎ Has batches other → AllByRecursion (λ copy. AllByRecursion (IsCopyFit copy other.run) other.events) b.events
      by (inl s) (inl t) = subst (λ (x : Batch). AllByRecursion (λ copy. AllByRecursion (IsCopyFit copy other.run) other.events) x.events) (sym s)
          (subst (λ (y : Batch). AllByRecursion (λ copy. AllByRecursion (IsCopyFit copy y.run) y.events) new.events) (sym t) fit.own)
      by (inl s) (inr k) = subst (λ (x : Batch). AllByRecursion (λ copy. AllByRecursion (IsCopyFit copy other.run) other.events) x.events) (sym s) (fit.others other k).mine
      by (inr h) (inl t) = subst (λ (y : Batch). AllByRecursion (λ copy. AllByRecursion (IsCopyFit copy y.run) y.events) b.events) (sym t) (fit.others b h).theirs
      by (inr h) (inr k) = sound.copies b other h k

  pub all-carriers : ((carrier : Batch) (key : BatchKey) → new.carrier ≡ Some key → batch_at key batches ≡ Some carrier → ContinuesAs new.run carrier.events) → CarriersFit (arrived new batches)
  all-carriers fit b carrier key has e at = by (which b has) b.parent refl
    where
      by : (b ≡ new) ⊎ Has batches b → (o : Option BatchKey) → b.parent ≡ o → ContinuesAs b.run carrier.events
      by _ (Some parent) f = absurd (parent-alone b parent key (all-faultless b has) f e)
      by (inl same) None f =
          subst (λ (x : Batch). ContinuesAs x.run carrier.events) (sym same) (fit carrier key (sym (ap (λ (x : Batch). x.carrier) same) ∙ e) (carrier-old b carrier key has f e at))
      by (inr h) None f = sound.carriers b carrier key h e (carrier-old b carrier key has f e at)
