-- What one write keeps.
use Rattle.std.proofs.Common.{◌≡◌, ◌<◌, true, List, [], ◌∷◌, ◌++◌, ◌⊎◌, inl, inr, Option, Some, None, IsOk, refl, sym, ◌∙◌, subst, ap, arith}
use Rattle.std.specs.Prelude.{is_some}
use Rattle.std.specs.Option.{option_or}
use Rattle.std.proofs.lemmas.List.{append-nil}
use Rattle.ndc_event.specs.Key.{key_lt}
use Rattle.ndc_event.specs.declared.batch.Batch.{Batch}
use Rattle.ndc_event.specs.declared.batch.Event.{Event}
use Rattle.ndc_event.specs.declared.key.BatchKey.{BatchKey}
use Rattle.ndc_state.specs.Laws.{AreApart}
use Rattle.ndc_state.specs.Replay.{history_of, replay_of}
use Rattle.ndc_model_sets.specs.Sets.{earlier_of, earlier, batch_at, Has, arrived}
use Rattle.ndc_model_sets.specs.Learned.{has_key}
use Rattle.ndc_model_sets.specs.Paths.{IsPath, first, below, path_to, events_to}
use Rattle.ndc_model_sets.specs.Origins.{origins_in}
use Rattle.ndc_model_sets.specs.Sound.{IsParentFit, ParentsFit, VersionsAreChains, OriginsDiffer, CopiesFit, PathsReplay, ContinuesAs, CarriersFit, IsSound}
use Rattle.ndc_model_sets.specs.Writing.{GoesBelow, Begins, CopiesFitWith}
use Rattle.ndc_model_sets.proofs.KeyLemmas.{IsBefore, before-parts}
use Rattle.ndc_model_sets.proofs.SetLemmas.{has-found, at-append}
use Rattle.ndc_model_sets.proofs.PathLemmas.{path-below, path-first, path_is}
use Rattle.ndc_model_sets.proofs.BranchLemmas.{has-among, among-has, same-batch, greatest-among, greatest-top, IsUpTo}
use Rattle.ndc_model_sets.proofs.PathIds.{history-push}
use Rattle.ndc_model_sets.proofs.Lists.{Among}
use Rattle.ndc_model_sets.proofs.ForkLemmas.{path-rises, among-right}
use Rattle.ndc_model_sets.proofs.SoundLemmas.{parent-alone, which, new-set, new-closed, new-there, old-path, all-faultless, all-parents, all-origins, all-replay, all-copies, all-carriers}

module _ (batches part : List Batch) (tip new : Batch) (sound : IsSound batches) (w : GoesBelow batches part tip new) where
  tip-part : Has part tip
  tip-part = among-has part tip w.part_set.ordered (greatest-among part tip w.greatest)

  tip-there : Has batches tip
  tip-there = w.within tip tip-part

  tip-before : key_lt tip.key new.key ≡ true
  tip-before = w.above tip tip-part

  named : earlier new ≡ Some tip.key
  named = ap (λ p. earlier_of p new.carrier) w.parent

  reached : has_key (earlier new) batches ≡ true
  reached = ap (λ o. has_key o batches) named ∙ ap is_some tip-there

  there : Has (arrived new batches) new
  there = new-there batches new sound w.fresh w.faultless reached

  path-new : path_to new.key (arrived new batches) ≡ path_to tip.key batches ++ new ∷ []
  path-new =
      path-below (arrived new batches) new tip.key (new-set batches new sound w.fresh w.faultless reached) there w.parent
      ∙ ap (λ l. l ++ new ∷ []) (old-path batches new sound w.fresh w.faultless reached tip tip-there)

  events-new : events_to new.key (arrived new batches) ≡ events_to tip.key batches ++ new.events
  events-new = ap history_of path-new ∙ history-push (path_to tip.key batches) new

  -- what stands on a path stands on a longer one
  longer : (path : List Batch) (b : Batch) → Has path b → Has (path ++ new ∷ []) b
  longer path b h = at-append path (new ∷ []) b.key ∙ ap (λ o. option_or o (batch_at b.key (new ∷ []))) h

  -- a batch of the tip's run and of the batch's version is the tip, or on its path
  on-path : (b : Batch) → Has batches b → b.run ≡ new.run → b.key.version ≡ new.key.version → Has (path_to tip.key batches) b
  on-path b has run version = by (greatest-top part tip b w.greatest (has-among part b (w.own b has version))) (before-parts tip.key new.key tip-before)
    where
      tip-path : Has (path_to tip.key batches) tip
      tip-path = ends (path_to tip.key batches) (path_is batches tip sound.set sound.closed tip-there)
        where
          ends : (path : List Batch) → IsPath batches tip path → Has path tip
          ends path p = among-has path tip (path-rises batches tip path sound.set p).0 (last path p)
            where
              last : (path : List Batch) → IsPath batches tip path → Among tip path
              last path (first _ _ _) = inl refl
              last path (below _ before key up _ _ _ _) = among-right tip up (tip ∷ []) (inl refl)

      less : key_lt b.key tip.key ≡ true → IsBefore tip.key new.key → Has (path_to tip.key batches) b
      less l t = parts (before-parts b.key tip.key l) t
        where
          parts : IsBefore b.key tip.key → IsBefore tip.key new.key → Has (path_to tip.key batches) b
          parts (inl v) (inl u) = absurd (omega (arith, v, u, version))
          parts (inl v) (inr u) = absurd (omega (arith, v, u.0, version))
          parts (inr v) _ = sound.chains b tip has tip-there (run ∙ w.run) v.0 v.1

      by : IsUpTo tip.key b.key → IsBefore tip.key new.key → Has (path_to tip.key batches) b
      by (inl same) t = subst (λ (x : Batch). Has (path_to tip.key batches) x) (sym (same-batch batches b tip has tip-there same)) tip-path
      by (inr l) t = less l t

  pub below-parents : ParentsFit (arrived new batches)
  below-parents = all-parents batches new sound w.fresh w.faultless reached fit
    where
      fit : (before : Batch) (key : BatchKey) → new.parent ≡ Some key → batch_at key batches ≡ Some before → IsParentFit before new
      fit before key e at =
          let same : tip.key ≡ key = named-key e in
          let here : batch_at key batches ≡ Some tip = has-found batches key tip same tip-there in
          let one : tip ≡ before = cc in
          subst (λ (x : Batch). IsParentFit x new) one (record { run = sym w.run; ids = w.ids })
        where
          named-key : new.parent ≡ Some key → tip.key ≡ key
          named-key e = let both : Some tip.key ≡ Some key = sym w.parent ∙ e in cc

  pub below-chains : VersionsAreChains (arrived new batches)
  below-chains one two has other run version less = by (which batches new sound w.fresh w.faultless reached one has) (which batches new sound w.fresh w.faultless reached two other)
    where
      by : (one ≡ new) ⊎ Has batches one → (two ≡ new) ⊎ Has batches two → Has (path_to two.key (arrived new batches)) one
      by (inl s) (inl t) = absurd (omega (arith, less, ap (λ (b : Batch). b.key.task) (s ∙ sym t)))
      by (inl s) (inr k) =
          let v : two.key.version ≡ new.key.version = sym version ∙ ap (λ (b : Batch). b.key.version) s in
          let l : key_lt two.key new.key ≡ true = w.above two (w.own two k v) in
          absurd (clash (before-parts two.key new.key l) v (subst (λ (b : Batch). b.key.task < two.key.task) s less))
        where
          clash : IsBefore two.key new.key → two.key.version ≡ new.key.version → new.key.task < two.key.task → ⊥
          clash (inl a) v t = absurd (omega (arith, a, v))
          clash (inr a) v t = absurd (omega (arith, a.1, t))
      by (inr h) (inl t) =
          let on : Has (path_to tip.key batches) one = on-path one h (run ∙ ap (λ (b : Batch). b.run) t) (version ∙ ap (λ (b : Batch). b.key.version) t) in
          subst (λ (b : Batch). Has (path_to b.key (arrived new batches)) one) (sym t)
          (subst (λ (l : List Batch). Has l one) (sym path-new) (longer (path_to tip.key batches) one on))
      by (inr h) (inr k) =
          subst (λ (l : List Batch). Has l one) (sym (old-path batches new sound w.fresh w.faultless reached two k)) (sound.chains one two h k run version less)

  pub below-origins : AreApart (origins_in new.run (events_to tip.key batches ++ new.events)) → OriginsDiffer (arrived new batches)
  below-origins apart = all-origins batches new sound w.fresh w.faultless reached (subst (λ (l : List Event). AreApart (origins_in new.run l)) (sym events-new) apart)

  pub below-copies : CopiesFitWith batches new → CopiesFit (arrived new batches)
  below-copies fit = all-copies batches new sound w.fresh w.faultless reached fit

  pub below-replays : IsOk (replay_of new.run (events_to tip.key batches ++ new.events)) → PathsReplay (arrived new batches)
  below-replays ok = all-replay batches new sound w.fresh w.faultless reached (subst (λ (l : List Event). IsOk (replay_of new.run l)) (sym events-new) ok)

  pub below-carriers : CarriersFit (arrived new batches)
  below-carriers = all-carriers batches new sound w.fresh w.faultless reached (λ carrier key e at. absurd (parent-alone new tip.key key w.faultless w.parent e))

  pub below-sound : AreApart (origins_in new.run (events_to tip.key batches ++ new.events)) → CopiesFitWith batches new → IsOk (replay_of new.run (events_to tip.key batches ++ new.events)) → IsSound (arrived new batches)
  below-sound apart fit ok =
      record {
        set = new-set batches new sound w.fresh w.faultless reached;
        closed = new-closed batches new sound w.fresh w.faultless reached;
        faultless = all-faultless batches new sound w.fresh w.faultless reached;
        parents = below-parents;
        chains = below-chains;
        origins = below-origins apart;
        copies = below-copies fit;
        replays = below-replays ok;
        carriers = below-carriers;
      }

module _ (batches : List Batch) (new : Batch) (sound : IsSound batches) (w : Begins batches new) where
  none-before : has_key (earlier new) batches ≡ true
  none-before = ap (λ p. has_key (earlier_of p new.carrier) batches) w.parent ∙ by new.carrier refl
    where
      by : (o : Option BatchKey) → new.carrier ≡ o → has_key o batches ≡ true
      by None e = refl
      by (Some key) e = ap is_some (w.carrier key e).1

  begin-there : Has (arrived new batches) new
  begin-there = new-there batches new sound w.fresh w.faultless none-before

  begin-events : events_to new.key (arrived new batches) ≡ new.events
  begin-events = ap history_of (path-first (arrived new batches) new (new-set batches new sound w.fresh w.faultless none-before) begin-there w.parent) ∙ append-nil new.events

  begin-parents : ParentsFit (arrived new batches)
  begin-parents = all-parents batches new sound w.fresh w.faultless none-before (λ before key e at. let both : Some key ≡ None = sym e ∙ w.parent in absurd (cc))

  begin-chains : VersionsAreChains (arrived new batches)
  begin-chains one two has other run version less = by (which batches new sound w.fresh w.faultless none-before one has) (which batches new sound w.fresh w.faultless none-before two other)
    where
      by : (one ≡ new) ⊎ Has batches one → (two ≡ new) ⊎ Has batches two → Has (path_to two.key (arrived new batches)) one
      by (inl s) (inl t) = absurd (omega (arith, less, ap (λ (b : Batch). b.key.task) (s ∙ sym t)))
      by (inl s) (inr k) = absurd (w.alone two k (sym run ∙ ap (λ (b : Batch). b.run) s))
      by (inr h) (inl t) = absurd (w.alone one h (run ∙ ap (λ (b : Batch). b.run) t))
      by (inr h) (inr k) =
          subst (λ (l : List Batch). Has l one) (sym (old-path batches new sound w.fresh w.faultless none-before two k)) (sound.chains one two h k run version less)

  begin-carriers : CarriersFit (arrived new batches)
  begin-carriers = all-carriers batches new sound w.fresh w.faultless none-before fit
    where
      fit : (carrier : Batch) (key : BatchKey) → new.carrier ≡ Some key → batch_at key batches ≡ Some carrier → ContinuesAs new.run carrier.events
      fit carrier key e at =
          let c = w.carrier key e in
          let both : Some c.0 ≡ Some carrier = sym c.1 ∙ at in
          let same : c.0 ≡ carrier = cc in
          subst (λ (x : Batch). ContinuesAs new.run x.events) same c.2

  pub begin-sound : AreApart (origins_in new.run new.events) → CopiesFitWith batches new → IsOk (replay_of new.run new.events) → IsSound (arrived new batches)
  begin-sound apart fit ok =
      record {
        set = new-set batches new sound w.fresh w.faultless none-before;
        closed = new-closed batches new sound w.fresh w.faultless none-before;
        faultless = all-faultless batches new sound w.fresh w.faultless none-before;
        parents = begin-parents;
        chains = begin-chains;
        origins = all-origins batches new sound w.fresh w.faultless none-before (subst (λ (l : List Event). AreApart (origins_in new.run l)) (sym begin-events) apart);
        copies = all-copies batches new sound w.fresh w.faultless none-before fit;
        replays = all-replay batches new sound w.fresh w.faultless none-before (subst (λ (l : List Event). IsOk (replay_of new.run l)) (sym begin-events) ok);
        carriers = begin-carriers;
      }

pub below_keeps_parents : (batches part : List Batch) (tip new : Batch) → IsSound batches → GoesBelow batches part tip new → ParentsFit (arrived new batches)
below_keeps_parents batches part tip new sound w = below-parents batches part tip new sound w

pub below_keeps_chains : (batches part : List Batch) (tip new : Batch) → IsSound batches → GoesBelow batches part tip new → VersionsAreChains (arrived new batches)
below_keeps_chains batches part tip new sound w = below-chains batches part tip new sound w

pub below_keeps_origins : (batches part : List Batch) (tip new : Batch) → IsSound batches → GoesBelow batches part tip new
    → AreApart (origins_in new.run (events_to tip.key batches ++ new.events)) → OriginsDiffer (arrived new batches)
below_keeps_origins batches part tip new sound w apart = below-origins batches part tip new sound w apart

pub below_keeps_copies : (batches part : List Batch) (tip new : Batch) → IsSound batches → GoesBelow batches part tip new → CopiesFitWith batches new → CopiesFit (arrived new batches)
below_keeps_copies batches part tip new sound w fit = below-copies batches part tip new sound w fit

pub below_keeps_replays : (batches part : List Batch) (tip new : Batch) → IsSound batches → GoesBelow batches part tip new
    → IsOk (replay_of new.run (events_to tip.key batches ++ new.events)) → PathsReplay (arrived new batches)
below_keeps_replays batches part tip new sound w ok = below-replays batches part tip new sound w ok

pub below_keeps_carriers : (batches part : List Batch) (tip new : Batch) → IsSound batches → GoesBelow batches part tip new → CarriersFit (arrived new batches)
below_keeps_carriers batches part tip new sound w = below-carriers batches part tip new sound w

pub below_keeps_sound : (batches part : List Batch) (tip new : Batch) → IsSound batches → GoesBelow batches part tip new
    → AreApart (origins_in new.run (events_to tip.key batches ++ new.events)) → CopiesFitWith batches new
    → IsOk (replay_of new.run (events_to tip.key batches ++ new.events)) → IsSound (arrived new batches)
below_keeps_sound batches part tip new sound w apart fit ok = below-sound batches part tip new sound w apart fit ok

pub beginning_keeps_sound : (batches : List Batch) (new : Batch) → IsSound batches → Begins batches new
    → AreApart (origins_in new.run new.events) → CopiesFitWith batches new → IsOk (replay_of new.run new.events) → IsSound (arrived new batches)
beginning_keeps_sound batches new sound w apart fit ok = begin-sound batches new sound w apart fit ok
