-- A set that none of the causes holds of is sound.
use Rattle.std.proofs.Common.{◌≡◌, ℕ, zero, suc, ◌<◌, Bool, true, false, not, ◌&&◌, ◌||◌, ◌==◌, List, [], ◌∷◌, ◌++◌, ◌⊎◌, inl, inr, Option, Some, None, Result, Ok, IsOk, is_ok, if◌then◌else◌, refl, sym, ap, ◌∙◌, subst, arith}
use Rattle.std.specs.Prelude.{is_some}
use Rattle.std.specs.List.{AllByRecursion, list_any}
use Rattle.std.specs.Str.{bytes_eq}
use Rattle.std.proofs.lemmas.Bool.{and_parts, and_from, eq-eqb}
use Rattle.std.proofs.lemmas.List.{append-nil, append_assoc}
use Rattle.std.proofs.lemmas.Slice.Eq.{bytes_eq-Decides}
use Rattle.ndc_event.specs.declared.batch.Batch.{Batch}
use Rattle.ndc_event.specs.declared.batch.Event.{Event}
use Rattle.ndc_event.specs.declared.key.BatchKey.{BatchKey}
use Rattle.ndc_event.specs.declared.key.Origin.{Origin}
use Rattle.ndc_event.specs.declared.key.RunId.{RunId}
use Rattle.ndc_event.specs.declared.kind.EventKind.{EventKind}
use Rattle.ndc_event.specs.declared.kind.EventKind.TheVariants.{WorkflowExecutionSignaled, WorkflowExecutionContinuedAsNew}
use Rattle.ndc_event.specs.declared.name.Name.{Name}
use Rattle.ndc_model_sets.specs.Branches.{same_run}
use Rattle.ndc_model_sets.specs.Learned.{has_key}
use Rattle.ndc_model_sets.specs.Origins.{origins_in}
use Rattle.ndc_model_sets.specs.Paths.{events_to, last_event, path_from}
use Rattle.ndc_model_sets.specs.Sets.{batch_at, Has}
use Rattle.ndc_model_sets.specs.Sound.{CarriersFit, ContinuesAs, CopiesFit, IsCopyFit, IsSound, Names, OriginsDiffer, PathsReplay}
use Rattle.ndc_model_sets.proofs.BranchLemmas.{has-among, run-same, same-run}
use Rattle.ndc_model_sets.proofs.Lists.{Among, all-from}
use Rattle.ndc_model_sets.proofs.PathLemmas.{none-wanted}
use Rattle.ndc_model_sets.proofs.SetLemmas.{found-key, found-has}
use Rattle.ndc_state.specs.Laws.{AreApart}
use Rattle.ndc_state.specs.Origins.{is_among, origin_of, with_origin}
use Rattle.ndc_state.specs.Replay.{collected, collected_by, history_of, replay_of}
use Rattle.ndc_state.specs.Value.{StateValue}
use Rattle.ndc_state.specs.declared.rule.StateError.{StateError}
use Rattle.ndc_state.proofs.OriginLemmas.{AreApart-collected, AreApart-none}
use Rattle.ndc_tree.proofs.GrowLemmas.{parent-task}
use Rattle.ndc_dump_causes.specs.Causes.{closes_for, comes_again, continues, has_unfit_carrier, is_continued_by, is_original, is_unfit_copy, misnames, names, sound_or}
use Rattle.ndc_dump_causes.specs.Given.{AreRead}
use Rattle.ndc_dump_causes.specs.Replaying.{replays_to}
use Rattle.ndc_dump_causes.proofs.NoCause.{HasNone, has-none, is-closed, parents-fit, versions-are-chains}

-- no item passes
any-each : {X : Type 0} (p : X → Bool) (xs : List X) (x : X) → list_any p xs ≡ false → Among x xs → p x ≡ false
any-each p [] x h among = absurd among
any-each p (y ∷ ys) x h among = by (p y) refl h among (any-each p ys x)
  where
    by : (t : Bool) → p y ≡ t → (t || list_any p ys) ≡ false → (x ≡ y) ⊎ Among x ys → (list_any p ys ≡ false → Among x ys → p x ≡ false) → p x ≡ false
    by true e h among rest = absurd (cc)
    by false e h (inl same) rest = ap p same ∙ e
    by false e h (inr k) rest = rest h k

truth : (t : Bool) → not t ≡ false → t ≡ true
truth true h = refl
truth false h = absurd (cc)

and-true : (s t : Bool) → (s && not t) ≡ false → s ≡ true → t ≡ true
and-true true t h e = truth t h
and-true false t h e = absurd (cc)

-- ---- origins

-- where no origin comes again, all are collected
all-collected : (run : RunId) (seen : List Origin) (events : List Event) → comes_again seen (origins_in run events) ≡ false → collected run seen events ≡ seen ++ origins_in run events
all-collected run seen [] h = sym (append-nil seen)
all-collected run seen (e ∷ es) h = by e.kind refl h (λ s k. all-collected run s es k)
  where
    by : (kind : EventKind) → e.kind ≡ kind → comes_again seen (origins_in run (e ∷ es)) ≡ false → ((s : List Origin) → comes_again s (origins_in run es) ≡ false → collected run s es ≡ s ++ origins_in run es) → collected run (collected_by run e.id e.version e.kind seen) es ≡ seen ++ origins_in run (e ∷ es)
    by (WorkflowExecutionSignaled name input from) f h rest =
        rw f (signaled (is_among (origin_of run e.id e.version from) seen) refl (rw f at h))
      where
        signaled : (t : Bool) → is_among (origin_of run e.id e.version from) seen ≡ t → (is_among (origin_of run e.id e.version from) seen || comes_again (with_origin (origin_of run e.id e.version from) seen) (origins_in run es)) ≡ false
            → collected run (with_origin (origin_of run e.id e.version from) seen) es ≡ seen ++ (origin_of run e.id e.version from ∷ origins_in run es)
        signaled true g h = let both : true ≡ false = sym (ap (λ t. t || comes_again (with_origin (origin_of run e.id e.version from) seen) (origins_in run es)) g) ∙ h in absurd (cc)
        signaled false g h =
            let o = origin_of run e.id e.version from in
            let more : with_origin o seen ≡ seen ++ o ∷ [] = ap (λ t. if t then seen else seen ++ o ∷ []) g in
            ap (λ l. collected run l es) more
            ∙ rest (seen ++ o ∷ []) (ap (λ l. comes_again l (origins_in run es)) (sym more) ∙ sym (ap (λ t. t || comes_again (with_origin o seen) (origins_in run es)) g) ∙ h)
            ∙ append_assoc seen (o ∷ []) (origins_in run es)
    by _ f h rest = rw f (rest seen (rw f at h))

apart : (run : RunId) (events : List Event) → comes_again [] (origins_in run events) ≡ false → AreApart (origins_in run events)
apart run events h = subst AreApart (all-collected run [] events h) (AreApart-collected run [] events AreApart-none)

-- ---- copies and carriers

original-kind : (name input : Name) (kind : EventKind) → is_original name input kind ≡ true → kind ≡ WorkflowExecutionSignaled name input None
original-kind name input (WorkflowExecutionSignaled other more None) h =
    let p = and_parts (bytes_eq other name) (bytes_eq more input) h in
    ap (λ (n : Name). WorkflowExecutionSignaled n more None) ((bytes_eq-Decides other name).0 p.0) ∙ ap (λ (i : Name). WorkflowExecutionSignaled name i None) ((bytes_eq-Decides more input).0 p.1)
original-kind name input (WorkflowExecutionSignaled other more (Some origin)) h = absurd (cc)
original-kind name input _ h = absurd (cc)

named-event : (origin : Origin) (run : RunId) (event : Event) → Names origin run event → names origin run event ≡ true
named-event origin run event n =
    and_from (same_run origin.run run) ((origin.event == event.id) && (origin.version == event.version)) (same-run origin.run run n.run_is)
    (and_from (origin.event == event.id) (origin.version == event.version) (eq-eqb origin.event event.id n.event_is) (eq-eqb origin.version event.version n.version_is))

continued : (run : RunId) (event : Event) (kind : EventKind) → event.kind ≡ kind → continues run kind ≡ true → (type : Name) × (event.kind ≡ WorkflowExecutionContinuedAsNew run type)
continued run event (WorkflowExecutionContinuedAsNew next type) e h = (type, e ∙ ap (λ r. WorkflowExecutionContinuedAsNew r type) (run-same next run h))
continued run event _ e h = absurd (cc)

pub ends-for : (run : RunId) (b : Batch) → is_continued_by run (last_event b.events) ≡ true → ContinuesAs run b.events
ends-for run b h = by (last_event b.events) refl h
  where
    by : (o : Option Event) → last_event b.events ≡ o → is_continued_by run o ≡ true → ContinuesAs run b.events
    by None e h = absurd (cc)
    by (Some event) e h = let c = continued run event event.kind refl h in record { event = event; last = e; workflow_type = c.0; kind = c.1 }

is-ok : (r : Result StateValue StateError) → is_ok r ≡ true → IsOk r
is-ok r h = h

module _ (batches : List Batch) (read : AreRead batches) (none : HasNone batches) where
  origins-differ : OriginsDiffer batches
  origins-differ b has = apart b.run (events_to b.key batches) (none.origins b has)

  copies-fit : CopiesFit batches
  copies-fit b other has there =
      all-from (λ copy. AllByRecursion (IsCopyFit copy other.run) other.events) b.events (λ copy in_b.
      all-from (IsCopyFit copy other.run) other.events (λ event in_other. λ name input origin kind named.
      let misnamed : misnames batches origin name input ≡ false =
      ap (is_unfit_copy batches) (sym kind) ∙ any-each (λ e. is_unfit_copy batches e.kind) b.events copy (none.copies b has) in_b in
      let at_other = any-each (λ x. list_any (λ e. names origin x.run e && not (is_original name input e.kind)) x.events) batches other misnamed (has-among batches other there) in
      let at_event = any-each (λ e. names origin other.run e && not (is_original name input e.kind)) other.events event at_other in_other in
      original-kind name input event.kind (and-true (names origin other.run event) (is_original name input event.kind) at_event (named-event origin other.run event named))))

  carriers-fit : CarriersFit batches
  carriers-fit b carrier key has e at =
      ends-for b.run carrier (truth (is_continued_by b.run (last_event carrier.events)) (sym (ap (λ o. has_unfit_carrier batches b o) e ∙ ap (λ o. not (closes_for b.run o)) at) ∙ none.carriers b has))

  path-replays : (n : ℕ) (b : Batch) → b.key.task < n → Has batches b → replays_to batches b ≡ true
  path-replays zero b l has = absurd (omega (arith, l))
  path-replays (suc n) b l has = by b.parent refl (λ x m h. path-replays n x m h)
    where
      settled : is_ok (replay_of b.run (history_of (path_from b.parent batches))) ≡ true → replays_to batches b ≡ true
      settled h = one (replays_to batches b) (is_ok (replay_of b.run (history_of (path_from b.parent batches)))) (none.replays b has) h
        where
          one : (s t : Bool) → (not s && t) ≡ false → t ≡ true → s ≡ true
          one true t h e = refl
          one false t h e = absurd (cc)

      by : (o : Option BatchKey) → b.parent ≡ o → ((x : Batch) → x.key.task < n → Has batches x → replays_to batches x ≡ true) → replays_to batches b ≡ true
      by None e rest = settled (ap (λ o. is_ok (replay_of b.run (history_of (path_from o batches)))) e ∙ ap (λ w. is_ok (replay_of b.run (history_of w.path))) (none-wanted batches))
      by (Some key) e rest = at (batch_at key batches) refl
        where
          at : (o : Option Batch) → batch_at key batches ≡ o → replays_to batches b ≡ true
          at None f =
              let gone : has_key b.parent batches ≡ false = ap (λ o. has_key o batches) e ∙ ap is_some f in
              let there : has_key b.parent batches ≡ true = truth (has_key b.parent batches) (none.parents b has) in absurd (cc)
          at (Some p) f =
              let own = found-key batches key p f in
              let less = subst (λ (k : BatchKey). k.task < b.key.task) (sym own) (parent-task b key (read.faultless b has) e) in
              let up : replays_to batches p ≡ true = rest p (omega (arith, l, less)) (found-has batches key p f) in
              settled (ap (λ o. is_ok (replay_of b.run (history_of (path_from o batches)))) (e ∙ ap Some (sym own))
              ∙ ap (λ r. is_ok (replay_of r (events_to p.key batches))) (sym (parents-fit batches read none b p key has e f).run) ∙ up)

  paths-replay : PathsReplay batches
  paths-replay b has = is-ok (replay_of b.run (events_to b.key batches)) (path-replays (suc b.key.task) b (omega arith) has)

  pub is-sound : IsSound batches
  is-sound = record {
    set = read.set;
    closed = is-closed batches read none;
    faultless = read.faultless;
    parents = parents-fit batches read none;
    chains = versions-are-chains batches read none;
    origins = origins-differ;
    copies = copies-fit;
    replays = paths-replay;
    carriers = carriers-fit;
  }

-- a set that was read and that none of the causes holds of is sound
pub read_is_sound : (batches : List Batch) → AreRead batches → sound_or batches ≡ Ok tt → IsSound batches
read_is_sound batches read sound = is-sound batches read (has-none batches tt sound)
