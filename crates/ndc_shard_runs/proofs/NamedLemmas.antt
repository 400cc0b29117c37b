-- Where each copy names an original that is learned, none names an event of a batch that comes next.
use Rattle.std.proofs.Common.{◌≡◌, ◌⊎◌, ◌||◌, Bool, true, false, is_some, List, [], ◌∷◌, inl, inr, Option, Some, None, IsOk, refl, sym, ◌∙◌, subst, ap}
use Rattle.std.specs.List.{AllByRecursion}
use Rattle.ndc_event.specs.Batch.{fault_of}
use Rattle.ndc_event.specs.declared.batch.Batch.{Batch}
use Rattle.ndc_event.specs.declared.batch.Event.{Event}
use Rattle.ndc_event.specs.declared.key.Origin.{Origin}
use Rattle.ndc_event.specs.declared.kind.EventKind.{EventKind}
use Rattle.ndc_event.specs.declared.kind.EventKind.TheVariants.{WorkflowExecutionSignaled}
use Rattle.ndc_event.specs.declared.name.Name.{Name}
use Rattle.ndc_model_cells.proofs.AmongLemmas.{among-is, is-among}
use Rattle.ndc_model_sets.specs.Sets.{Has, arrived, batch_at}
use Rattle.ndc_model_sets.specs.Sound.{CopiesNamed, HasOriginal, IsCopyFit, IsSound, Names, NamesOriginal}
use Rattle.ndc_model_sets.specs.Writing.{CopiesFitWith}
use Rattle.ndc_model_sets.proofs.ArrivalLemmas.{is_there, stays, was_or_new}
use Rattle.ndc_model_sets.proofs.BranchLemmas.{among-has, has-among}
use Rattle.ndc_model_sets.proofs.Lists.{Among, all-among, all-from, each-list_all, list_all-each}
use Rattle.ndc_run.specs.Learning.{learned}
use Rattle.ndc_tree.specs.Events.{event_at}
use Rattle.ndc_tree.proofs.RiseLemmas.{found, ids-rise}
use Rattle.ndc_shard_runs.specs.Copies.{CopiesFitInto, are_named_copies, are_open_fit, event_of, is_named_copy, is_none_or_original, is_open_fit, open_copies_fit}
use Rattle.ndc_shard_runs.specs.Fitting.{ComesNext}
use Rattle.ndc_shard_runs.specs.RunMap.{part_of}
use Rattle.ndc_shard_runs.proofs.CopyLemmas.{found-original, original-found, own-found, own-named}
use Rattle.ndc_shard_runs.proofs.FitLemmas.{itself, others, tree}
use Rattle.ndc_shard_runs.proofs.OriginLemmas.{found-named, named-found}

module _ (batches : List Batch) (b : Batch) (sound : IsSound batches) (next : ComesNext batches b) (taken : IsOk (learned b.run (part_of b.run batches) b)) where
  -- an event of the run is found among those of the run with the batch
  found-there : (x : Batch) (event : Event) → Has (arrived b (part_of b.run batches)) x → Among event x.events → event_at event.version event.id (arrived b (part_of b.run batches)) ≡ Some event
  found-there x event has among =
      found (arrived b (part_of b.run batches)) x event (ids-rise b.run (arrived b (part_of b.run batches)) (tree batches b sound next taken)) (has-among (arrived b (part_of b.run batches)) x has) among

  -- an origin that names a learned event names no other one in the batch
  one-event : (origin : Origin) (x : Batch) (one event : Event) → Has batches x → Among one x.events → Names origin x.run one → Among event b.events → Names origin b.run event → one ≡ event
  one-event origin x one event has there named among names =
      let run = sym named.run_is ∙ names.run_is in
      let id = sym named.event_is ∙ names.event_is in
      let version = sym named.version_is ∙ names.version_is in
      let first = found-there x one (others batches b sound next taken x has run) there in
      let second = found-there b event (itself batches b sound next taken) among in
      let both = sym first ∙ ap (λ v. event_at v one.id (arrived b (part_of b.run batches))) version ∙ ap (λ i. event_at event.version i (arrived b (part_of b.run batches))) id ∙ second in
      cc

  back-fits : (copy event : Event) → NamesOriginal batches copy.kind → Among event b.events → IsCopyFit copy b.run event
  back-fits copy event original among name input origin kind names =
      let o = original name input origin kind in
      subst (λ (e : Event). e.kind ≡ WorkflowExecutionSignaled name input None)
      (one-event origin o.batch o.event event o.has (is-among o.batch.events o.event o.among) o.named among names) o.kind

  pub named-copies-fit : CopiesNamed batches → CopiesFitInto batches b → CopiesFitWith batches b
  named-copies-fit named fit = record {
    own = fit.own;
    others = λ x has. record {
      mine = fit.others x has;
      theirs = all-from (λ copy. AllByRecursion (IsCopyFit copy b.run) b.events) x.events
          (λ copy h. all-from (IsCopyFit copy b.run) b.events
          (λ event k. back-fits copy event (all-among (λ (e : Event). NamesOriginal batches e.kind) x.events copy (named x has) h) k));
    };
  }

  -- a learned copy that is not open, or names nothing but its original in the batch, fits it
  open-fits : (x : Batch) → Has batches x → open_copies_fit batches b ≡ true → (copy event : Event) → Among copy x.events → Among event b.events → IsCopyFit copy b.run event
  open-fits x has all copy event h among name input origin kind names = by (event_of origin batches) refl tested
    where
      tested : (is_some (event_of origin batches) || is_none_or_original name input (event_of origin (b ∷ []))) ≡ true
      tested =
          sym (ap (is_open_fit batches b) kind)
          ∙ each-list_all (λ e. is_open_fit batches b e.kind) x.events copy (each-list_all (λ other. are_open_fit batches b other.events) batches x all (has-among batches x has)) h

      by : (o : Option Event) → event_of origin batches ≡ o → (is_some o || is_none_or_original name input (event_of origin (b ∷ []))) ≡ true → event.kind ≡ WorkflowExecutionSignaled name input None
      by None e t = original-found name input (event_of origin (b ∷ [])) event (own-found b next.faultless origin event among names) t
      by (Some one) e t =
          let n = found-named batches sound origin one e in
          let fit = all-among (IsCopyFit copy n.batch.run) n.batch.events one (all-among (λ c. AllByRecursion (IsCopyFit c n.batch.run) n.batch.events) x.events copy (sound.copies x n.batch has n.has) h) n.among name input origin kind n.named in
          subst (λ (v : Event). v.kind ≡ WorkflowExecutionSignaled name input None) (one-event origin n.batch one event n.has n.among n.named among names) fit

  pub open-copies-fit : CopiesFitInto batches b → open_copies_fit batches b ≡ true → CopiesFitWith batches b
  open-copies-fit fit all = record {
    own = fit.own;
    others = λ x has. record {
      mine = fit.others x has;
      theirs = all-from (λ copy. AllByRecursion (IsCopyFit copy b.run) b.events) x.events
          (λ copy h. all-from (IsCopyFit copy b.run) b.events (λ event k. open-fits x has all copy event h k));
    };
  }

-- where each copy names an original, none is open
pub none-open : (batches : List Batch) (b : Batch) → IsSound batches → CopiesNamed batches → open_copies_fit batches b ≡ true
none-open batches b sound named =
    list_all-each (λ other. are_open_fit batches b other.events) batches
    (λ x h. list_all-each (λ e. is_open_fit batches b e.kind) x.events (λ copy k. one x (among-has batches x sound.set.ordered h) copy k copy.kind refl))
  where
    here : (name input : Name) (origin : Origin) (o : Option Event) → is_some o ≡ true → (is_some o || is_none_or_original name input (event_of origin (b ∷ []))) ≡ true
    here name input origin (Some event) h = refl
    here name input origin None h = absurd (cc)

    one : (x : Batch) → Has batches x → (copy : Event) → Among copy x.events → (kind : EventKind) → copy.kind ≡ kind → is_open_fit batches b kind ≡ true
    one x has copy k (WorkflowExecutionSignaled name input (Some origin)) e =
        let o = all-among (λ (c : Event). NamesOriginal batches c.kind) x.events copy (named x has) k name input origin e in
        here name input origin (event_of origin batches) (ap is_some (named-found batches sound origin o.batch o.event o.has (is-among o.batch.events o.event o.among) o.named))
    one x has copy k (WorkflowExecutionSignaled name input None) e = refl
    one x has copy k _ e = refl

-- copies that fit both ways pass the test
pub open-tested : (batches : List Batch) (b : Batch) → IsSound batches → fault_of b ≡ None → CopiesFitWith batches b → open_copies_fit batches b ≡ true
open-tested batches b sound ok fit =
    list_all-each (λ other. are_open_fit batches b other.events) batches
    (λ x h. list_all-each (λ e. is_open_fit batches b e.kind) x.events (λ copy k. one x (among-has batches x sound.set.ordered h) copy k copy.kind refl))
  where
    or-true : (s t : Bool) → t ≡ true → (s || t) ≡ true
    or-true true t h = refl
    or-true false t h = h

    one : (x : Batch) → Has batches x → (copy : Event) → Among copy x.events → (kind : EventKind) → copy.kind ≡ kind → is_open_fit batches b kind ≡ true
    one x has copy k (WorkflowExecutionSignaled name input (Some origin)) e =
        or-true (is_some (event_of origin batches)) (is_none_or_original name input (event_of origin (b ∷ [])))
        (found-original name input (event_of origin (b ∷ [])) (λ event at.
        let n = own-named b ok origin event at in
        all-among (IsCopyFit copy b.run) b.events event (all-among (λ c. AllByRecursion (IsCopyFit c b.run) b.events) x.events copy (fit.others x has).theirs k) n.0 name input origin e n.1))
    one x has copy k (WorkflowExecutionSignaled name input None) e = refl
    one x has copy k _ e = refl

-- where each copy names an original, and each copy of a batch an event that is there then, each names an original then
pub named-with : (batches : List Batch) (b : Batch) → IsSound batches → IsSound (arrived b batches) → batch_at b.key batches ≡ None → fault_of b ≡ None → CopiesNamed batches → are_named_copies batches b ≡ true → CopiesNamed (arrived b batches)
named-with batches b sound after none ok named all x has = by (was_or_new b batches x sound.set.ordered has)
  where
    mine : Has (arrived b batches) b
    mine = is_there b batches sound.set.ordered none

    stay : (y : Batch) → Has batches y → Has (arrived b batches) y
    stay y h = stays b batches sound.set.ordered y h

    more : (y : Batch) → Has batches y → (copy : Event) → Among copy y.events → NamesOriginal (arrived b batches) copy.kind
    more y h copy k name input origin e =
        let o = all-among (λ (c : Event). NamesOriginal batches c.kind) y.events copy (named y h) k name input origin e in
        record { batch = o.batch; has = stay o.batch o.has; event = o.event; among = o.among; named = o.named; kind = o.kind }

    own : (copy : Event) → Among copy b.events → NamesOriginal (arrived b batches) copy.kind
    own copy h name input origin e = found-one (event_of origin (b ∷ [])) refl (event_of origin batches) refl tested
      where
        tested : (is_some (event_of origin (b ∷ [])) || is_some (event_of origin batches)) ≡ true
        tested = sym (ap (is_named_copy batches b) e) ∙ each-list_all (λ event. is_named_copy batches b event.kind) b.events copy all h

        original : (y : Batch) (event : Event) → Has (arrived b batches) y → Among event y.events → Names origin y.run event → HasOriginal (arrived b batches) origin name input
        original y event there among names = record {
          batch = y;
          has = there;
          event = event;
          among = among-is y.events event among;
          named = names;
          kind = all-among (IsCopyFit copy y.run) y.events event (all-among (λ c. AllByRecursion (IsCopyFit c y.run) y.events) b.events copy (after.copies b y mine there) h) among name input origin e names;
        }

        found-one : (o : Option Event) → event_of origin (b ∷ []) ≡ o → (p : Option Event) → event_of origin batches ≡ p → (is_some o || is_some p) ≡ true → HasOriginal (arrived b batches) origin name input
        found-one (Some event) at p at_p t = let n = own-named b ok origin event at in original b event mine n.0 n.1
        found-one None at (Some event) at_p t = let n = found-named batches sound origin event at_p in original n.batch event (stay n.batch n.has) n.among n.named
        found-one None at None at_p t = absurd (cc)

    by : (x ≡ b) ⊎ Has batches x → AllByRecursion (λ copy. NamesOriginal (arrived b batches) copy.kind) x.events
    by (inl same) = subst (λ (y : Batch). AllByRecursion (λ copy. NamesOriginal (arrived b batches) copy.kind) y.events) (sym same) (all-from (λ (copy : Event). NamesOriginal (arrived b batches) copy.kind) b.events own)
    by (inr old) = all-from (λ (copy : Event). NamesOriginal (arrived b batches) copy.kind) x.events (more x old)

-- the same of two batches, of which the second is learned after the first
pub named-both : (batches : List Batch) (b second : Batch) → IsSound batches → IsSound (arrived b batches) → IsSound (arrived second (arrived b batches)) → batch_at b.key batches ≡ None → batch_at second.key (arrived b batches) ≡ None
    → fault_of b ≡ None → fault_of second ≡ None → CopiesNamed batches → are_named_copies batches b ≡ true → are_named_copies batches second ≡ true → CopiesNamed (arrived second (arrived b batches))
named-both batches b second sound after both none fresh ok ok2 named first then =
    named-with (arrived b batches) second after both fresh ok2 (named-with batches b sound after none ok named first)
    (list_all-each (λ event. is_named_copy (arrived b batches) second event.kind) second.events (λ copy h. one copy h copy.kind refl))
  where
    or-more : (s t u : Bool) → (s || t) ≡ true → (t ≡ true → u ≡ true) → (s || u) ≡ true
    or-more true t u h f = refl
    or-more false t u h f = f h

    there : (origin : Origin) → is_some (event_of origin batches) ≡ true → is_some (event_of origin (arrived b batches)) ≡ true
    there origin = by (event_of origin batches) refl
      where
        by : (o : Option Event) → event_of origin batches ≡ o → is_some o ≡ true → is_some (event_of origin (arrived b batches)) ≡ true
        by None e h = absurd (cc)
        by (Some event) e h =
            let n = found-named batches sound origin event e in
            ap is_some (named-found (arrived b batches) after origin n.batch event (stays b batches sound.set.ordered n.batch n.has) n.among n.named)

    one : (copy : Event) → Among copy second.events → (kind : EventKind) → copy.kind ≡ kind → is_named_copy (arrived b batches) second kind ≡ true
    one copy h (WorkflowExecutionSignaled name input (Some origin)) e =
        or-more (is_some (event_of origin (second ∷ []))) (is_some (event_of origin batches)) (is_some (event_of origin (arrived b batches)))
        (sym (ap (is_named_copy batches second) e) ∙ each-list_all (λ event. is_named_copy batches second event.kind) second.events copy then h) (there origin)
    one copy h (WorkflowExecutionSignaled name input None) e = refl
    one copy h _ e = refl
