-- Copied signals fit exactly where what their origins find is their original.
use Rattle.std.proofs.Common.{◌≡◌, ◌<◌, ◌≤◌, ◌⊎◌, ℕ, Bool, true, false, List, [], ◌∷◌, inl, inr, Option, Some, None, if◌then◌else◌, refl, sym, ◌∙◌, subst, ap, arith}
use Rattle.std.specs.List.{AllByRecursion}
use Rattle.std.specs.Str.{bytes_eq}
use Rattle.std.proofs.lemmas.Bool.{and_from, and_parts, eqb-true, eq-eqb}
use Rattle.std.proofs.lemmas.Bool.{cases_lt}
use Rattle.std.proofs.lemmas.List.{append-nil}
use Rattle.std.proofs.lemmas.Slice.Eq.{bytes_eq-Decides}
use Rattle.ndc_event.specs.Batch.{fault_of}
use Rattle.ndc_event.specs.declared.batch.Batch.{Batch}
use Rattle.ndc_event.specs.declared.batch.Event.{Event}
use Rattle.ndc_event.specs.declared.key.Origin.{Origin}
use Rattle.ndc_event.specs.declared.key.RunId.{RunId}
use Rattle.ndc_event.specs.declared.kind.EventKind.{EventKind}
use Rattle.ndc_event.specs.declared.kind.EventKind.TheVariants.{WorkflowExecutionSignaled}
use Rattle.ndc_event.specs.declared.name.Name.{Name}
use Rattle.ndc_model_sets.specs.Branches.{same_run}
use Rattle.ndc_model_sets.specs.Sound.{IsCopyFit, IsSound, Names}
use Rattle.ndc_model_sets.proofs.BranchLemmas.{run-same, same-run}
use Rattle.ndc_model_sets.proofs.Lists.{Among, all-among, all-from, each-list_all, list_all-each}
use Rattle.ndc_tree.specs.Events.{AreVersionsInIdOrder, event_at, event_of as event_of_id}
use Rattle.ndc_tree.proofs.IdLemmas.{other-batches, own-batches}
use Rattle.ndc_tree.proofs.RiseLemmas.{event-found, found}
use Rattle.ndc_shard_runs.specs.Copies.{CopiesFitInto, are_fit_copies, are_fit_to, event_of, is_fit_copy, is_fit_to, is_none_or_original, is_original}
use Rattle.ndc_shard_runs.specs.RunMap.{part_of}
use Rattle.ndc_shard_runs.proofs.OriginLemmas.{found-named, named-found}

original-kind : (name input : Name) (kind : EventKind) → is_original name input kind ≡ true → kind ≡ WorkflowExecutionSignaled name input None
original-kind name input (WorkflowExecutionSignaled other more None) h =
    let p = and_parts (bytes_eq other name) (bytes_eq more input) h in
    ap (λ (n : Name). WorkflowExecutionSignaled n more None) ((bytes_eq-Decides other name).0 p.0) ∙ ap (λ (i : Name). WorkflowExecutionSignaled name i None) ((bytes_eq-Decides more input).0 p.1)
original-kind name input (WorkflowExecutionSignaled other more (Some origin)) h = absurd (cc)
original-kind name input _ h = absurd (cc)

kind-original : (name input : Name) (kind : EventKind) → kind ≡ WorkflowExecutionSignaled name input None → is_original name input kind ≡ true
kind-original name input kind e =
    ap (is_original name input) e ∙ and_from (bytes_eq name name) (bytes_eq input input) ((bytes_eq-Decides name name).1 refl) ((bytes_eq-Decides input input).1 refl)

-- a batch alone
module _ (b : Batch) (ok : fault_of b ≡ None) where
  alone-ids : AreVersionsInIdOrder (b ∷ [])
  alone-ids = ((tt, tt), (ok, tt))

  own-part : (run : RunId) → b.run ≡ run → part_of run (b ∷ []) ≡ b ∷ []
  own-part run e = ap (λ t. if t then b ∷ [] else []) (same-run b.run run e)

  pub own-found : (origin : Origin) (event : Event) → Among event b.events → Names origin b.run event → event_of origin (b ∷ []) ≡ Some event
  own-found origin event among names =
      ap (event_at origin.version origin.event) (own-part origin.run (sym names.run_is))
      ∙ ap (λ v. event_at v origin.event (b ∷ [])) names.version_is ∙ ap (λ i. event_at event.version i (b ∷ [])) names.event_is
      ∙ found (b ∷ []) b event alone-ids (inl refl) among

  pub own-named : (origin : Origin) (event : Event) → event_of origin (b ∷ []) ≡ Some event → Among event b.events × Names origin b.run event
  own-named origin event at = by (same_run b.run origin.run) refl
    where
      alone : (x : Batch) → Among x (b ∷ []) → x ≡ b
      alone x (inl same) = same
      alone x (inr h) = absurd h

      by : (t : Bool) → same_run b.run origin.run ≡ t → Among event b.events × Names origin b.run event
      by true e =
          let run = run-same b.run origin.run e in
          let f = event-found (b ∷ []) origin.version origin.event event (sym (ap (event_at origin.version origin.event) (own-part origin.run run)) ∙ at) in
          (subst (λ (x : Batch). Among event x.events) (alone f.batch f.there) f.among, record { run_is = sym run; event_is = sym f.id_is; version_is = sym f.version_is })
      by false e =
          let none : event_of origin (b ∷ []) ≡ None = ap (λ t. event_at origin.version origin.event (if t then b ∷ [] else [])) e in absurd (cc)

-- the event of a batch that an origin names
pub own-at : (b : Batch) (origin : Origin) → fault_of b ≡ None → b.run.value ≡ origin.run.value → b.key.version ≡ origin.version → event_of_id origin.event b.events ≡ event_of origin (b ∷ [])
own-at b origin ok run version =
    sym (ap (event_at origin.version origin.event) (own-part b ok origin.run (run-same b.run origin.run (eq-eqb b.run.value origin.run.value run)))
    ∙ own-batches origin.version origin.event b.key.version (b ∷ []) (ok, tt) (refl, tt) version ∙ ap (event_of_id origin.event) (append-nil b.events))

pub own-apart : (b : Batch) (origin : Origin) → fault_of b ≡ None → (b.run.value ≡ origin.run.value → b.key.version ≡ origin.version → ⊥) → event_of origin (b ∷ []) ≡ None
own-apart b origin ok apart = by (same_run b.run origin.run) refl
  where
    other : (m n : ℕ) → (m ≡ n → ⊥) → (m < n) ⊎ (n < m)
    other m n none = from (cases_lt m n) (cases_lt n m)
      where
        from : (m < n) ⊎ (n ≤ m) → (n < m) ⊎ (m ≤ n) → (m < n) ⊎ (n < m)
        from (inl l) _ = inl l
        from (inr l) (inl k) = inr k
        from (inr l) (inr k) = absurd (none (omega (arith, l, k)))

    by : (t : Bool) → same_run b.run origin.run ≡ t → event_of origin (b ∷ []) ≡ None
    by true e =
        ap (event_at origin.version origin.event) (own-part b ok origin.run (run-same b.run origin.run e))
        ∙ other-batches origin.version origin.event b.key.version (b ∷ []) (ok, tt) (refl, tt) (other b.key.version origin.version (apart (eqb-true b.run.value origin.run.value e)))
    by false e = ap (λ t. event_at origin.version origin.event (if t then b ∷ [] else [])) e

-- what is found is an original
pub original-found : (name input : Name) (o : Option Event) (event : Event) → o ≡ Some event → is_none_or_original name input o ≡ true → event.kind ≡ WorkflowExecutionSignaled name input None
original-found name input o event at h = original-kind name input event.kind (sym (ap (is_none_or_original name input) at) ∙ h)

pub found-original : (name input : Name) (o : Option Event) → ((event : Event) → o ≡ Some event → event.kind ≡ WorkflowExecutionSignaled name input None) → is_none_or_original name input o ≡ true
found-original name input None fit = refl
found-original name input (Some event) fit = kind-original name input event.kind (fit event refl)

module _ (batches : List Batch) (b : Batch) (sound : IsSound batches) (ok : fault_of b ≡ None) where
  tests : (copy : Event) → Among copy b.events → are_fit_copies batches b ≡ true → (name input : Name) (origin : Origin) → copy.kind ≡ WorkflowExecutionSignaled name input (Some origin)
      → (is_none_or_original name input (event_of origin (b ∷ [])) ≡ true) × (is_none_or_original name input (event_of origin batches) ≡ true)
  tests copy h all name input origin e =
      and_parts (is_none_or_original name input (event_of origin (b ∷ []))) (is_none_or_original name input (event_of origin batches))
      (sym (ap (is_fit_copy batches b) e) ∙ each-list_all (λ event. is_fit_copy batches b event.kind) b.events copy all h)

  pub tested-fit : are_fit_copies batches b ≡ true → CopiesFitInto batches b
  tested-fit all = record {
    own = all-from (λ copy. AllByRecursion (IsCopyFit copy b.run) b.events) b.events
        (λ copy h. all-from (IsCopyFit copy b.run) b.events
        (λ event k name input origin e names. original-found name input (event_of origin (b ∷ [])) event (own-found b ok origin event k names) (tests copy h all name input origin e).0));
    others = λ other has. all-from (λ copy. AllByRecursion (IsCopyFit copy other.run) other.events) b.events
        (λ copy h. all-from (IsCopyFit copy other.run) other.events
        (λ event k name input origin e names. original-found name input (event_of origin batches) event (named-found batches sound origin other event has k names) (tests copy h all name input origin e).1));
  }

  fit-one : CopiesFitInto batches b → (copy : Event) → Among copy b.events → (kind : EventKind) → copy.kind ≡ kind → is_fit_copy batches b kind ≡ true
  fit-one fit copy h (WorkflowExecutionSignaled name input (Some origin)) e =
      and_from (is_none_or_original name input (event_of origin (b ∷ []))) (is_none_or_original name input (event_of origin batches))
      (found-original name input (event_of origin (b ∷ [])) (λ event at.
      let n = own-named b ok origin event at in
      all-among (IsCopyFit copy b.run) b.events event (all-among (λ c. AllByRecursion (IsCopyFit c b.run) b.events) b.events copy fit.own h) n.0 name input origin e n.1))
      (found-original name input (event_of origin batches) (λ event at.
      let n = found-named batches sound origin event at in
      all-among (IsCopyFit copy n.batch.run) n.batch.events event (all-among (λ c. AllByRecursion (IsCopyFit c n.batch.run) n.batch.events) b.events copy (fit.others n.batch n.has) h) n.among name input origin e n.named))
  fit-one fit copy h (WorkflowExecutionSignaled name input None) e = refl
  fit-one fit copy h _ e = refl

  pub fit-tested : CopiesFitInto batches b → are_fit_copies batches b ≡ true
  fit-tested fit = list_all-each (λ event. is_fit_copy batches b event.kind) b.events (λ copy h. fit-one fit copy h copy.kind refl)

-- copied signals in another batch that fit this one
module _ (b other : Batch) (ok : fault_of b ≡ None) where
  pub to-tested : are_fit_to b other.events ≡ true → AllByRecursion (λ copy. AllByRecursion (IsCopyFit copy b.run) b.events) other.events
  to-tested all =
      all-from (λ copy. AllByRecursion (IsCopyFit copy b.run) b.events) other.events
      (λ copy h. all-from (IsCopyFit copy b.run) b.events
      (λ event k name input origin e names. original-found name input (event_of origin (b ∷ [])) event (own-found b ok origin event k names)
      (sym (ap (is_fit_to b) e) ∙ each-list_all (λ x. is_fit_to b x.kind) other.events copy all h)))

  to-one : AllByRecursion (λ copy. AllByRecursion (IsCopyFit copy b.run) b.events) other.events → (copy : Event) → Among copy other.events → (kind : EventKind) → copy.kind ≡ kind → is_fit_to b kind ≡ true
  to-one fit copy h (WorkflowExecutionSignaled name input (Some origin)) e =
      found-original name input (event_of origin (b ∷ [])) (λ event at.
      let n = own-named b ok origin event at in
      all-among (IsCopyFit copy b.run) b.events event (all-among (λ c. AllByRecursion (IsCopyFit c b.run) b.events) other.events copy fit h) n.0 name input origin e n.1)
  to-one fit copy h (WorkflowExecutionSignaled name input None) e = refl
  to-one fit copy h _ e = refl

  pub to-fit : AllByRecursion (λ copy. AllByRecursion (IsCopyFit copy b.run) b.events) other.events → are_fit_to b other.events ≡ true
  to-fit fit = list_all-each (λ x. is_fit_to b x.kind) other.events (λ copy h. to-one fit copy h copy.kind refl)
