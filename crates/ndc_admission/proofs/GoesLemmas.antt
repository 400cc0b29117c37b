-- The last event alone says whether a batch goes on as another run.
use Rattle.std.proofs.Common.{◌≡◌, ℕ, zero, suc, ◌-◌, List, [], ◌∷◌, length, map, Some, slice_get, is_some, refl, ap, sym, ◌∙◌, arith}
use Rattle.ndc_event.specs.declared.batch.Event.{Event}
use Rattle.ndc_event.specs.declared.kind.EventKind.{EventKind}
use Rattle.ndc_event.specs.declared.kind.EventKind.TheVariants.{WorkflowExecutionContinuedAsNew}
use Rattle.ndc_model_cells.specs.Writing.{goes_on_as}
use Rattle.ndc_model_sets.proofs.EventLemmas.{before-suc}
use Rattle.ndc_admission.specs.Faults.{continues}

-- the kinds of events
abbrev kinds : List Event → List EventKind
kinds events = map (λ event. event.kind) events

kind-says : (kind : EventKind) → is_some (goes_on_as (kind ∷ [])) ≡ continues kind
kind-says (WorkflowExecutionContinuedAsNew _ _) = refl
kind-says _ = refl

goes-behind : (first next : EventKind) (later : List EventKind) → goes_on_as (first ∷ next ∷ later) ≡ goes_on_as (next ∷ later)
goes-behind (WorkflowExecutionContinuedAsNew _ _) next later = refl
goes-behind _ next later = refl

goes-up : (first : Event) (events : List Event) (i : ℕ) (event : Event) → length events ≡ i → slice_get (first ∷ events) i ≡ Some event
    → goes_on_as (kinds (first ∷ events)) ≡ goes_on_as (event.kind ∷ [])
goes-up first [] zero event n h = let same : first ≡ event = cc in ap (λ (e : Event). goes_on_as (e.kind ∷ [])) same
goes-up first [] (suc i) event n h = absurd (cc)
goes-up first (next ∷ events) zero event n h = absurd (cc)
goes-up first (next ∷ events) (suc i) event n h = goes-behind first.kind next.kind (kinds events) ∙ goes-up next events i event (omega (arith, n)) h

-- events go on as another run where the last one does
pub goes-last : (events : List Event) (event : Event) → slice_get events (length events - 1) ≡ Some event
    → is_some (goes_on_as (map (λ event. event.kind) events)) ≡ continues event.kind
goes-last [] event h = absurd (cc)
goes-last (first ∷ events) event h =
    ap (λ o. is_some o) (goes-up first events (length events) event refl (sym (ap (slice_get (first ∷ events)) (before-suc (length events))) ∙ h)) ∙ kind-says event.kind
