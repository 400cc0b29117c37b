-- Only the last of some kinds says how a run goes on.
use Rattle.std.proofs.Common.{◌≡◌, ℕ, zero, suc, ◌-◌, List, [], ◌∷◌, length, Some, slice_get, refl, ap, sym, ◌∙◌, arith}
use Rattle.ndc_model_cells.specs.Writing.{goes_on_as}
use Rattle.ndc_event.specs.declared.kind.EventKind.{EventKind}
use Rattle.ndc_event.specs.declared.kind.EventKind.TheVariants.{WorkflowExecutionContinuedAsNew}
use Rattle.ndc_model_sets.proofs.EventLemmas.{before-suc}

goes-behind : (first next : EventKind) (kinds : List EventKind) → goes_on_as (first ∷ next ∷ kinds) ≡ goes_on_as (next ∷ kinds)
goes-behind (WorkflowExecutionContinuedAsNew _ _) next kinds = refl
goes-behind _ next kinds = refl

goes-up : (first : EventKind) (kinds : List EventKind) (i : ℕ) (kind : EventKind) → length kinds ≡ i → slice_get (first ∷ kinds) i ≡ Some kind → goes_on_as (first ∷ kinds) ≡ goes_on_as (kind ∷ [])
goes-up first [] zero kind n h = let same : first ≡ kind = cc in ap (λ (k : EventKind). goes_on_as (k ∷ [])) same
goes-up first [] (suc i) kind n h = absurd (cc)
goes-up first (next ∷ kinds) zero kind n h = absurd (cc)
goes-up first (next ∷ kinds) (suc i) kind n h = goes-behind first next kinds ∙ goes-up next kinds i kind (omega (arith, n)) h

-- the kind at the last place says it
pub goes-at : (kinds : List EventKind) (kind : EventKind) → slice_get kinds (length kinds - 1) ≡ Some kind → goes_on_as kinds ≡ goes_on_as (kind ∷ [])
goes-at [] kind h = absurd (cc)
goes-at (first ∷ kinds) kind h = goes-up first kinds (length kinds) kind refl (sym (ap (slice_get (first ∷ kinds)) (before-suc (length kinds))) ∙ h)
