-- What is applied again below an open tip.
use Rattle.std.proofs.Common.{◌≡◌, ℕ, Bool, true, false, ◌==◌, [], ◌∷◌, List, length, Option, Some, if◌then◌else◌, ap, sym, subst, ◌∙◌}
use Rattle.ndc_event.specs.declared.batch.Batch.{Batch}
use Rattle.ndc_event.specs.declared.key.BatchKey.{BatchKey}
use Rattle.ndc_event.specs.declared.kind.EventKind.{EventKind}
use Rattle.ndc_event.specs.declared.name.Name.{Name}
use Rattle.ndc_model_cells.specs.Writing.{Entry, alone, batch_below, next_key, reapplication_below}
use Rattle.ndc_model_sets.specs.Branches.{workflow_tip}
use Rattle.ndc_model_sets.specs.Current.{state_to, strays}
use Rattle.ndc_reapply.specs.Reapplied.{reapplied}
use Rattle.ndc_reapply.specs.declared.stray.Stray.{Stray}
use Rattle.ndc_state.specs.Value.{StateValue}

-- a batch with a copy of each stray, where there is one
pub applied_below : (domain workflow : Name) (version : ℕ) (batches : List Batch) (list : List Stray) (tip : Batch) (state : StateValue) (key : BatchKey) (kinds : List EventKind) (b : Batch) (entry : Entry)
    → (length list == 0) ≡ false → list ≡ strays batches → workflow_tip batches ≡ Some tip → state_to tip.run tip.key batches ≡ state → state.running ≡ true
    → kinds ≡ reapplied state version list → key ≡ next_key version batches → b ≡ batch_below domain workflow key tip state kinds → entry ≡ alone b
    → entry ∷ [] ≡ reapplication_below domain workflow version (workflow_tip batches) batches (strays batches)
applied_below domain workflow version batches [] tip state key kinds b entry some all ends there runs again next below is = let clash : true ≡ false = some in absurd (cc)
applied_below domain workflow version batches (stray ∷ list) tip state key kinds b entry some all ends there runs again next below is =
    let made : entry ≡ alone (batch_below domain workflow (next_key version batches) tip state (reapplied state version (stray ∷ list))) =
    is ∙ ap alone (below ∙ ap (λ (k : BatchKey). batch_below domain workflow k tip state kinds) next ∙ ap (batch_below domain workflow (next_key version batches) tip state) again) in
    let here : entry ∷ [] ≡ (if state.running then alone (batch_below domain workflow (next_key version batches) tip state (reapplied state version (stray ∷ list))) ∷ [] else []) =
    ap (λ (e : Entry). e ∷ []) made
    ∙ sym (ap (λ (t : Bool). if t then alone (batch_below domain workflow (next_key version batches) tip state (reapplied state version (stray ∷ list))) ∷ [] else []) runs) in
    subst (λ (s : StateValue). entry ∷ [] ≡ (if s.running then alone (batch_below domain workflow (next_key version batches) tip s (reapplied s version (stray ∷ list))) ∷ [] else [])) (sym there) here
    ∙ sym (ap (λ (t : Option Batch). reapplication_below domain workflow version t batches (strays batches)) ends ∙ ap (reapplication_below domain workflow version (Some tip) batches) (sym all))
