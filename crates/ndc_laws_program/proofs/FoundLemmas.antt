-- The workflows that are found in cells: each once, and all to which one of them has written.
use Rattle.std.proofs.Common.{◌≡◌, Bool, true, false, List, [], ◌∷◌, ◌++◌, map, ◌⊎◌, inl, inr, refl, sym, ◌∙◌, subst, ap, append-nil, if◌then◌else◌}
use Rattle.std.specs.List.{AllByRecursion, fold, list_any}
use Rattle.std.proofs.lemmas.List.{map-append}
use Rattle.ndc_model_cells.specs.Places.{is_of}
use Rattle.ndc_event.specs.declared.batch.Batch.{Batch}
use Rattle.ndc_event.specs.declared.name.Name.{Name}
use Rattle.ndc_laws_reached.proofs.ApartLemmas.{Differ, differ-more}
use Rattle.ndc_laws_reached.proofs.WrittenLemmas.{names-of, own-names}
use Rattle.ndc_model.proofs.ListLemmas.{all-append, any-one}
use Rattle.ndc_model_sets.proofs.ForkLemmas.{among-left, among-right}
use Rattle.ndc_model_sets.proofs.Lists.{Among, list_any-one, map-among}
use Rattle.ndc_world_queries.specs.Summaries.{with_workflow}

-- the names of the workflow of a batch
abbrev pub named : Batch → Name × Name
named b = (b.domain, b.workflow)

-- what holds of each batch holds of each workflow that is found
pub found-all : (P : Batch → Type 0) (batches found : List Batch) → AllByRecursion P found → AllByRecursion P batches → AllByRecursion P (fold with_workflow found batches)
found-all P [] found before all = before
found-all P (b ∷ batches) found before all = found-all P batches (with_workflow found b) (by (list_any (is_of b.domain b.workflow) found)) all.1
  where
    by : (t : Bool) → AllByRecursion P (if t then found else found ++ b ∷ [])
    by true = before
    by false = all-append P found (b ∷ []) before (all.0, tt)

-- a batch is of the workflow of these names exactly where they are its own
named-of : (one two : Batch) → is_of one.domain one.workflow two ≡ true → named two ≡ named one
named-of one two own = let n = names-of one.domain one.workflow two own in ap (λ (d : Name). (d, two.workflow)) n.0 ∙ ap (λ (u : Name). (one.domain, u)) n.1

of-named : (one two : Batch) → named two ≡ named one → is_of one.domain one.workflow two ≡ true
of-named one two same =
    subst (λ (pair : Name × Name). is_of pair.0 pair.1 two ≡ true) same (own-names two)

-- no workflow is found twice
pub found-once : (batches found : List Batch) → Differ (map named found) → Differ (map named (fold with_workflow found batches))
found-once [] found differ = differ
found-once (b ∷ batches) found differ = found-once batches (with_workflow found b) (by (list_any (is_of b.domain b.workflow) found) refl)
  where
    by : (t : Bool) → list_any (is_of b.domain b.workflow) found ≡ t → Differ (map named (if t then found else found ++ b ∷ []))
    by true e = differ
    by false e =
        subst Differ (ap (λ (l : List (Name × Name)). map named found ++ l) (append-nil (named b ∷ [])) ∙ sym (map-append named found (b ∷ [])))
        (differ-more (map named found) (named b ∷ []) [] (subst Differ (sym (append-nil (map named found))) differ) ((λ y none. absurd none), tt) apart)
      where
        apart : (x : Name × Name) → Among x (named b ∷ []) → Among x (map named found ++ []) → ⊥
        apart x (inr none) there = none
        apart x (inl same) there =
            let m = map-among named found x (subst (Among x) (append-nil (map named found)) there) in
            absurd (let one : list_any (is_of b.domain b.workflow) found ≡ true = list_any-one (is_of b.domain b.workflow) found m.0 m.1 (of-named b m.0 (sym m.2 ∙ same)) in cc)

-- each batch's workflow is found
pub found-each : (batches found : List Batch) (x : Batch) → Among x found ⊎ Among x batches → (b : Batch) × Among b (fold with_workflow found batches) × (named b ≡ named x)
found-each [] found x (inl among) = (x, among, refl)
found-each [] found x (inr none) = absurd none
found-each (c ∷ batches) found x where_it_is = by (list_any (is_of c.domain c.workflow) found) refl (found-each batches) where_it_is
  where
    by : (t : Bool) → list_any (is_of c.domain c.workflow) found ≡ t
        → ((list : List Batch) (y : Batch) → Among y list ⊎ Among y batches → (b : Batch) × Among b (fold with_workflow list batches) × (named b ≡ named y))
        → Among x found ⊎ Among x (c ∷ batches) → (b : Batch) × Among b (fold with_workflow (if t then found else found ++ c ∷ []) batches) × (named b ≡ named x)
    by true e rest (inl among) = rest found x (inl among)
    by true e rest (inr (inl same)) =
        let one = any-one (is_of c.domain c.workflow) found e in
        let f = rest found one.0 (inl one.1) in
        (f.0, f.1, f.2 ∙ named-of c one.0 one.2 ∙ ap named (sym same))
    by true e rest (inr (inr among)) = rest found x (inr among)
    by false e rest (inl among) = rest (found ++ c ∷ []) x (inl (among-left x found (c ∷ []) among))
    by false e rest (inr (inl same)) = rest (found ++ c ∷ []) x (inl (among-right x found (c ∷ []) (inl same)))
    by false e rest (inr (inr among)) = rest (found ++ c ∷ []) x (inr among)
