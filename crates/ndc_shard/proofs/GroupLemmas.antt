-- Batches in order are those of each workflow, one workflow after the other.
use Rattle.std.proofs.Common.{◌≡◌, Bool, true, false, not, List, [], ◌∷◌, ◌++◌, inl, inr, cond, refl, sym, ◌∙◌, subst, ap, true≢false}
use Rattle.std.specs.List.{AllByRecursion, filter, flat_map}
use Rattle.std.specs.declared.cmp.Ordering.TheVariants.{Less}
use Rattle.ndc_domain.specs.Records.{names_cmp}
use Rattle.ndc_event.specs.declared.batch.Batch.{Batch}
use Rattle.ndc_event.specs.declared.name.Name.{Name}
use Rattle.ndc_model_cells.specs.Jobs.{workflows_of}
use Rattle.ndc_model_cells.specs.Places.{AreBehind, AreInOrder, is_of, place_lt, place_of}
use Rattle.ndc_model_cells.proofs.PlaceLemmas.{PlaceIsBefore, place-from, place-parts, place-trans}
use Rattle.ndc_model_sets.proofs.Lists.{filter-cases}
use Rattle.ndc_shard_workflows.proofs.CellLemmas.{own-names}
use Rattle.ndc_shard_workflows.proofs.ListLemmas.{all-first, others_than}
use Rattle.ndc_shard_workflows.proofs.SameLemmas.{names-of, of-names, of-turn, place-itself}

-- those of the workflows of some batches
abbrev parts : List Batch → List Batch → List Batch
parts bs heads = flat_map (λ h. filter (is_of h.domain h.workflow) bs) heads

-- batches that are not of this one's workflow
abbrev AreOther : Batch → List Batch → Type 0
AreOther b xs = AllByRecursion (λ x. is_of b.domain b.workflow x ≡ false) xs

other-turn : (b h : Batch) → is_of b.domain b.workflow h ≡ false → is_of h.domain h.workflow b ≡ false
other-turn b h e = by (is_of h.domain h.workflow b) refl
  where
    by : (t : Bool) → is_of h.domain h.workflow b ≡ t → t ≡ false
    by true f = absurd (true≢false (sym (of-turn h b f) ∙ e))
    by false f = refl

fewer : (b : Batch) (bs heads : List Batch) → AreOther b heads → parts (b ∷ bs) heads ≡ parts bs heads
fewer b bs [] all = refl
fewer b bs (h ∷ heads) all =
    ap (λ t. cond t (b ∷ filter (is_of h.domain h.workflow) bs) (filter (is_of h.domain h.workflow) bs) ++ parts (b ∷ bs) heads) (other-turn b h all.0)
    ∙ ap (λ l. filter (is_of h.domain h.workflow) bs ++ l) (fewer b bs heads all.1)

none-own : (b : Batch) (xs : List Batch) → AreOther b xs → filter (is_of b.domain b.workflow) xs ≡ []
none-own b [] all = refl
none-own b (x ∷ xs) all = ap (λ t. cond t (x ∷ filter (is_of b.domain b.workflow) xs) (filter (is_of b.domain b.workflow) xs)) all.0 ∙ none-own b xs all.1

all-others : (b : Batch) (xs : List Batch) → AreOther b xs → others_than b xs ≡ xs
all-others b [] all = refl
all-others b (x ∷ xs) all = ap (λ t. cond (not t) (x ∷ others_than b xs) (others_than b xs)) all.0 ∙ ap (λ l. x ∷ l) (all-others b xs all.1)

others-other : (b : Batch) (xs : List Batch) → AreOther b (others_than b xs)
others-other b [] = tt
others-other b (x ∷ xs) =
    filter-cases (AreOther b) (λ other. not (is_of b.domain b.workflow other)) x xs (λ e. (by (is_of b.domain b.workflow x) e, others-other b xs)) (λ _. others-other b xs)
  where
    by : (t : Bool) → not t ≡ true → t ≡ false
    by true e = sym e
    by false e = refl

-- the others of two batches of one workflow
module _ (b c : Batch) (own : is_of b.domain b.workflow c ≡ true) where
  names : (c.domain ≡ b.domain) × (c.workflow ≡ b.workflow)
  names = names-of b.domain b.workflow c own

  same-others : (xs : List Batch) → others_than b xs ≡ others_than c xs
  same-others xs =
      ap (λ (k : Name). filter (λ x. not (is_of k b.workflow x)) xs) (sym names.0) ∙ ap (λ (k : Name). filter (λ x. not (is_of c.domain k x)) xs) (sym names.1)

  same-own : (xs : List Batch) → filter (is_of b.domain b.workflow) xs ≡ filter (is_of c.domain c.workflow) xs
  same-own xs = ap (λ (k : Name). filter (is_of k b.workflow) xs) (sym names.0) ∙ ap (λ (k : Name). filter (is_of c.domain k) xs) (sym names.1)

  others-twice : (xs : List Batch) → others_than b (c ∷ others_than c xs) ≡ others_than c xs
  others-twice xs =
      ap (λ t. cond (not t) (c ∷ others_than b (others_than c xs)) (others_than b (others_than c xs))) own ∙ all-others b (others_than c xs) (subst (AreOther b) (same-others xs) (others-other b xs))

module _ (b c : Batch) (order : place_lt (place_of b) (place_of c) ≡ true) (other : is_of b.domain b.workflow c ≡ false) where
  behind-other : (x : Batch) → place_lt (place_of c) (place_of x) ≡ true → (t : Bool) → is_of b.domain b.workflow x ≡ t → t ≡ false
  behind-other x l true e = absurd (place-itself (place_of x) (place-trans (place_of x) (place_of c) (place_of x) (before (place-parts (place_of b) (place_of c) order)) l))
    where
      names : (x.domain ≡ b.domain) × (x.workflow ≡ b.workflow)
      names = names-of b.domain b.workflow x e

      before : PlaceIsBefore (place_of b) (place_of c) → place_lt (place_of x) (place_of c) ≡ true
      before (inl less) = place-from (place_of x) (place_of c) (inl (subst (λ (k : Name). names_cmp k c.domain ≡ Less) (sym names.0) less))
      before (inr (d, inl less)) = place-from (place_of x) (place_of c) (inr (names.0 ∙ d, inl (subst (λ (k : Name). names_cmp k c.workflow ≡ Less) (sym names.1) less)))
      before (inr (d, inr (w, k))) = absurd (true≢false (sym (of-names b.domain b.workflow c (sym d) (sym w)) ∙ other))
  behind-other x l false e = refl

  all-behind : (xs : List Batch) → AreBehind (place_of c) xs → AreOther b xs
  all-behind [] all = tt
  all-behind (x ∷ xs) all = (e (is_of b.domain b.workflow x) refl, all-behind xs all.1)
    where
      e : (t : Bool) → is_of b.domain b.workflow x ≡ t → is_of b.domain b.workflow x ≡ false
      e t f = f ∙ behind-other x all.0 t f

-- the first of a workflow goes before its others, and those before the other workflows
pub by-workflow : (bs : List Batch) → AreInOrder bs → parts bs (workflows_of bs) ≡ bs
by-workflow [] order = refl
by-workflow (b ∷ []) order = ap (λ t. cond t (b ∷ []) [] ++ []) (own-names b)
by-workflow (b ∷ c ∷ rest) order = by (is_of b.domain b.workflow c) refl (by-workflow (c ∷ rest) order.1)
  where
    first : (l : List Batch) → filter (is_of b.domain b.workflow) (b ∷ c ∷ rest) ++ l ≡ b ∷ filter (is_of b.domain b.workflow) (c ∷ rest) ++ l
    first l = ap (λ t. cond t (b ∷ filter (is_of b.domain b.workflow) (c ∷ rest)) (filter (is_of b.domain b.workflow) (c ∷ rest)) ++ l) (own-names b)

    by : (t : Bool) → is_of b.domain b.workflow c ≡ t → parts (c ∷ rest) (workflows_of (c ∷ rest)) ≡ c ∷ rest → parts (b ∷ c ∷ rest) (workflows_of (b ∷ c ∷ rest)) ≡ b ∷ c ∷ rest
    by true e whole =
        ap (λ l. parts (b ∷ c ∷ rest) (b ∷ l)) (others-twice b c e (workflows_of rest))
        ∙ first (parts (b ∷ c ∷ rest) (others_than c (workflows_of rest)))
        ∙ ap (λ l. b ∷ l ++ parts (b ∷ c ∷ rest) (others_than c (workflows_of rest))) (same-own b c e (c ∷ rest))
        ∙ ap (λ l. b ∷ filter (is_of c.domain c.workflow) (c ∷ rest) ++ l)
        (fewer b (c ∷ rest) (others_than c (workflows_of rest)) (subst (AreOther b) (same-others b c e (workflows_of rest)) (others-other b (workflows_of rest))))
        ∙ ap (λ l. b ∷ l) whole
    by false e whole =
        ap (λ l. parts (b ∷ c ∷ rest) (b ∷ l)) (all-others b (workflows_of (c ∷ rest)) (all-first (λ x. is_of b.domain b.workflow x ≡ false) (c ∷ rest) others))
        ∙ first (parts (b ∷ c ∷ rest) (workflows_of (c ∷ rest)))
        ∙ ap (λ l. b ∷ l ++ parts (b ∷ c ∷ rest) (workflows_of (c ∷ rest))) (none-own b (c ∷ rest) others)
        ∙ ap (λ l. b ∷ l) (fewer b (c ∷ rest) (workflows_of (c ∷ rest)) (all-first (λ x. is_of b.domain b.workflow x ≡ false) (c ∷ rest) others) ∙ whole)
      where
        others : AreOther b (c ∷ rest)
        others = (e, all-behind b c order.0.0 e rest order.1.0)
