-- The first batches of workflows, of batches in order, are found workflow by workflow.
use Rattle.std.proofs.Common.{◌≡◌, Bool, true, false, not, List, [], ◌∷◌, Option, Some, None, cond, map, refl, sym, ◌∙◌, ap, true≢false}
use Rattle.std.specs.Prelude.{is_some}
use Rattle.std.specs.List.{AllByRecursion, cons_option, filter, filter_map}
use Rattle.std.specs.List.Sorted.{IsStrictlySortedBy}
use Rattle.std.specs.Option.{option_map}
use Rattle.ndc_model_cells.specs.declared.place.Place.{Place}
use Rattle.ndc_model_cells.specs.Jobs.{workflows_of}
use Rattle.ndc_model_cells.specs.Places.{AreInOrder, is_of, place_of}
use Rattle.ndc_event.specs.declared.batch.Batch.{Batch}
use Rattle.ndc_event.specs.declared.name.Name.{Name}
use Rattle.ndc_shard_workflows.proofs.CellLemmas.{own-names}
use Rattle.ndc_shard_workflows.specs.Behind.{first_batch}
use Rattle.ndc_shard_workflows.specs.Due.{is_listed, names_order}
use Rattle.ndc_shard_workflows.proofs.KeptLemmas.{same-kept}
use Rattle.ndc_shard_workflows.proofs.ListLemmas.{all_names, names_in, names-sorted, none-listed, others_than}
use Rattle.ndc_shard_workflows.proofs.SameLemmas.{of-turn}

-- the first batch of a workflow among these
abbrev first_in : List Batch → Name × Name → Option Batch
first_in bs names = first_batch (filter (is_of names.0 names.1) bs)

-- each of the first batches of workflows is that
firsts : (bs : List Batch) → AllByRecursion (λ b. first_in bs (names_in b) ≡ Some b) (workflows_of bs)
firsts [] = tt
firsts (b ∷ bs) =
    (ap (λ t. first_batch (cond t (b ∷ filter (is_of b.domain b.workflow) bs) (filter (is_of b.domain b.workflow) bs))) (own-names b), others (workflows_of bs) (firsts bs))
  where
    apart : (x : Batch) → is_of b.domain b.workflow x ≡ false → (t : Bool) → is_of x.domain x.workflow b ≡ t → t ≡ false
    apart x e true f = absurd (true≢false (sym (of-turn x b f) ∙ e))
    apart x e false f = refl

    others : (xs : List Batch) → AllByRecursion (λ x. first_in bs (names_in x) ≡ Some x) xs → AllByRecursion (λ x. first_in (b ∷ bs) (names_in x) ≡ Some x) (others_than b xs)
    others [] all = tt
    others (x ∷ xs) all = by (is_of b.domain b.workflow x) refl (others xs all.1)
      where
        by : (t : Bool) → is_of b.domain b.workflow x ≡ t → AllByRecursion (λ y. first_in (b ∷ bs) (names_in y) ≡ Some y) (others_than b xs)
            → AllByRecursion (λ y. first_in (b ∷ bs) (names_in y) ≡ Some y) (cond (not t) (x ∷ others_than b xs) (others_than b xs))
        by true e rest = rest
        by false e rest = (
          ap (λ t. first_batch (cond t (b ∷ filter (is_of x.domain x.workflow) bs) (filter (is_of x.domain x.workflow) bs)))
              (apart x e (is_of x.domain x.workflow b) refl) ∙ all.0,
          rest,
        )

-- those for which there is nothing may be left out
module _ {X Y : Type 0} (f : X → Option Y) where
  left-out : (xs : List X) → filter_map f xs ≡ filter_map f (filter (λ x. is_some (f x)) xs)
  left-out [] = refl
  left-out (x ∷ xs) = by (f x) refl (left-out xs)
    where
      by : (o : Option Y) → f x ≡ o → filter_map f xs ≡ filter_map f (filter (λ y. is_some (f y)) xs)
          → cons_option o (filter_map f xs) ≡ filter_map f (cond (is_some o) (x ∷ filter (λ y. is_some (f y)) xs) (filter (λ y. is_some (f y)) xs))
      by None e rest = rest
      by (Some y) e rest = ap (cons_option (Some y)) rest ∙ ap (λ o. cons_option o (filter_map f (filter (λ z. is_some (f z)) xs))) (sym e)

module _ (bs : List Batch) (order : AreInOrder bs) where
  abbrev place_in : Name × Name → Option Place
  place_in names = option_map place_of (first_in bs names)

  abbrev workflows : List (Name × Name)
  workflows = all_names (workflows_of bs)

  each-place : (xs : List Batch) → AllByRecursion (λ b. first_in bs (names_in b) ≡ Some b) xs → filter_map place_in (all_names xs) ≡ map place_of xs
  each-place [] all = refl
  each-place (x ∷ xs) all =
      ap (λ o. cons_option (option_map place_of o) (filter_map place_in (all_names xs))) all.0 ∙ ap (λ l. place_of x ∷ l) (each-place xs all.1)

  -- a workflow with a batch is listed, where those that are not have none
  listed-there : (list : List (Name × Name)) → ((d w : Name) → is_listed d w list ≡ false → filter (is_of d w) bs ≡ []) → (d w : Name) → is_some (place_in (d, w)) ≡ true → is_listed d w list ≡ true
  listed-there list covers d w e = by (is_listed d w list) refl
    where
      by : (t : Bool) → is_listed d w list ≡ t → t ≡ true
      by true f = refl
      by false f = absurd (true≢false (sym e ∙ ap (λ l. is_some (option_map place_of (first_batch l))) (covers d w f)))

  -- the places of the first batches of workflows, of a list that has each of which there is a batch
  pub places-are : (list : List (Name × Name)) → IsStrictlySortedBy names_order list → ((d w : Name) → is_listed d w list ≡ false → filter (is_of d w) bs ≡ [])
      → filter_map place_in list ≡ map place_of (workflows_of bs)
  places-are list sorted covers =
      left-out place_in list
      ∙ ap (filter_map place_in)
      (sym (same-kept (λ names. is_some (place_in names)) workflows list (names-sorted bs order) sorted (listed-there workflows (λ d w e. none-listed d w bs e)) (listed-there list covers)))
      ∙ sym (left-out place_in workflows) ∙ each-place (workflows_of bs) (firsts bs)
