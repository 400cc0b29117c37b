-- Two lists in order of place that are alike by workflow are equal.
use Rattle.std.proofs.Common.{◌≡◌, Bool, true, false, List, [], ◌∷◌, inl, inr, cond, map, refl, sym, ◌∙◌, subst, ap, true≢false}
use Rattle.std.specs.List.{filter}
pub use Rattle.ndc_model_cells.proofs.NameLemmas.{names-of, of-names}
use Rattle.ndc_model_cells.specs.declared.place.Place.{Place}
use Rattle.ndc_model_cells.specs.Places.{AreInOrder, is_of, place_lt, place_of}
use Rattle.ndc_model_cells.proofs.PlaceLemmas.{place-parts, place-trans, PlaceIsBefore}
use Rattle.ndc_domain.proofs.Order.{less_irrefl}
use Rattle.ndc_event.specs.declared.batch.Batch.{Batch}
use Rattle.ndc_event.specs.declared.name.Name.{Name}
use Rattle.ndc_model_sets.proofs.Lists.{Among, all-among, among-map, filter-among}
use Rattle.ndc_shard_waiting.proofs.FreeLemmas.{not-itself}
use Rattle.ndc_model_cells.proofs.NameLemmas.{own-names}

-- each of two batches is of the other's workflow, or neither
pub of-turn : (a b : Batch) → is_of a.domain a.workflow b ≡ true → is_of b.domain b.workflow a ≡ true
of-turn a b e = let names = names-of a.domain a.workflow b e in of-names b.domain b.workflow a (sym names.0) (sym names.1)

-- no place is before itself
pub place-itself : (a : Place) → place_lt a a ≡ true → ⊥
place-itself a l = by (place-parts a a l)
  where
    by : PlaceIsBefore a a → ⊥
    by (inl less) = less_irrefl a.domain less
    by (inr (d, inl less)) = less_irrefl a.workflow less
    by (inr (d, inr (w, k))) = true≢false (sym k ∙ not-itself a.key)

module _ {Y : Type 0} (batch : Y → Batch) where
  -- of the first's workflow, the first stays
  kept-first : (y : Y) (ys : List Y) → filter (λ x. is_of (batch y).domain (batch y).workflow (batch x)) (y ∷ ys) ≡ y ∷ filter (λ x. is_of (batch y).domain (batch y).workflow (batch x)) ys
  kept-first y ys =
      ap (λ t. cond t (y ∷ filter (λ x. is_of (batch y).domain (batch y).workflow (batch x)) ys) (filter (λ x. is_of (batch y).domain (batch y).workflow (batch x)) ys)) (own-names (batch y))

  -- one that stands first in its workflow, but not here, comes later
  comes-later : (y z : Y) (ys zs : List Y) → AreInOrder (map batch (z ∷ zs)) → is_of (batch y).domain (batch y).workflow (batch z) ≡ false
      → filter (λ x. is_of (batch y).domain (batch y).workflow (batch x)) (y ∷ ys) ≡ filter (λ x. is_of (batch y).domain (batch y).workflow (batch x)) (z ∷ zs)
      → place_lt (place_of (batch z)) (place_of (batch y)) ≡ true
  comes-later y z ys zs order other same =
      all-among (λ b. place_lt (place_of (batch z)) (place_of b) ≡ true) (map batch zs) (batch y) order.0 (among-map batch zs y there)
    where
      dropped : filter (λ x. is_of (batch y).domain (batch y).workflow (batch x)) (z ∷ zs) ≡ filter (λ x. is_of (batch y).domain (batch y).workflow (batch x)) zs
      dropped = ap (λ t. cond t (z ∷ filter (λ x. is_of (batch y).domain (batch y).workflow (batch x)) zs) (filter (λ x. is_of (batch y).domain (batch y).workflow (batch x)) zs)) other

      there : Among y zs
      there = (filter-among (λ x. is_of (batch y).domain (batch y).workflow (batch x)) zs y (subst (Among y) (sym (kept-first y ys) ∙ same ∙ dropped) (inl refl))).1

  abbrev first_or : Y → List Y → Y
  first_or y [] = y
  first_or y (x ∷ xs) = x

  abbrev rest_of : List Y → List Y
  rest_of [] = []
  rest_of (x ∷ xs) = xs

  rests-same : (p : Y → Bool) (y z : Y) (ys zs : List Y) → y ≡ z → filter p (y ∷ ys) ≡ filter p (z ∷ zs) → filter p ys ≡ filter p zs
  rests-same p y z ys zs one same = by (p y) (same ∙ ap (λ t. cond t (z ∷ filter p zs) (filter p zs)) (sym (ap p one)))
    where
      by : (t : Bool) → cond t (y ∷ filter p ys) (filter p ys) ≡ cond t (z ∷ filter p zs) (filter p zs) → filter p ys ≡ filter p zs
      by true e = ap rest_of e
      by false e = e

  -- lists in order that are alike by workflow
  pub same_in_order : (ys zs : List Y) → AreInOrder (map batch ys) → AreInOrder (map batch zs)
      → ((domain workflow : Name) → filter (λ x. is_of domain workflow (batch x)) ys ≡ filter (λ x. is_of domain workflow (batch x)) zs) → ys ≡ zs
  same_in_order [] [] one two same = refl
  same_in_order [] (z ∷ zs) one two same =
      let e : [] ≡ z ∷ filter (λ x. is_of (batch z).domain (batch z).workflow (batch x)) zs = same (batch z).domain (batch z).workflow ∙ kept-first z zs in absurd (cc)
  same_in_order (y ∷ ys) [] one two same =
      let e : y ∷ filter (λ x. is_of (batch y).domain (batch y).workflow (batch x)) ys ≡ [] = sym (kept-first y ys) ∙ same (batch y).domain (batch y).workflow in absurd (cc)
  same_in_order (y ∷ ys) (z ∷ zs) one two same =
      by (is_of (batch y).domain (batch y).workflow (batch z)) refl
      (λ first. same_in_order ys zs one.1 two.1 (λ domain workflow. rests-same (λ x. is_of domain workflow (batch x)) y z ys zs first (same domain workflow)))
    where
      by : (t : Bool) → is_of (batch y).domain (batch y).workflow (batch z) ≡ t → (y ≡ z → ys ≡ zs) → y ∷ ys ≡ z ∷ zs
      by true e rest =
          let kept : filter (λ x. is_of (batch y).domain (batch y).workflow (batch x)) (z ∷ zs) ≡ z ∷ filter (λ x. is_of (batch y).domain (batch y).workflow (batch x)) zs =
          ap (λ t. cond t (z ∷ filter (λ x. is_of (batch y).domain (batch y).workflow (batch x)) zs) (filter (λ x. is_of (batch y).domain (batch y).workflow (batch x)) zs)) e in
          let first : y ≡ z = ap (first_or y) (sym (kept-first y ys) ∙ same (batch y).domain (batch y).workflow ∙ kept) in
          ap (λ l. y ∷ l) (rest first) ∙ ap (λ x. x ∷ zs) first
      by false e rest = absurd (turned (is_of (batch z).domain (batch z).workflow (batch y)) refl)
        where
          turned : (t : Bool) → is_of (batch z).domain (batch z).workflow (batch y) ≡ t → ⊥
          turned true f = true≢false (sym (of-turn (batch z) (batch y) f) ∙ e)
          turned false f =
              place-itself (place_of (batch y)) (place-trans (place_of (batch y)) (place_of (batch z)) (place_of (batch y))
              (comes-later z y zs ys one f (sym (same (batch z).domain (batch z).workflow)))
              (comes-later y z ys zs two e (same (batch y).domain (batch y).workflow)))
