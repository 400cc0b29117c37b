-- What is picked is the greatest.
use Rattle.std.proofs.Common.{◌≡◌, ℕ, zero, suc, ◌+◌, Bool, true, false, List, [], ◌∷◌, map, ◌⊎◌, inl, inr, Option, Some, None, slice_get, if◌then◌else◌, refl, sym, ◌∙◌, subst, ap, arith}
use Rattle.ndc_event.specs.Key.{key_lt}
use Rattle.ndc_event.specs.declared.batch.Batch.{Batch}
use Rattle.ndc_event.specs.declared.key.BatchKey.{BatchKey}
use Rattle.ndc_model_sets.specs.Branches.{current_tips, greatest_key, later, workflow_tip}
use Rattle.ndc_model_sets.proofs.BranchLemmas.{none-greatest, up-to}
use Rattle.ndc_model_sets.proofs.KeyLemmas.{before-trans}
use Rattle.ndc_current.specs.Pick.{greater_of, pick_from, place_of, pick_of, IsGreatestAt}

-- the greater of two, by whether the later is
greater-cases : (P : Option (ℕ × BatchKey) → Type 0) (one other : ℕ × BatchKey) → (key_lt one.1 other.1 ≡ true → P (Some other)) → (key_lt one.1 other.1 ≡ false → P (Some one)) → P (greater_of one (Some other))
greater-cases P one other less not_less = by (key_lt one.1 other.1) refl
  where
    by : (t : Bool) → key_lt one.1 other.1 ≡ t → P (if t then Some other else Some one)
    by true e = less e
    by false e = not_less e

-- what is picked stands after the place that is counted from
IsPicked : ℕ → List BatchKey → ℕ × BatchKey → Type 0
IsPicked place keys found = (at : ℕ) × (found.0 ≡ place + at) × IsGreatestAt keys at found.1

some-picked : (place : ℕ) (key : BatchKey) (keys : List BatchKey) → pick_from place (key ∷ keys) ≡ None → ⊥
some-picked place key keys = by (pick_from (place + 1) keys)
  where
    by : (o : Option (ℕ × BatchKey)) → greater_of (place, key) o ≡ None → ⊥
    by None e = absurd (cc)
    by (Some other) e = greater-cases (λ o. o ≡ None → ⊥) (place, key) other (λ _ e. absurd (cc)) (λ _ e. absurd (cc)) e

joined : (a b c : BatchKey) → (a ≡ b) ⊎ (key_lt a b ≡ true) → (b ≡ c) ⊎ (key_lt b c ≡ true) → (a ≡ c) ⊎ (key_lt a c ≡ true)
joined a b c (inl e) h = subst (λ (k : BatchKey). (k ≡ c) ⊎ (key_lt k c ≡ true)) (sym e) h
joined a b c (inr l) (inl e) = inr (subst (λ (k : BatchKey). key_lt a k ≡ true) e l)
joined a b c (inr l) (inr m) = inr (before-trans a b c l m)

picked : (place : ℕ) (keys : List BatchKey) (found : ℕ × BatchKey) → pick_from place keys ≡ Some found → IsPicked place keys found
unfolding IsPicked
picked place [] found e = absurd (cc)
picked place (key ∷ keys) found e = by (pick_from (place + 1) keys) refl (picked (place + 1) keys) e
  where
    first : (keys : List BatchKey) → ((other : BatchKey) (at : ℕ) → slice_get keys at ≡ Some other → (other ≡ key) ⊎ (key_lt other key ≡ true)) → IsGreatestAt (key ∷ keys) 0 key
    first keys top = record { there = refl; top = at-place }
      where
        at-place : (other : BatchKey) (at : ℕ) → slice_get (key ∷ keys) at ≡ Some other → (other ≡ key) ⊎ (key_lt other key ≡ true)
        at-place other zero h = inl (cc)
        at-place other (suc at) h = top other at h

    later_one : (other : BatchKey) (at : ℕ) → key_lt key other ≡ true → IsGreatestAt keys at other → IsGreatestAt (key ∷ keys) (suc at) other
    later_one other at l g = record { there = g.there; top = at-place }
      where
        at-place : (k : BatchKey) (i : ℕ) → slice_get (key ∷ keys) i ≡ Some k → (k ≡ other) ⊎ (key_lt k other ≡ true)
        at-place k zero h = let same : key ≡ k = cc in inr (subst (λ (x : BatchKey). key_lt x other ≡ true) same l)
        at-place k (suc i) h = g.top k i h

    here : (place, key) ≡ found → IsGreatestAt (key ∷ keys) 0 key → (at : ℕ) × (found.0 ≡ place + at) × IsGreatestAt (key ∷ keys) at found.1
    here same g = (0, omega (arith, ap (λ (f : ℕ × BatchKey). f.0) same), subst (λ (f : ℕ × BatchKey). IsGreatestAt (key ∷ keys) 0 f.1) same g)

    by : (o : Option (ℕ × BatchKey)) → pick_from (place + 1) keys ≡ o
        → ((f : ℕ × BatchKey) → pick_from (place + 1) keys ≡ Some f → (at : ℕ) × (f.0 ≡ place + 1 + at) × IsGreatestAt keys at f.1)
        → greater_of (place, key) o ≡ Some found → (at : ℕ) × (found.0 ≡ place + at) × IsGreatestAt (key ∷ keys) at found.1
    by None at rest e = let same : (place, key) ≡ found = cc in here same (first keys (λ other i h. none keys at other i h))
      where
        none : (keys : List BatchKey) → pick_from (place + 1) keys ≡ None → (other : BatchKey) (i : ℕ) → slice_get keys i ≡ Some other → (other ≡ key) ⊎ (key_lt other key ≡ true)
        none [] at other i h = absurd (cc)
        none (k ∷ ks) at other i h = absurd (some-picked (place + 1) k ks at)
    by (Some f) at rest e =
        let r = rest f at in
        greater-cases (λ o. o ≡ Some found → (at : ℕ) × (found.0 ≡ place + at) × IsGreatestAt (key ∷ keys) at found.1) (place, key) f
        (λ l h. let same : f ≡ found = cc in
        (suc r.0, omega (arith, r.1, ap (λ (g : ℕ × BatchKey). g.0) same), subst (λ (g : ℕ × BatchKey). IsGreatestAt (key ∷ keys) (suc r.0) g.1) same (later_one f.1 r.0 l r.2)))
        (λ l h. let same : (place, key) ≡ found = cc in
        here same (first keys (λ other i k. joined other f.1 key (r.2.top other i k) (up-to f.1 key l)))) e

pub picked_is_greatest : (keys : List BatchKey) (place : ℕ) → pick_of keys ≡ Some place → (key : BatchKey) × IsGreatestAt keys place key
unfolding IsPicked
picked_is_greatest keys place = by (pick_from 0 keys) refl
  where
    by : (o : Option (ℕ × BatchKey)) → pick_from 0 keys ≡ o → place_of o ≡ Some place → (key : BatchKey) × IsGreatestAt keys place key
    by None at e = absurd (cc)
    by (Some f) at e =
        let r = picked 0 keys f at in
        let same : f.0 ≡ place = cc in
        let there : r.0 ≡ place = omega (arith, r.1, same) in
        (f.1, subst (λ (n : ℕ). IsGreatestAt keys n f.1) there r.2)

found_at : ℕ → BatchKey → Option (ℕ × BatchKey)
found_at place key = Some (place, key)

-- picking among the keys of batches is taking the batch with the greatest key
picks : (place : ℕ) (batches : List Batch) (tip : Batch) → greatest_key batches ≡ Some tip → (at : ℕ) × (pick_from place (map (λ b. b.key) batches) ≡ found_at (place + at) tip.key) × (slice_get batches at ≡ Some tip)
unfolding found_at
picks place [] tip e = absurd (cc)
picks place (b ∷ batches) tip e = by (greatest_key batches) refl (picks (place + 1) batches) e
  where
    at-first : b ≡ tip → pick_from place (map (λ b. b.key) (b ∷ batches)) ≡ Some (place, b.key) → (at : ℕ) × (pick_from place (map (λ b. b.key) (b ∷ batches)) ≡ Some (place + at, tip.key)) × (slice_get (b ∷ batches) at ≡ Some tip)
    at-first same p =
        let n : place ≡ place + 0 = omega arith in
        (0, p ∙ ap (λ (m : ℕ). Some (m, b.key)) n ∙ ap (λ (x : Batch). Some (place + 0, x.key)) same, ap Some same)

    none-left : (batches : List Batch) → greatest_key batches ≡ None → pick_from (place + 1) (map (λ b. b.key) batches) ≡ None
    none-left [] h = refl
    none-left (c ∷ cs) h = absurd (some-greatest c cs h)
      where
        some-greatest : (c : Batch) (cs : List Batch) → greatest_key (c ∷ cs) ≡ None → ⊥
        some-greatest c cs h = none-greatest (c ∷ cs) c h (inl refl)

    by : (o : Option Batch) → greatest_key batches ≡ o
        → ((t : Batch) → greatest_key batches ≡ Some t → (at : ℕ) × (pick_from (place + 1) (map (λ b. b.key) batches) ≡ Some (place + 1 + at, t.key)) × (slice_get batches at ≡ Some t))
        → later b o ≡ Some tip → (at : ℕ) × (pick_from place (map (λ b. b.key) (b ∷ batches)) ≡ Some (place + at, tip.key)) × (slice_get (b ∷ batches) at ≡ Some tip)
    by None at rest e = let same : b ≡ tip = cc in at-first same (ap (greater_of (place, b.key)) (none-left batches at))
    by (Some x) at rest e = choice (key_lt b.key x.key) refl (rest x at) e
      where
        choice : (t : Bool) → key_lt b.key x.key ≡ t → (i : ℕ) × (pick_from (place + 1) (map (λ b. b.key) batches) ≡ Some (place + 1 + i, x.key)) × (slice_get batches i ≡ Some x)
            → (if t then Some x else Some b) ≡ Some tip → (at : ℕ) × (pick_from place (map (λ b. b.key) (b ∷ batches)) ≡ Some (place + at, tip.key)) × (slice_get (b ∷ batches) at ≡ Some tip)
        choice true l (i, p, g) e =
            let same : x ≡ tip = cc in
            let n : place + 1 + i ≡ place + suc i = omega arith in (
              suc i,
              ap (greater_of (place, b.key)) p ∙ ap (λ t. if t then Some (place + 1 + i, x.key) else Some (place, b.key)) l
                  ∙ ap (λ (m : ℕ). Some (m, x.key)) n ∙ ap (λ (y : Batch). Some (place + suc i, y.key)) same,
              g ∙ ap Some same,
            )
        choice false l (i, p, g) e =
            let same : b ≡ tip = cc in
            at-first same (ap (greater_of (place, b.key)) p ∙ ap (λ t. if t then Some (place + 1 + i, x.key) else Some (place, b.key)) l)

pub picks_the_workflow_tip : (batches : List Batch) (tip : Batch) → workflow_tip batches ≡ Some tip
    → (place : ℕ) × (pick_of (map (λ b. b.key) (current_tips batches)) ≡ Some place) × (slice_get (current_tips batches) place ≡ Some tip)
unfolding found_at
picks_the_workflow_tip batches tip e =
    let r : (at : ℕ) × (pick_from 0 (map (λ b. b.key) (current_tips batches)) ≡ Some (0 + at, tip.key)) × (slice_get (current_tips batches) at ≡ Some tip) = picks 0 (current_tips batches) tip e in
    let n : 0 + r.0 ≡ r.0 = omega arith in
    (r.0, ap place_of r.1 ∙ ap Some n, r.2)
