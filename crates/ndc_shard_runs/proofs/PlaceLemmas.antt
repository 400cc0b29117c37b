-- Keys with their runs, in a map and in a list.
use Rattle.std.proofs.Common.{◌≡◌, ℕ, zero, suc, ◌-◌, Bool, true, false, List, [], ◌∷◌, ◌++◌, length, cond, Option, Some, None, slice_get, refl, ap, sym, ◌∙◌, subst, arith, if◌then◌else◌}
use Rattle.std.specs.BTreeMap.{insert_entry, is_at}
use Rattle.std.specs.List.{AllByRecursion}
use Rattle.std.specs.Map.{lookup, remove_entry}
use Rattle.std.specs.Option.{option_map, option_or}
use Rattle.std.specs.Ordering.{is_eq}
use Rattle.std.specs.declared.cmp.Ordering.{Ordering}
use Rattle.ndc_event.specs.Key.{key_lt, key_eq}
use Rattle.ndc_event.specs.declared.batch.Batch.{Batch}
use Rattle.ndc_event.specs.declared.key.BatchKey.{BatchKey}
use Rattle.ndc_event.specs.declared.key.RunId.{RunId}
use Rattle.ndc_model_sets.specs.Sets.{batch_at, arrived}
use Rattle.ndc_model_sets.proofs.KeyLemmas.{key_eq-self, same-keys}
use Rattle.ndc_model_sets.specs.Last.{last_batch}
use Rattle.ndc_model_sets.proofs.KeyOrder.{key_cmp, key_cmp-same}
use Rattle.ndc_shard_runs.specs.Places.{places_of, place_at, with_place, without_place, last_place}
use Rattle.ndc_shard_runs.proofs.ArrivedLemmas.{none-parts, not-less, not-same}
use Rattle.ndc_model_sets.proofs.EventLemmas.{before-suc}

module _ (cmp : BatchKey → BatchKey → Ordering) (law : (a b : BatchKey) → cmp a b ≡ key_cmp a b) where
  at-key : (key other : BatchKey) → is_at (cmp key) other ≡ key_eq other key
  at-key key other = ap is_eq (law key other) ∙ key_cmp-same key other

  pub lookup-place : (key : BatchKey) (places : List (BatchKey × RunId)) → lookup (is_at (cmp key)) places ≡ place_at key places
  lookup-place key [] = refl
  lookup-place key (p ∷ ps) =
      ap (λ t. cond t (Some p.1) (lookup (is_at (cmp key)) ps)) (at-key key p.0) ∙ ap (λ o. cond (key_eq p.0 key) (Some p.1) o) (lookup-place key ps)

  pub insert-place : (key : BatchKey) (run : RunId) (places : List (BatchKey × RunId)) → insert_entry cmp places key run ≡ with_place key run places
  insert-place key run [] = refl
  insert-place key run (p ∷ ps) = by (key_lt key p.0) (key_eq key p.0) refl refl (insert-place key run ps)
    where
      by : (l e : Bool) → key_lt key p.0 ≡ l → key_eq key p.0 ≡ e → insert_entry cmp ps key run ≡ with_place key run ps → insert_entry cmp (p ∷ ps) key run ≡ with_place key run (p ∷ ps)
      by true e f g rest = rw (law key p.0, f) refl
      by false true f g rest = rw (law key p.0, f, g) refl
      by false false f g rest = rw (law key p.0, f, g) (ap (λ l. p ∷ l) rest)

  pub remove-place : (key : BatchKey) (places : List (BatchKey × RunId)) → remove_entry (is_at (cmp key)) places ≡ without_place key places
  remove-place key [] = refl
  remove-place key (p ∷ ps) = by (key_eq p.0 key) (at-key key p.0) refl (remove-place key ps)
    where
      by : (t : Bool) → is_at (cmp key) p.0 ≡ key_eq p.0 key → key_eq p.0 key ≡ t → remove_entry (is_at (cmp key)) ps ≡ without_place key ps → remove_entry (is_at (cmp key)) (p ∷ ps) ≡ without_place key (p ∷ ps)
      by true e t rest = rw (e, t) refl
      by false e t rest = rw (e, t) (ap (λ l. p ∷ l) rest)

-- the entry at the last place
last-up : (places : List (BatchKey × RunId)) (i : ℕ) (p : BatchKey × RunId) → length places ≡ suc i → slice_get places i ≡ Some p → last_place places ≡ Some p
last-up [] i p n h = absurd (cc)
last-up (x ∷ []) zero p n h = h
last-up (x ∷ []) (suc i) p n h = absurd (cc)
last-up (x ∷ y ∷ places) zero p n h = absurd (omega (arith, n))
last-up (x ∷ y ∷ places) (suc i) p n h = last-up (y ∷ places) i p (omega (arith, n)) h

pub last-at : (places : List (BatchKey × RunId)) (p : BatchKey × RunId) → slice_get places (length places - 1) ≡ Some p → last_place places ≡ Some p
last-at [] p h = absurd (cc)
last-at (x ∷ places) p h = last-up (x ∷ places) (length places) p refl (sym (ap (slice_get (x ∷ places)) (before-suc (length places))) ∙ h)

-- the run of a key is that of the batch of this key
pub place-batch : (key : BatchKey) (batches : List Batch) → place_at key (places_of batches) ≡ option_map (λ b. b.run) (batch_at key batches)
place-batch key [] = refl
place-batch key (b ∷ batches) = by (key_eq b.key key) refl (place-batch key batches)
  where
    by : (t : Bool) → key_eq b.key key ≡ t → place_at key (places_of batches) ≡ option_map (λ x. x.run) (batch_at key batches) → place_at key (places_of (b ∷ batches)) ≡ option_map (λ x. x.run) (batch_at key (b ∷ batches))
    by true e rest = rw e refl
    by false e rest = rw e rest

-- the key of a batch with its run
abbrev pub place : Batch → BatchKey × RunId
place b = (b.key, b.run)

-- the last place is that of the last batch
pub last-batch : (batches : List Batch) → last_place (places_of batches) ≡ option_map (λ b. place b) (last_batch batches)
last-batch [] = refl
last-batch (b ∷ []) = refl
last-batch (b ∷ c ∷ batches) = last-batch (c ∷ batches) ∙ by (last_batch batches)
  where
    by : (o : Option Batch) → option_map (λ x. place x) (option_or o (Some c)) ≡ option_map (λ x. place x) (option_or (option_or o (Some c)) (Some b))
    by None = refl
    by (Some x) = refl

-- the places of batches with one more
pub with-arrived : (b : Batch) (batches : List Batch) → batch_at b.key batches ≡ None → with_place b.key b.run (places_of batches) ≡ places_of (arrived b batches)
with-arrived b [] none = refl
with-arrived b (x ∷ xs) none = by (key_lt b.key x.key) (key_eq b.key x.key) refl refl (none-parts x xs b.key none) (with-arrived b xs)
  where
    flip : key_eq b.key x.key ≡ true → key_eq x.key b.key ≡ true
    flip e = subst (λ (k : BatchKey). key_eq k b.key ≡ true) (same-keys b.key x.key e) (key_eq-self b.key)

    by : (l e : Bool) → key_lt b.key x.key ≡ l → key_eq b.key x.key ≡ e → (key_eq x.key b.key ≡ false) × (batch_at b.key xs ≡ None)
        → (batch_at b.key xs ≡ None → with_place b.key b.run (places_of xs) ≡ places_of (arrived b xs)) → with_place b.key b.run (places_of (x ∷ xs)) ≡ places_of (arrived b (x ∷ xs))
    by true e f g parts rest = rw f refl
    by false true f g parts rest = let h : key_eq x.key b.key ≡ true = flip g in let n : key_eq x.key b.key ≡ false = parts.0 in absurd (cc)
    by false false f g parts rest = rw (f, g) (ap (λ l. (x.key, x.run) ∷ l) (rest parts.1))

-- a batch whose key comes after all others goes to the end
pub placed-behind : (b : Batch) (front : List Batch) → AllByRecursion (λ (x : Batch). key_lt x.key b.key ≡ true) front → with_place b.key b.run (places_of front) ≡ places_of (front ++ b ∷ [])
placed-behind b [] before = refl
placed-behind b (x ∷ front) before = rw (not-less b.key x.key before.0, not-same b.key x.key before.0) (ap (λ l. (x.key, x.run) ∷ l) (placed-behind b front before.1))

-- a key that was put among others where it was not is taken out again
pub without-with : (key : BatchKey) (run : RunId) (places : List (BatchKey × RunId)) → place_at key places ≡ None → without_place key (with_place key run places) ≡ places
without-with key run [] none = rw (key_eq-self key) refl
without-with key run (p ∷ ps) none = by (key_lt key p.0) (key_eq key p.0) (key_eq p.0 key) refl refl refl none (without-with key run ps)
  where
    by : (l e r : Bool) → key_lt key p.0 ≡ l → key_eq key p.0 ≡ e → key_eq p.0 key ≡ r → (if r then Some p.1 else place_at key ps) ≡ None
        → (place_at key ps ≡ None → without_place key (with_place key run ps) ≡ ps) → without_place key (with_place key run (p ∷ ps)) ≡ p ∷ ps
    by l e true f g h none rest = absurd (cc)
    by true e false f g h none rest = rw (f, key_eq-self key) refl
    by false true false f g h none rest =
        let t : key_eq p.0 key ≡ true = subst (λ (k : BatchKey). key_eq k key ≡ true) (same-keys key p.0 g) (key_eq-self key) in absurd (cc)
    by false false false f g h none rest = rw (f, g, h) (ap (λ l. p ∷ l) (rest none))
