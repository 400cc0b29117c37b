-- What stands in a set.
use Rattle.std.proofs.Common.{◌≡◌, Bool, true, false, List, [], ◌∷◌, ◌++◌, Option, Some, None, cond, refl, sym, ◌∙◌, subst}
use Rattle.std.specs.Option.{option_or}
use Rattle.std.specs.List.{AllByRecursion}
use Rattle.std.proofs.lemmas.List.Folds.{find-append}
use Rattle.ndc_event.specs.Key.{key_lt, key_eq}
use Rattle.ndc_event.specs.declared.batch.Batch.{Batch}
use Rattle.ndc_event.specs.declared.key.BatchKey.{BatchKey}
use Rattle.ndc_model_sets.specs.Sets.{ComeAfter, batch_at, Has}
use Rattle.ndc_model_sets.proofs.KeyLemmas.{before-irrefl, before-trans, same-keys, key_eq-self}

-- looking a key up, by whether the first batch has it
pub at-cases : (P : Option Batch → Type 0) (b : Batch) (batches : List Batch) (key : BatchKey) →
    (b.key ≡ key → P (Some b)) → (key_eq b.key key ≡ false → P (batch_at key batches)) → P (batch_at key (b ∷ batches))
at-cases P b batches key here further = by (key_eq b.key key) refl
  where
    by : (t : Bool) → key_eq b.key key ≡ t → P (cond t (Some b) (batch_at key batches))
    by true e = here (same-keys b.key key e)
    by false e = further e

-- a batch stands under its key, where it is first
pub at-first : (b : Batch) (batches : List Batch) → Has (b ∷ batches) b
at-first b batches = rw (key_eq-self b.key) refl

-- what is found has the key
pub found-key : (batches : List Batch) (key : BatchKey) (b : Batch) → batch_at key batches ≡ Some b → b.key ≡ key
found-key [] key b = λ h. absurd (cc)
found-key (x ∷ xs) key b =
    at-cases (λ o. o ≡ Some b → b.key ≡ key) x xs key
    (λ e h. let same : x ≡ b = cc in subst (λ (y : Batch). y.key ≡ key) same e)
    (λ _ h. found-key xs key b h)

-- what is found is one of the batches
pub found-has : (batches : List Batch) (key : BatchKey) (b : Batch) → batch_at key batches ≡ Some b → Has batches b
found-has batches key b h = subst (λ (k : BatchKey). batch_at k batches ≡ Some b) (sym (found-key batches key b h)) h

-- one of the batches is found under its key
pub has-found : (batches : List Batch) (key : BatchKey) (b : Batch) → b.key ≡ key → Has batches b → batch_at key batches ≡ Some b
has-found batches key b e h = subst (λ (k : BatchKey). batch_at k batches ≡ Some b) e h

-- what holds of each holds of what is found
pub found-all : (P : Batch → Type 0) (batches : List Batch) (key : BatchKey) (b : Batch) → AllByRecursion P batches → batch_at key batches ≡ Some b → P b
found-all P [] key b all = λ h. absurd (cc)
found-all P (x ∷ xs) key b all =
    at-cases (λ o. o ≡ Some b → P b) x xs key
    (λ e h. let same : x ≡ b = cc in subst P same all.0)
    (λ _ h. found-all P xs key b all.1 h)

-- a key that comes before all is not found
pub none-there : (batches : List Batch) (key : BatchKey) → ComeAfter key batches → batch_at key batches ≡ None
none-there [] key all = refl
none-there (x ∷ xs) key all =
    at-cases (λ o. o ≡ None) x xs key
    (λ e. absurd (before-irrefl key (subst (λ (k : BatchKey). key_lt key k ≡ true) e all.0)))
    (λ _. none-there xs key all.1)

-- what comes after a later key comes after this one
pub after-trans : (low high : BatchKey) (batches : List Batch) → key_lt low high ≡ true → ComeAfter high batches → ComeAfter low batches
after-trans low high [] l all = tt
after-trans low high (x ∷ xs) l all = (before-trans low high x.key l all.0, after-trans low high xs l all.1)

-- in a list that rises, what is found after the first is found in the whole
pub at-behind : (c : Batch) (batches : List Batch) (key : BatchKey) (b : Batch) → ComeAfter c.key batches → batch_at key batches ≡ Some b → batch_at key (c ∷ batches) ≡ Some b
at-behind c batches key b after h =
    at-cases (λ o. o ≡ Some b) c batches key
    (λ e. absurd (before-irrefl c.key (subst (λ (k : BatchKey). key_lt c.key k ≡ true) (found-key batches key b h ∙ sym e) (found-all (λ x. key_lt c.key x.key ≡ true) batches key b after h))))
    (λ _. h)

-- looking a key up in two lists
pub at-append : (front back : List Batch) (key : BatchKey) → batch_at key (front ++ back) ≡ option_or (batch_at key front) (batch_at key back)
at-append front back key = find-append (λ b. key_eq b.key key) front back
