-- The keys of a path, listed on the way down.
use Rattle.std.proofs.Common.{◌≡◌, Bool, true, false, ◌||◌, List, [], ◌∷◌, ◌++◌, Option, Some, if◌then◌else◌, refl, sym, ap, ◌∙◌, subst}
use Rattle.std.proofs.lemmas.List.Folds.{list_any-append}
use Rattle.ndc_event.specs.Key.{key_eq}
use Rattle.ndc_event.specs.declared.batch.Batch.{Batch}
use Rattle.ndc_event.specs.declared.key.BatchKey.{BatchKey}
use Rattle.ndc_model_sets.specs.Learned.{has_key}
use Rattle.ndc_model_sets.specs.Paths.{Walk, is_wanted, walk_over}
use Rattle.ndc_model_sets.proofs.KeyLemmas.{same-keys}
use Rattle.ndc_dump_causes.specs.Keys.{is_listed, with_key}

-- the same keys are listed as are those of the path so far, and the same key is wanted
pub record IsSoFar (keys : List BatchKey) (wanted : Option BatchKey) (w : Walk) : Type 0 where
  pub next : wanted ≡ w.wanted
  pub listed : (key : BatchKey) → is_listed key keys ≡ has_key (Some key) w.path

or-false : (t : Bool) → (t || false) ≡ t
or-false true = refl
or-false false = refl

-- a key that is listed already is one of them
listed-same : (key new : BatchKey) (keys : List BatchKey) → is_listed new keys ≡ true → is_listed key keys ≡ (key_eq key new || is_listed key keys)
listed-same key new keys h = by (key_eq key new) refl
  where
    by : (t : Bool) → key_eq key new ≡ t → is_listed key keys ≡ (t || is_listed key keys)
    by true e = subst (λ (k : BatchKey). is_listed k keys ≡ true) (sym (same-keys key new e)) h
    by false e = refl

or-swap : (s t : Bool) → (s || t) ≡ (t || s)
or-swap true true = refl
or-swap true false = refl
or-swap false true = refl
or-swap false false = refl

-- what is listed once a key is
listed-with : (key new : BatchKey) (keys : List BatchKey) → is_listed key (with_key new keys) ≡ (key_eq key new || is_listed key keys)
listed-with key new keys = by (is_listed new keys) refl
  where
    by : (t : Bool) → is_listed new keys ≡ t → is_listed key (if t then keys else keys ++ new ∷ []) ≡ (key_eq key new || is_listed key keys)
    by true e = listed-same key new keys e
    by false e = list_any-append (key_eq key) keys (new ∷ []) ∙ ap (λ t. is_listed key keys || t) (or-false (key_eq key new)) ∙ or-swap (is_listed key keys) (key_eq key new)

flip : (one two : BatchKey) → key_eq one two ≡ key_eq two one
flip one two = by (key_eq one two) (key_eq two one) refl refl
  where
    by : (s t : Bool) → key_eq one two ≡ s → key_eq two one ≡ t → key_eq one two ≡ key_eq two one
    by true t e f = ap (λ k. key_eq k two) (same-keys one two e) ∙ ap (λ k. key_eq two k) (sym (same-keys one two e))
    by false true e f = sym (ap (λ k. key_eq k one) (same-keys two one f) ∙ ap (λ k. key_eq one k) (sym (same-keys two one f)))
    by false false e f = e ∙ sym f

-- a batch before a path
has-front : (key : BatchKey) (b : Batch) (path : List Batch) → has_key (Some key) (b ∷ path) ≡ (key_eq b.key key || has_key (Some key) path)
has-front key b path = by (key_eq b.key key) refl
  where
    by : (t : Bool) → key_eq b.key key ≡ t → has_key (Some key) (b ∷ path) ≡ (t || has_key (Some key) path)
    by true e = rw e refl
    by false e = rw e refl

-- the wanted batch is met
pub met : (b : Batch) (keys : List BatchKey) (wanted : Option BatchKey) (w : Walk) → is_wanted wanted b ≡ true → IsSoFar keys wanted w → IsSoFar (with_key b.key keys) b.parent (walk_over b w)
met b keys wanted w e h =
    let f : is_wanted w.wanted b ≡ true = ap (λ o. is_wanted o b) (sym h.next) ∙ e in
    record {
      next = rw f refl;
      listed = λ key. listed-with key b.key keys ∙ ap (λ t. t || is_listed key keys) (flip key b.key) ∙ ap (λ t. key_eq b.key key || t) (h.listed key) ∙ sym (has-front key b w.path) ∙ rw f refl;
    }

-- another batch is passed
pub passed : (b : Batch) (keys : List BatchKey) (wanted : Option BatchKey) (w : Walk) → is_wanted wanted b ≡ false → IsSoFar keys wanted w → IsSoFar keys wanted (walk_over b w)
passed b keys wanted w e h =
    let f : is_wanted w.wanted b ≡ false = ap (λ o. is_wanted o b) (sym h.next) ∙ e in
    record { next = rw f h.next; listed = rw f h.listed }
