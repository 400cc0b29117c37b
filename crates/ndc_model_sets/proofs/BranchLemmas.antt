-- One branch leads: the one that ends with the greatest batch of its run.
use Rattle.std.proofs.Common.{◌≡◌, ℕ, Bool, true, false, List, [], ◌∷◌, ◌⊎◌, inl, inr, Option, Some, None, refl, sym, ◌∙◌, subst, ap}
use Rattle.std.specs.Prelude.{if◌then◌else◌}
use Rattle.std.specs.List.{AllByRecursion, filter}
use Rattle.std.proofs.lemmas.Bool.{eqb-true, eq-eqb}
use Rattle.ndc_event.specs.Key.{key_lt, key_eq}
use Rattle.ndc_event.specs.declared.batch.Batch.{Batch}
use Rattle.ndc_event.specs.declared.key.BatchKey.{BatchKey}
use Rattle.ndc_event.specs.declared.key.RunId.{RunId}
use Rattle.ndc_model_sets.specs.Sets.{Rise, batch_at, Has}
use Rattle.ndc_model_sets.specs.Branches.{same_run, later, greatest_key}
use Rattle.ndc_model_sets.proofs.KeyLemmas.{before-irrefl, before-trans, before-total, same-keys}
use Rattle.ndc_model_sets.proofs.SetLemmas.{at-cases, at-first, has-found, at-behind}
use Rattle.ndc_model_sets.proofs.Lists.{Among, filter-cases}

-- what a set has stands in its list
pub has-among : (batches : List Batch) (b : Batch) → Has batches b → Among b batches
has-among [] b = λ h. absurd (cc)
has-among (c ∷ cs) b =
    at-cases (λ o. o ≡ Some b → Among b (c ∷ cs)) c cs b.key
    (λ _ h. let same : b ≡ c = cc in inl same)
    (λ _ h. inr (has-among cs b h))

pub among-has : (batches : List Batch) (b : Batch) → Rise batches → Among b batches → Has batches b
among-has [] b rise h = absurd h
among-has (c ∷ cs) b rise (inl e) = subst (λ (x : Batch). Has (c ∷ cs) x) (sym e) (at-first c cs)
among-has (c ∷ cs) b rise (inr h) = at-behind c cs b.key b rise.0 (among-has cs b rise.1 h)

-- batches of one key in a set are one
pub same-batch : (batches : List Batch) (a b : Batch) → Has batches a → Has batches b → a.key ≡ b.key → a ≡ b
same-batch batches a b has other e =
    let there : batch_at a.key batches ≡ Some b = has-found batches a.key b (sym e) other in cc

-- a filter of a list that rises rises
pub All-filter : (P : Batch → Type 0) (p : Batch → Bool) (batches : List Batch) → AllByRecursion P batches → AllByRecursion P (filter p batches)
All-filter P p [] all = tt
All-filter P p (c ∷ cs) all = filter-cases (AllByRecursion P) p c cs (λ _. (all.0, All-filter P p cs all.1)) (λ _. All-filter P p cs all.1)

pub Rise-filter : (p : Batch → Bool) (batches : List Batch) → Rise batches → Rise (filter p batches)
Rise-filter p [] rise = tt
Rise-filter p (c ∷ cs) rise =
    filter-cases Rise p c cs (λ _. (All-filter (λ x. key_lt c.key x.key ≡ true) p cs rise.0, Rise-filter p cs rise.1)) (λ _. Rise-filter p cs rise.1)

-- run ids of one number are one
pub run_id : ℕ → RunId
run_id value = record { value = value }

value-run : (v w : ℕ) → v ≡ w → run_id v ≡ run_id w
value-run v w e = ap run_id e

pub run-same : (one two : RunId) → same_run one two ≡ true → one ≡ two
unfolding run_id
run-same one two h = value-run one.value two.value (eqb-true one.value two.value h)

pub same-run : (one two : RunId) → one ≡ two → same_run one two ≡ true
same-run one two e = eq-eqb one.value two.value (ap (λ (r : RunId). r.value) e)

-- a key is not before one that comes before it
not-before : (a b : BatchKey) → key_lt a b ≡ true → key_lt b a ≡ false
not-before a b l = by (key_lt b a) refl
  where
    by : (t : Bool) → key_lt b a ≡ t → key_lt b a ≡ false
    by true e = absurd (before-irrefl a (before-trans a b a l e))
    by false e = e

-- the greatest, by whether the first is
later-cases : (P : Option Batch → Type 0) (b other : Batch) → (key_lt b.key other.key ≡ true → P (Some other)) → (key_lt b.key other.key ≡ false → P (Some b)) → P (later b (Some other))
later-cases P b other less not_less = by (key_lt b.key other.key) refl
  where
    by : (t : Bool) → key_lt b.key other.key ≡ t → P (if t then Some other else Some b)
    by true e = less e
    by false e = not_less e

pub greatest-among : (batches : List Batch) (g : Batch) → greatest_key batches ≡ Some g → Among g batches
greatest-among [] g = λ h. absurd (cc)
greatest-among (c ∷ cs) g = by (greatest_key cs) (greatest-among cs g)
  where
    by : (o : Option Batch) → (o ≡ Some g → Among g cs) → later c o ≡ Some g → Among g (c ∷ cs)
    by None rest h = inl (cc)
    by (Some x) rest h = later-cases (λ o. o ≡ Some g → Among g (c ∷ cs)) c x (λ _ h. inr (rest h)) (λ _ h. inl (cc)) h

-- no key is above the greatest
abbrev pub IsUpTo : BatchKey → BatchKey → Type 0
IsUpTo high key = (key ≡ high) ⊎ (key_lt key high ≡ true)

-- a key that is not before another is up to it
pub up-to : (a b : BatchKey) → key_lt b a ≡ false → IsUpTo b a
up-to a b l = by (key_eq b a) refl
  where
    by : (t : Bool) → key_eq b a ≡ t → IsUpTo b a
    by true e = inl (sym (same-keys b a e))
    by false e = inr (before-total b a l e)

up-to-trans : (a b c : BatchKey) → IsUpTo b a → key_lt b c ≡ true → IsUpTo c a
up-to-trans a b c (inl e) l = inr (subst (λ (k : BatchKey). key_lt k c ≡ true) (sym e) l)
up-to-trans a b c (inr h) l = inr (before-trans a b c h l)

pub none-greatest : (batches : List Batch) (x : Batch) → greatest_key batches ≡ None → Among x batches → ⊥
none-greatest [] x at h = h
none-greatest (d ∷ ds) x at h = by (greatest_key ds) at
  where
    by : (o : Option Batch) → later d o ≡ None → ⊥
    by None e = absurd (cc)
    by (Some y) e = later-cases (λ o. o ≡ None → ⊥) d y (λ _ e. absurd (cc)) (λ _ e. absurd (cc)) e

pub greatest-top : (batches : List Batch) (g x : Batch) → greatest_key batches ≡ Some g → Among x batches → IsUpTo g.key x.key
greatest-top [] g x e h = absurd h
greatest-top (c ∷ cs) g x e h = by (greatest_key cs) refl e h (λ y at k. greatest-top cs y x at k)
  where
    by : (o : Option Batch) → greatest_key cs ≡ o → later c o ≡ Some g → (x ≡ c) ⊎ Among x cs
        → ((y : Batch) → greatest_key cs ≡ Some y → Among x cs → IsUpTo y.key x.key) → IsUpTo g.key x.key
    by None at e (inl same) rest = let here : c ≡ g = cc in inl (ap (λ (b : Batch). b.key) (same ∙ here))
    by None at e (inr k) rest = absurd (none-greatest cs x at k)
    by (Some y) at e (inl same) rest =
        later-cases (λ o. o ≡ Some g → IsUpTo g.key x.key) c y
        (λ l h. let other : y ≡ g = cc in inr (subst (λ (b : Batch). key_lt b.key g.key ≡ true) (sym same) (subst (λ (b : Batch). key_lt c.key b.key ≡ true) other l)))
        (λ _ h. let other : c ≡ g = cc in inl (ap (λ (b : Batch). b.key) (same ∙ other))) e
    by (Some y) at e (inr k) rest =
        later-cases (λ o. o ≡ Some g → IsUpTo g.key x.key) c y
        (λ _ h. let other : y ≡ g = cc in subst (λ (b : Batch). IsUpTo b.key x.key) other (rest y at k))
        (λ l h. let other : c ≡ g = cc in subst (λ (b : Batch). IsUpTo b.key x.key) other (joined (rest y at k) (up-to y.key c.key l))) e
      where
        joined : IsUpTo y.key x.key → IsUpTo c.key y.key → IsUpTo c.key x.key
        joined a (inl e) = subst (λ (k : BatchKey). IsUpTo k x.key) e a
        joined a (inr m) = up-to-trans x.key y.key c.key a m

pub greatest-some : (batches : List Batch) (b : Batch) → Among b batches → (g : Batch) × (greatest_key batches ≡ Some g)
greatest-some [] b h = absurd h
greatest-some (c ∷ cs) b h = by (greatest_key cs)
  where
    by : (o : Option Batch) → (g : Batch) × (later c o ≡ Some g)
    by None = (c, refl)
    by (Some x) = later-cases (λ o. (g : Batch) × (o ≡ Some g)) c x (λ _. (x, refl)) (λ _. (c, refl))

-- one that none of the others is above is the greatest
pub greatest-of : (batches : List Batch) (m : Batch) → Among m batches → ((x : Batch) → Among x batches → (x ≡ m) ⊎ (key_lt x.key m.key ≡ true)) → greatest_key batches ≡ Some m
greatest-of batches m h each = by (greatest-some batches m h)
  where
    by : (g : Batch) × (greatest_key batches ≡ Some g) → greatest_key batches ≡ Some m
    by (g, e) = same (each g (greatest-among batches g e)) (greatest-top batches g m e h)
      where
        same : (g ≡ m) ⊎ (key_lt g.key m.key ≡ true) → IsUpTo g.key m.key → greatest_key batches ≡ Some m
        same (inl s) _ = e ∙ ap Some s
        same (inr l) (inl s) = absurd (before-irrefl m.key (subst (λ (k : BatchKey). key_lt k m.key ≡ true) (sym s) l))
        same (inr l) (inr k) = absurd (before-irrefl m.key (before-trans m.key g.key m.key k l))
