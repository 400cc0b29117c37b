-- The order of keys.
use Rattle.std.proofs.Common.{◌≡◌, ℕ, ◌<◌, ◌≤◌, Bool, true, false, ◌&&◌, ◌||◌, ◌==◌, ◌⊎◌, inl, inr, nat_lt, refl, sym, ◌∙◌, true≢false, arith}
use Rattle.std.proofs.lemmas.Bool.{and_parts, and_from, ltb-true, lt-ltb, eqb-true, eq-eqb, cases_lt}
use Rattle.ndc_event.specs.Key.{key_lt, key_eq}
use Rattle.ndc_event.specs.declared.key.BatchKey.{BatchKey}

-- by version, then by task
abbrev pub IsBefore : BatchKey → BatchKey → Type 0
IsBefore one two = (one.version < two.version) ⊎ ((one.version ≡ two.version) × (one.task < two.task))

pub before-parts : (one two : BatchKey) → key_lt one two ≡ true → IsBefore one two
before-parts one two h = by (nat_lt one.version two.version) refl h
  where
    by : (t : Bool) → nat_lt one.version two.version ≡ t → (t || (one.version == two.version) && nat_lt one.task two.task) ≡ true → IsBefore one two
    by true e g = inl (ltb-true one.version two.version e)
    by false e g = let p = and_parts (one.version == two.version) (nat_lt one.task two.task) g in
        inr (eqb-true one.version two.version p.0, ltb-true one.task two.task p.1)

pub before-from : (one two : BatchKey) → IsBefore one two → key_lt one two ≡ true
before-from one two (inl l) = rw (lt-ltb one.version two.version l) refl
before-from one two (inr h) = by (nat_lt one.version two.version)
  where
    by : (t : Bool) → (t || (one.version == two.version) && nat_lt one.task two.task) ≡ true
    by true = refl
    by false = and_from (one.version == two.version) (nat_lt one.task two.task) (eq-eqb one.version two.version h.0) (lt-ltb one.task two.task h.1)

-- no key comes before itself
pub before-irrefl : (key : BatchKey) → key_lt key key ≡ true → ⊥
before-irrefl key h = by (before-parts key key h)
  where
    by : IsBefore key key → ⊥
    by (inl l) = absurd (omega arith)
    by (inr p) = let l : key.task < key.task = p.1 in absurd (omega arith)

pub before-trans : (a b c : BatchKey) → key_lt a b ≡ true → key_lt b c ≡ true → key_lt a c ≡ true
before-trans a b c h g = before-from a c (by (before-parts a b h) (before-parts b c g))
  where
    by : IsBefore a b → IsBefore b c → IsBefore a c
    by (inl l) (inl m) = inl (omega arith)
    by (inl l) (inr m) = let e : b.version ≡ c.version = m.0 in inl (omega arith)
    by (inr l) (inl m) = let e : a.version ≡ b.version = l.0 in inl (omega arith)
    by (inr l) (inr m) = let e : a.version ≡ b.version = l.0 in let f : b.version ≡ c.version = m.0 in
        let p : a.task < b.task = l.1 in let q : b.task < c.task = m.1 in inr (omega arith, omega arith)

-- equal parts make equal keys
key : ℕ → ℕ → BatchKey
key version task = record { version = version; task = task }

parts-key : (v t w u : ℕ) → v ≡ w → t ≡ u → key v t ≡ key w u
unfolding key
parts-key v t w u e f = cc

pub key-parts : (a b : BatchKey) → a.version ≡ b.version → a.task ≡ b.task → a ≡ b
unfolding key
key-parts a b v t = parts-key a.version a.task b.version b.task v t

-- keys that test as one are
pub same-keys : (a b : BatchKey) → key_eq a b ≡ true → a ≡ b
unfolding key
same-keys a b h =
    let p = and_parts (a.version == b.version) (a.task == b.task) h in
    key-parts a b (eqb-true a.version b.version p.0) (eqb-true a.task b.task p.1)

pub key_eq-self : (a : BatchKey) → key_eq a a ≡ true
key_eq-self a = and_from (a.version == a.version) (a.task == a.task) (eq-eqb a.version a.version refl) (eq-eqb a.task a.task refl)

-- of two keys one comes before the other, or they are one
pub before-total : (a b : BatchKey) → key_lt a b ≡ false → key_eq a b ≡ false → key_lt b a ≡ true
before-total a b l e = before-from b a (by (cases_lt b.version a.version) (cases_lt a.version b.version))
  where
    not_less : a.version < b.version → ⊥
    not_less h = true≢false (sym (before-from a b (inl h)) ∙ l)

    by_task : a.version ≡ b.version → (a.task < b.task) ⊎ (b.task ≤ a.task) → (b.task < a.task) ⊎ (a.task ≤ b.task) → IsBefore b a
    by_task v (inl h) _ = absurd (true≢false (sym (before-from a b (inr (v, h))) ∙ l))
    by_task v _ (inl h) = inr (sym v, h)
    by_task v (inr h) (inr g) = let t : a.task ≡ b.task = omega arith in
        absurd (true≢false (sym (and_from (a.version == b.version) (a.task == b.task) (eq-eqb a.version b.version v) (eq-eqb a.task b.task t)) ∙ e))

    by : (b.version < a.version) ⊎ (a.version ≤ b.version) → (a.version < b.version) ⊎ (b.version ≤ a.version) → IsBefore b a
    by (inl h) _ = inl h
    by _ (inl h) = absurd (not_less h)
    by (inr h) (inr g) = by_task (omega arith) (cases_lt a.task b.task) (cases_lt b.task a.task)
