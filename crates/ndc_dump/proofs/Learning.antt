-- The batches of a sound set can be learned one after the other, in key order.
use Rattle.std.proofs.Common.{◌≡◌, ℕ, zero, suc, arith, ◌+◌, ◌<◌, Bool, true, false, List, [], ◌∷◌, ◌++◌, length, take, drop, get_or, inl, inr, Option, Some, None, refl, sym, ap, ◌∙◌, subst}
use Rattle.std.specs.Prelude.{is_some}
use Rattle.std.specs.List.{AllByRecursion}
use Rattle.std.specs.Option.{option_or}
use Rattle.std.proofs.lemmas.List.{take-append-drop, take_more}
use Rattle.ndc_event.specs.Key.{key_eq, key_lt}
use Rattle.ndc_event.specs.declared.batch.Batch.{Batch}
use Rattle.ndc_event.specs.declared.key.BatchKey.{BatchKey}
use Rattle.ndc_model_sets.specs.Learned.{has_key, IsClosed, IsPart}
use Rattle.ndc_model_sets.specs.Sets.{ComeAfter, PointsBack, Rise, arrived, batch_at, earlier}
use Rattle.ndc_model_sets.specs.Sound.{IsSound}
use Rattle.ndc_model_sets.proofs.BranchLemmas.{among-has, has-among}
use Rattle.ndc_model_sets.proofs.KeyLemmas.{before-irrefl, before-trans, same-keys}
use Rattle.ndc_model_sets.proofs.Lists.{Among, all-among, all-from}
use Rattle.ndc_model_sets.proofs.SetLemmas.{after-trans, at-append, none-there}
use Rattle.ndc_model_sets.proofs.SoundLemmas.{part_is_sound}
use Rattle.ndc_dump_causes.proofs.Finding.{after-parts, rise-parts}
use Rattle.ndc_text.specs.Ranges.{InRange}
use Rattle.ndc_dump_causes.specs.Given.{HasSmallIds}
use Rattle.ndc_dump_causes.proofs.OnPaths.{left-one}
use Rattle.ndc_dump_causes.proofs.Walking.{all-small}

-- of two keys the later one neither comes before the other nor is it
pub later-key : (before key : BatchKey) → key_lt before key ≡ true → (key_lt key before ≡ false) × (key_eq key before ≡ false)
later-key before key less = (behind (key_lt key before) refl, other (key_eq key before) refl)
  where
    behind : (t : Bool) → key_lt key before ≡ t → key_lt key before ≡ false
    behind true e = absurd (before-irrefl before (before-trans before key before less e))
    behind false e = e

    other : (t : Bool) → key_eq key before ≡ t → key_eq key before ≡ false
    other true e = absurd (before-irrefl key (subst (λ (k : BatchKey). key_lt k key ≡ true) (sym (same-keys key before e)) less))
    other false e = e

-- what stands after a prefix comes after each batch of it
come-behind : (front back : List Batch) (x : Batch) → Rise (front ++ back) → Among x front → ComeAfter x.key back
come-behind [] back x rise among = absurd among
come-behind (y ∷ front) back x rise (inl same) = subst (λ (z : Batch). ComeAfter z.key back) (sym same) (after-parts y.key front back rise.0).1
come-behind (y ∷ front) back x rise (inr k) = come-behind front back x rise.1 k

-- a batch that comes after all others goes last
goes-last : (front : List Batch) (b : Batch) (back : List Batch) → Rise (front ++ b ∷ back) → arrived b front ≡ front ++ b ∷ []
goes-last [] b back rise = refl
goes-last (y ∷ front) b back rise =
    let later = later-key y.key b.key (after-parts y.key front (b ∷ back) rise.0).1.0 in
    rw (later.0, later.1) (ap (λ l. y ∷ l) (goes-last front b back rise.1))

-- and its key is new
is-fresh : (front : List Batch) (b : Batch) (back : List Batch) → Rise (front ++ b ∷ back) → batch_at b.key front ≡ None
is-fresh [] b back rise = refl
is-fresh (y ∷ front) b back rise =
    let before : key_lt y.key b.key ≡ true = (after-parts y.key front (b ∷ back) rise.0).1.0 in
    rw (no-equal y.key b.key before) (is-fresh front b back rise.1)
  where
    no-equal : (one two : BatchKey) → key_lt one two ≡ true → key_eq one two ≡ false
    no-equal one two less = by (key_eq one two) refl
      where
        by : (t : Bool) → key_eq one two ≡ t → key_eq one two ≡ false
        by true e = absurd (before-irrefl two (subst (λ (k : BatchKey). key_lt k two ≡ true) (same-keys one two e) less))
        by false e = e

module _ (front back : List Batch) (s : IsSound (front ++ back)) where
  abbrev rise : Rise (front ++ back)
  rise = s.set.ordered

  -- what is found in the prefix is found in the whole
  has-whole : IsPart front (front ++ back)
  has-whole x has = at-append front back x.key ∙ ap (λ o. option_or o (batch_at x.key back)) has

  -- an earlier key of the prefix is found there, where it is found
  found-front : (x : Batch) (key : BatchKey) → Among x front → key_lt key x.key ≡ true → batch_at key (front ++ back) ≡ batch_at key front
  found-front x key among less =
      at-append front back key ∙ ap (λ o. option_or (batch_at key front) o) (none-there back key (after-trans key x.key back less (come-behind front back x rise among)))
      ∙ none (batch_at key front)
    where
      none : (o : Option Batch) → option_or o None ≡ o
      none None = refl
      none (Some b) = refl

  points-back : AllByRecursion PointsBack front
  points-back = all-from PointsBack front (λ x among. all-among PointsBack (front ++ back) x s.set.back (has-among (front ++ back) x (has-whole x (among-has front x (rise-parts front back rise).0 among))))

  front-closed : IsClosed front
  front-closed x has = by (earlier x) refl
    where
      by : (o : Option BatchKey) → earlier x ≡ o → has_key (earlier x) front ≡ true
      by None e = ap (λ o. has_key o front) e
      by (Some key) e =
          ap (λ o. has_key o front) e
          ∙ sym (ap is_some (found-front x key (has-among front x has) (all-among PointsBack front x points-back (has-among front x has) key e)))
          ∙ sym (ap (λ o. has_key o (front ++ back)) e) ∙ s.closed x (has-whole x has)

  -- a prefix of a sound set is sound
  pub front-sound : IsSound front
  front-sound = part_is_sound (front ++ back) front s (record { ordered = (rise-parts front back rise).0; back = points-back }) front-closed has-whole

-- a list with the place of one of its batches
split-at : (xs : List Batch) (i : ℕ) (b : Batch) → i < length xs → b ≡ get_or xs i b → take i xs ++ b ∷ drop (i + 1) xs ≡ xs
split-at xs i b below is = ap (λ l. take i xs ++ l) (sym (left-one xs i b below is)) ∙ take-append-drop i xs

next-front : (xs : List Batch) (i : ℕ) (b : Batch) → i < length xs → b ≡ get_or xs i b → take (i + 1) xs ≡ take i xs ++ b ∷ []
next-front xs i b below is = take_more xs i b below ∙ ap (λ x. take i xs ++ x ∷ []) (sym is)

rises-at : (xs : List Batch) (i : ℕ) (b : Batch) → IsSound xs → i < length xs → b ≡ get_or xs i b → Rise (take i xs ++ b ∷ drop (i + 1) xs)
rises-at xs i b s below is = subst Rise (sym (split-at xs i b below is)) s.set.ordered

-- the next batch of a sound set goes last among those before it
pub learned-next : (xs : List Batch) (i : ℕ) (b : Batch) (known new : List Batch) → IsSound xs → i < length xs → b ≡ get_or xs i b → known ≡ take i xs → new ≡ arrived b known → new ≡ take (i + 1) xs
learned-next xs i b known new s below is e f =
    f ∙ ap (arrived b) e ∙ goes-last (take i xs) b (drop (i + 1) xs) (rises-at xs i b s below is) ∙ sym (next-front xs i b below is)

pub fresh-next : (xs : List Batch) (i : ℕ) (b : Batch) (known : List Batch) → IsSound xs → i < length xs → b ≡ get_or xs i b → known ≡ take i xs → batch_at b.key known ≡ None
fresh-next xs i b known s below is e = ap (batch_at b.key) e ∙ is-fresh (take i xs) b (drop (i + 1) xs) (rises-at xs i b s below is)

pub sound-next : (xs : List Batch) (i : ℕ) (b : Batch) (known : List Batch) → IsSound xs → i < length xs → b ≡ get_or xs i b → known ≡ take i xs → IsSound (arrived b known)
sound-next xs i b known s below is e =
    subst IsSound (sym (learned-next xs i b known (arrived b known) s below is e refl)) (front-sound (take (i + 1) xs) (drop (i + 1) xs) (subst IsSound (sym (take-append-drop (i + 1) xs)) s))

-- what holds of all holds of the one at a place
at-place : (P : Batch → Type 0) (xs : List Batch) (i : ℕ) (b : Batch) → AllByRecursion P xs → i < length xs → b ≡ get_or xs i b → P b
at-place P [] i b all below is = absurd (omega (arith, below))
at-place P (x ∷ xs) zero b all below is = subst P (sym is) all.0
at-place P (x ∷ xs) (suc i) b all below is = at-place P xs i b all.1 (omega (arith, below)) is

pub small-next : (xs : List Batch) (i : ℕ) (b : Batch) → AllByRecursion InRange xs → i < length xs → b ≡ get_or xs i b → HasSmallIds b
small-next xs i b ranges below is = at-place HasSmallIds xs i b (all-small xs ranges) below is
