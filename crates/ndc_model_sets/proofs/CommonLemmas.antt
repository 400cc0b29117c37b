-- What the version histories of two paths have in common.
use Rattle.std.proofs.Common.{◌≡◌, ℕ, ◌+◌, ◌<◌, ◌≤◌, Bool, true, false, ◌&&◌, ◌==◌, nat_lt, min, List, [], ◌∷◌, ◌++◌, ◌⊎◌, inl, inr, Option, Some, None, refl, sym, ◌∙◌, subst, ap, arith}
use Rattle.std.specs.Prelude.{if◌then◌else◌}
use Rattle.std.proofs.lemmas.Bool.{and_parts, ltb-true, lt-ltb, eqb-true, eq-eqb, ne_eqb}
use Rattle.ndc_event.specs.declared.batch.Event.{Event}
use Rattle.ndc_event.specs.Batch.{follow_from}
use Rattle.ndc_history.specs.declared.item.Item.{Item}
use Rattle.ndc_history.specs.Common.{id_of, with_smaller, shared, greater, greatest, common_of}
use Rattle.ndc_history.specs.History.{rise_from, rises}
use Rattle.ndc_model_sets.specs.Paths.{item_of, versions_of, later_id, last_id_of, last_from}
use Rattle.ndc_model_sets.proofs.PathIds.{Climbs, ends, follow-rest, ends-last}
use Rattle.ndc_model_sets.proofs.HistoryLemmas.{same-or-not, versions-rise, versions-ids}

-- no version has an id in both
abbrev pub NoneShared : (ℕ → Type 0) → List Item → List Item → Type 0
NoneShared P one two = (version : ℕ) → P version → (id_of version one ≡ None) ⊎ (id_of version two ≡ None)

-- the items after the first have greater versions
rises-tail : (x : Item) (xs : List Item) → rises (x ∷ xs) ≡ true → rises xs ≡ true
rises-tail x [] r = refl
rises-tail x (y ∷ ys) r = (and_parts (nat_lt x.id y.id && nat_lt x.version y.version) (rise_from y ys) r).1

-- a version that stands after the first is greater
behind-greater : (x : Item) (xs : List Item) (version id : ℕ) → rises (x ∷ xs) ≡ true → id_of version xs ≡ Some id → x.version < version
behind-greater x [] version id r h = absurd (cc)
behind-greater x (y ∷ ys) version id r h = by (same-or-not y.version version) (behind-greater y ys version id p.1)
  where
    p : ((nat_lt x.id y.id && nat_lt x.version y.version) ≡ true) × (rise_from y ys ≡ true)
    p = and_parts (nat_lt x.id y.id && nat_lt x.version y.version) (rise_from y ys) r

    first : x.version < y.version
    first = ltb-true x.version y.version (and_parts (nat_lt x.id y.id) (nat_lt x.version y.version) p.0).1

    by : (y.version ≡ version) ⊎ ((y.version == version) ≡ false) → (id_of version ys ≡ Some id → y.version < version) → x.version < version
    by (inl e) rest = omega (arith, first, e)
    by (inr f) rest =
        let further : id_of version ys ≡ Some id = sym (ap (λ b. if b then Some y.id else id_of version ys) f) ∙ h in
        omega (arith, first, rest further)

-- the id of the first item's version is its own
own-id : (x : Item) (xs : List Item) → id_of x.version (x ∷ xs) ≡ Some x.id
own-id x xs = ap (λ b. if b then Some x.id else id_of x.version xs) (eq-eqb x.version x.version refl)

-- what is not shared by a longer history is not shared by its tail
tail-none : (x : Item) (xs two : List Item) (version : ℕ) → rises (x ∷ xs) ≡ true → (id_of version (x ∷ xs) ≡ None) ⊎ (id_of version two ≡ None)
    → (id_of version xs ≡ None) ⊎ (id_of version two ≡ None)
tail-none x xs two version r (inr n) = inr n
tail-none x xs two version r (inl n) = inl (by (same-or-not x.version version))
  where
    by : (x.version ≡ version) ⊎ ((x.version == version) ≡ false) → id_of version xs ≡ None
    by (inl e) = let some : id_of version (x ∷ xs) ≡ Some x.id = subst (λ (v : ℕ). id_of v (x ∷ xs) ≡ Some x.id) e (own-id x xs) in absurd (cc)
    by (inr f) = sym (ap (λ b. if b then Some x.id else id_of version xs) f) ∙ n

-- nothing is shared from this version on
shared-none : (low : ℕ) (one two : List Item) → rises one ≡ true → ((version id : ℕ) → id_of version one ≡ Some id → low < version)
    → NoneShared (λ version. low < version) one two → shared one two ≡ []
shared-none low [] two r above none = refl
shared-none low (x ∷ xs) two r above none =
    let rest : shared xs two ≡ [] = shared-none low xs two (rises-tail x xs r) (λ v i h. omega (arith, above x.version x.id (own-id x xs), behind-greater x xs v i r h))
    (λ v l. tail-none x xs two v r (none v l)) in
    by (none x.version (above x.version x.id (own-id x xs))) rest
  where
    by : (id_of x.version (x ∷ xs) ≡ None) ⊎ (id_of x.version two ≡ None) → shared xs two ≡ [] → with_smaller x (id_of x.version two) (shared xs two) ≡ []
    by (inl n) e = let some : id_of x.version (x ∷ xs) ≡ Some x.id = own-id x xs in absurd (cc)
    by (inr n) e = ap (λ o. with_smaller x o (shared xs two)) n ∙ e

-- the greatest version that stands in both
pub common-is : (one two : List Item) (version i j : ℕ) → rises one ≡ true → id_of version one ≡ Some i → id_of version two ≡ Some j
    → NoneShared (λ v. version < v) one two → common_of one two ≡ Some (record { id = min i j; version = version })
common-is [] two version i j r h k none = absurd (cc)
common-is (x ∷ xs) two version i j r h k none = by (same-or-not x.version version) (common-is xs two version i j (rises-tail x xs r))
  where
    further : (x.version == version) ≡ false → id_of version xs ≡ Some i
    further f = sym (ap (λ b. if b then Some x.id else id_of version xs) f) ∙ h

    with_rest : (o : Option ℕ) (z : Item) (rest : List Item) → x.version < z.version → greatest rest ≡ Some z → greatest (with_smaller x o rest) ≡ Some z
    with_rest None z rest l e = e
    with_rest (Some id) z rest l e =
        ap (greater (record { id = min x.id id; version = x.version })) e
        ∙ ap (λ b. if b then Some z else Some (record { id = min x.id id; version = x.version })) (lt-ltb x.version z.version l)

    by : (x.version ≡ version) ⊎ ((x.version == version) ≡ false)
        → (id_of version xs ≡ Some i → id_of version two ≡ Some j → NoneShared (λ v. version < v) xs two → common_of xs two ≡ Some (record { id = min i j; version = version }))
        → common_of (x ∷ xs) two ≡ Some (record { id = min i j; version = version })
    by (inl e) rest =
        let own : id_of version (x ∷ xs) ≡ Some x.id = subst (λ (v : ℕ). id_of v (x ∷ xs) ≡ Some x.id) e (own-id x xs) in
        let id : x.id ≡ i = cc in
        let there : id_of x.version two ≡ Some j = subst (λ (v : ℕ). id_of v two ≡ Some j) (sym e) k in
        let nothing : shared xs two ≡ [] = shared-none version xs two (rises-tail x xs r) (λ v w g. subst (λ (n : ℕ). n < v) e (behind-greater x xs v w r g)) (λ v l. tail-none x xs two v r (none v l)) in
        ap (λ o. greatest (with_smaller x o (shared xs two))) there
        ∙ ap (λ l. greater (record { id = min x.id j; version = x.version }) (greatest l)) nothing
        ∙ ap (λ (n : ℕ). Some (item (min n j) x.version)) id
        ∙ ap (λ (v : ℕ). Some (item (min i j) v)) e
      where
        item : ℕ → ℕ → Item
        item id version = record { id = id; version = version }
    by (inr f) rest =
        let later : id_of version xs ≡ Some i = further f in
        with_rest (id_of x.version two) (record { id = min i j; version = version }) (shared xs two) (behind-greater x xs version i r later)
        (rest later k (λ v l. tail-none x xs two v r (none v l)))

-- no version stands in both
pub common-none : (one two : List Item) → rises one ≡ true → ((version : ℕ) → (id_of version one ≡ None) ⊎ (id_of version two ≡ None)) → common_of one two ≡ None
common-none one two r none = ap greatest (nothing one r none)
  where
    nothing : (one : List Item) → rises one ≡ true → ((version : ℕ) → (id_of version one ≡ None) ⊎ (id_of version two ≡ None)) → shared one two ≡ []
    nothing [] r none = refl
    nothing (x ∷ xs) r none = by (none x.version) (nothing xs (rises-tail x xs r) (λ v. tail-none x xs two v r (none v)))
      where
        by : (id_of x.version (x ∷ xs) ≡ None) ⊎ (id_of x.version two ≡ None) → shared xs two ≡ [] → with_smaller x (id_of x.version two) (shared xs two) ≡ []
        by (inl n) e = let some : id_of x.version (x ∷ xs) ≡ Some x.id = own-id x xs in absurd (cc)
        by (inr n) e = ap (λ o. with_smaller x o (shared xs two)) n ∙ e

-- the last id of a version in two lists of events
abbrev pub either_id : Option ℕ → Option ℕ → Option ℕ
either_id (Some id) before = Some id
either_id None before = before

pub last-id-append : (version : ℕ) (front rest : List Event) → last_id_of version (front ++ rest) ≡ either_id (last_id_of version rest) (last_id_of version front)
last-id-append version [] rest = by (last_id_of version rest)
  where
    by : (o : Option ℕ) → o ≡ either_id o None
    by (Some i) = refl
    by None = refl
last-id-append version (e ∷ es) rest =
    ap (λ o. later_id o (e.version == version) e.id) (last-id-append version es rest) ∙ by (last_id_of version rest)
  where
    by : (o : Option ℕ) → later_id (either_id o (last_id_of version es)) (e.version == version) e.id ≡ either_id o (later_id (last_id_of version es) (e.version == version) e.id)
    by (Some i) = refl
    by None = refl

-- the last event has the last id of its version
last-own : (e : Event) (es : List Event) → last_id_of (last_from e es).version (e ∷ es) ≡ Some (last_from e es).id
last-own e [] = ap (λ b. if b then Some e.id else None) (eq-eqb e.version e.version refl)
last-own e (f ∷ fs) = ap (λ o. later_id o (e.version == (last_from f fs).version) e.id) (last-own f fs)

-- no event is of a version above the last one's
above-last : (low version : ℕ) (e : Event) (es : List Event) → Climbs low (e ∷ es) → (last_from e es).version < version → last_id_of version (e ∷ es) ≡ None
above-last low version e [] c l = ap (λ b. if b then Some e.id else None) (ne_eqb e.version version (λ s. omega (arith, l, s)))
above-last low version e (f ∷ fs) c l =
    ap (λ o. later_id o (e.version == version) e.id) (above-last e.version version f fs c.1 l)
    ∙ ap (λ b. if b then Some e.id else None) (ne_eqb e.version version (λ s. omega (arith, l, s, up e f fs c.1)))
  where
    up : (e f : Event) (fs : List Event) → Climbs e.version (f ∷ fs) → e.version ≤ (last_from f fs).version
    up e f [] c = c.0
    up e f (g ∷ gs) c = omega (arith, c.0, up f g gs c.1)

-- ids after others are greater
last-id-above : (id version : ℕ) (events : List Event) (i : ℕ) → follow_from id events ≡ true → last_id_of version events ≡ Some i → id < i
last-id-above id version [] i f h = absurd (cc)
last-id-above id version (e ∷ es) i f h = by (last_id_of version es) refl h (last-id-above e.id version es i p.1)
  where
    p : ((e.id == id + 1) ≡ true) × (follow_from e.id es ≡ true)
    p = and_parts (e.id == id + 1) (follow_from e.id es) f

    own : e.id ≡ id + 1
    own = eqb-true e.id (id + 1) p.0

    mine : (t : Bool) → (if t then Some e.id else None) ≡ Some i → id < i
    mine true k = let same : e.id ≡ i = cc in omega (arith, own, same)
    mine false k = absurd (cc)

    by : (o : Option ℕ) → last_id_of version es ≡ o → later_id o (e.version == version) e.id ≡ Some i → (last_id_of version es ≡ Some i → e.id < i) → id < i
    by None at k rest = mine (e.version == version) k
    by (Some j) at k rest = let same : j ≡ i = cc in omega (arith, own, rest (at ∙ ap Some same))

-- one of two ids is there alone, or neither
abbrev pub NotBoth : Option ℕ → Option ℕ → Type 0
NotBoth one two = (one ≡ None) ⊎ (two ≡ None)

module _ (e : Event) (es one two : List Event) (first : Climbs 0 ((e ∷ es) ++ one)) (second : Climbs 0 ((e ∷ es) ++ two))
    (ids : follow_from 0 ((e ∷ es) ++ one) ≡ true) (others : follow_from 0 ((e ∷ es) ++ two) ≡ true)
    (apart : (version : ℕ) → NotBoth (last_id_of version one) (last_id_of version two)) where
  front-climbs : (low : ℕ) (front rest : List Event) → Climbs low (front ++ rest) → Climbs low front
  front-climbs low [] rest c = tt
  front-climbs low (x ∷ xs) rest c = (c.0, front-climbs x.version xs rest c.1)

  id-there : (rest : List Event) → last_id_of (last_from e es).version ((e ∷ es) ++ rest) ≡ either_id (last_id_of (last_from e es).version rest) (Some (last_from e es).id)
  id-there rest = last-id-append (last_from e es).version (e ∷ es) rest ∙ ap (either_id (last_id_of (last_from e es).version rest)) (last-own e es)

  id-above : (version : ℕ) (rest : List Event) → (last_from e es).version < version → last_id_of version ((e ∷ es) ++ rest) ≡ last_id_of version rest
  id-above version rest l =
      last-id-append version (e ∷ es) rest
      ∙ ap (either_id (last_id_of version rest)) (above-last 0 version e es (front-climbs 0 (e ∷ es) one first) l)
      ∙ by (last_id_of version rest)
    where
      by : (o : Option ℕ) → either_id o None ≡ o
      by (Some i) = refl
      by None = refl

  none-above : NoneShared (λ v. (last_from e es).version < v) (versions_of ((e ∷ es) ++ one)) (versions_of ((e ∷ es) ++ two))
  none-above v l = by (apart v)
    where
      one-is : id_of v (versions_of ((e ∷ es) ++ one)) ≡ last_id_of v one
      one-is = versions-ids v 0 ((e ∷ es) ++ one) first ∙ id-above v one l

      two-is : id_of v (versions_of ((e ∷ es) ++ two)) ≡ last_id_of v two
      two-is = versions-ids v 0 ((e ∷ es) ++ two) second ∙ id-above v two l

      by : NotBoth (last_id_of v one) (last_id_of v two) → (id_of v (versions_of ((e ∷ es) ++ one)) ≡ None) ⊎ (id_of v (versions_of ((e ∷ es) ++ two)) ≡ None)
      by (inl n) = inl (one-is ∙ n)
      by (inr n) = inr (two-is ∙ n)

  rises-one : rises (versions_of ((e ∷ es) ++ one)) ≡ true
  rises-one = (versions-rise 0 0 ((e ∷ es) ++ one) ids first).0

  -- an id after the last is not smaller
  id-behind : (rest : List Event) (i : ℕ) → follow_from 0 ((e ∷ es) ++ rest) ≡ true → last_id_of (last_from e es).version rest ≡ Some i → (last_from e es).id < i
  id-behind rest i f h =
      let from : follow_from (ends 0 (e ∷ es)) rest ≡ true = follow-rest 0 (e ∷ es) rest f in
      last-id-above (last_from e es).id (last_from e es).version rest i (subst (λ (n : ℕ). follow_from n rest ≡ true) (ends-last 0 e es) from) h

  -- the histories of events that go apart have the last event before that in common
  pub common-front : common_of (versions_of ((e ∷ es) ++ one)) (versions_of ((e ∷ es) ++ two)) ≡ Some (item_of (last_from e es))
  common-front = by (last_id_of (last_from e es).version one) refl (last_id_of (last_from e es).version two) refl (apart (last_from e es).version)
    where
      item : ℕ → Option Item
      item id = Some (record { id = id; version = (last_from e es).version })

      history : (rest : List Event) (o : Option ℕ) → Climbs 0 ((e ∷ es) ++ rest) → last_id_of (last_from e es).version rest ≡ o
          → id_of (last_from e es).version (versions_of ((e ∷ es) ++ rest)) ≡ either_id o (Some (last_from e es).id)
      history rest o c at = versions-ids (last_from e es).version 0 ((e ∷ es) ++ rest) c ∙ id-there rest ∙ ap (λ p. either_id p (Some (last_from e es).id)) at

      min-left : (a b : ℕ) → a ≤ b → min a b ≡ a
      min-left a b l = omega arith

      min-right : (a b : ℕ) → b ≤ a → min a b ≡ b
      min-right a b l = omega arith

      by : (o : Option ℕ) → last_id_of (last_from e es).version one ≡ o → (p : Option ℕ) → last_id_of (last_from e es).version two ≡ p
          → NotBoth (last_id_of (last_from e es).version one) (last_id_of (last_from e es).version two)
          → common_of (versions_of ((e ∷ es) ++ one)) (versions_of ((e ∷ es) ++ two)) ≡ Some (item_of (last_from e es))
      by None at None bt _ =
          common-is (versions_of ((e ∷ es) ++ one)) (versions_of ((e ∷ es) ++ two)) (last_from e es).version (last_from e es).id (last_from e es).id rises-one
          (history one None first at) (history two None second bt) none-above
          ∙ ap item (min-left (last_from e es).id (last_from e es).id (omega arith))
      by (Some i) at None bt _ =
          let l : (last_from e es).id < i = id-behind one i ids at in
          common-is (versions_of ((e ∷ es) ++ one)) (versions_of ((e ∷ es) ++ two)) (last_from e es).version i (last_from e es).id rises-one
          (history one (Some i) first at) (history two None second bt) none-above
          ∙ ap item (min-right i (last_from e es).id (omega arith))
      by None at (Some j) bt _ =
          let l : (last_from e es).id < j = id-behind two j others bt in
          common-is (versions_of ((e ∷ es) ++ one)) (versions_of ((e ∷ es) ++ two)) (last_from e es).version (last_from e es).id j rises-one
          (history one None first at) (history two (Some j) second bt) none-above
          ∙ ap item (min-left (last_from e es).id j (omega arith))
      by (Some i) at (Some j) bt (inl n) = absurd (cc)
      by (Some i) at (Some j) bt (inr n) = absurd (cc)
