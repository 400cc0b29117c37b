-- The version history of events, and what two of them have in common.
use Rattle.std.proofs.Common.{◌≡◌, ℕ, ◌+◌, ◌<◌, ◌≤◌, Bool, true, false, ◌&&◌, ◌==◌, nat_lt, List, [], ◌∷◌, ◌⊎◌, inl, inr, Option, Some, None, refl, sym, ◌∙◌, subst, ap, true≢false, arith}
use Rattle.std.specs.Prelude.{if◌then◌else◌}
use Rattle.std.proofs.lemmas.Bool.{and_parts, and_from, lt-ltb, eqb-true, eq-eqb, ne_eqb}
use Rattle.ndc_event.specs.declared.batch.Event.{Event}
use Rattle.ndc_event.specs.Batch.{follow_from}
use Rattle.ndc_history.specs.declared.item.Item.{Item}
use Rattle.ndc_history.specs.Common.{id_of}
use Rattle.ndc_history.specs.History.{rise_from, rises}
use Rattle.ndc_model_sets.specs.Paths.{item_of, before_items, versions_of, later_id, last_id_of}
use Rattle.ndc_model_sets.proofs.PathIds.{Climbs}

-- a number is another one, or not
pub same-or-not : (a b : ℕ) → (a ≡ b) ⊎ ((a == b) ≡ false)
same-or-not a b = by (a == b) refl
  where
    by : (t : Bool) → (a == b) ≡ t → (a ≡ b) ⊎ ((a == b) ≡ false)
    by true e = inl (eqb-true a b e)
    by false e = inr e

-- a number that is not above another, and is not it, is below it
strict : (a b : ℕ) → a ≤ b → (a == b) ≡ false → a < b
strict a b l n = omega (arith, l, different)
  where
    different : a ≡ b → ⊥
    different e = true≢false (sym (eq-eqb a b e) ∙ n)

-- the first item, where there is one, is after this id and not below this version
abbrev pub IsBehind : ℕ → ℕ → List Item → Type 0
IsBehind id version [] = Unit {0}
IsBehind id version (item ∷ items) = (id < item.id) × (version ≤ item.version)

-- items that rise, after an id and a version
abbrev pub RisesBehind : ℕ → ℕ → List Item → Type 0
RisesBehind id version items = (rises items ≡ true) × IsBehind id version items

rises-before : (id version : ℕ) (item : Item) (items : List Item) → id < item.id → version ≤ item.version → RisesBehind item.id item.version items
    → RisesBehind id version (before_items item items)
rises-before id version item [] i v r = (refl, (i, v))
rises-before id version item (next ∷ items) i v r = by (same-or-not item.version next.version)
  where
    by : (item.version ≡ next.version) ⊎ ((item.version == next.version) ≡ false) → RisesBehind id version (before_items item (next ∷ items))
    by (inl e) = let t : (item.version == next.version) ≡ true = eq-eqb item.version next.version e in
        let one : item.id < next.id = r.1.0 in
        subst (RisesBehind id version) (sym (ap (λ b. if b then next ∷ items else item ∷ next ∷ items) t)) (r.0, (omega arith, omega arith))
    by (inr f) =
        let one : item.id < next.id = r.1.0 in
        let two : item.version ≤ next.version = r.1.1 in
        let less : item.version < next.version = strict item.version next.version two f in
        subst (RisesBehind id version) (sym (ap (λ b. if b then next ∷ items else item ∷ next ∷ items) f)) (
          and_from (nat_lt item.id next.id && nat_lt item.version next.version) (rise_from next items)
              (and_from (nat_lt item.id next.id) (nat_lt item.version next.version) (lt-ltb item.id next.id one) (lt-ltb item.version next.version less)) r.0,
          (i, v),
        )

pub versions-rise : (id version : ℕ) (events : List Event) → follow_from id events ≡ true → Climbs version events → RisesBehind id version (versions_of events)
versions-rise id version [] f c = (refl, tt)
versions-rise id version (e ∷ es) f c =
    let p = and_parts (e.id == id + 1) (follow_from e.id es) f in
    let own : e.id ≡ id + 1 = eqb-true e.id (id + 1) p.0 in
    rises-before id version (item_of e) (versions_of es) (omega arith) c.0 (versions-rise e.id e.version es p.1 c.1)

-- no event is of a version below those of all
pub below-all : (low version : ℕ) (events : List Event) → version < low → Climbs low events → last_id_of version events ≡ None
below-all low version [] l c = refl
below-all low version (e ∷ es) l c =
    let high : low ≤ e.version = c.0 in
    let rest : last_id_of version es ≡ None = below-all e.version version es (omega arith) c.1 in
    let other : (e.version == version) ≡ false = ne_eqb e.version version (λ s. omega arith) in
    rw (rest, other) refl

-- the first item is of the first event's version
first-version : (e : Event) (es : List Event) (item : Item) (items : List Item) → versions_of (e ∷ es) ≡ item ∷ items → item.version ≡ e.version
first-version e es item items = by (versions_of es)
  where
    by : (later : List Item) → before_items (item_of e) later ≡ item ∷ items → item.version ≡ e.version
    by [] h = let same : item_of e ≡ item = cc in sym (ap (λ (i : Item). i.version) same)
    by (next ∷ later) h = choice (same-or-not e.version next.version)
      where
        choice : (e.version ≡ next.version) ⊎ ((e.version == next.version) ≡ false) → item.version ≡ e.version
        choice (inl s) =
            let t : (e.version == next.version) ≡ true = eq-eqb e.version next.version s in
            let k : next ∷ later ≡ item ∷ items = sym (ap (λ b. if b then next ∷ later else item_of e ∷ next ∷ later) t) ∙ h in
            let same : next ≡ item = cc in sym (ap (λ (i : Item). i.version) same) ∙ sym s
        choice (inr f) =
            let k : item_of e ∷ next ∷ later ≡ item ∷ items = sym (ap (λ b. if b then next ∷ later else item_of e ∷ next ∷ later) f) ∙ h in
            let same : item_of e ≡ item = cc in sym (ap (λ (i : Item). i.version) same)

-- the history has the last id of each version
pub versions-ids : (version low : ℕ) (events : List Event) → Climbs low events → id_of version (versions_of events) ≡ last_id_of version events
versions-ids version low [] c = refl
versions-ids version low (e ∷ es) c = by (versions_of es) refl (versions-ids version e.version es c.1)
  where
    later : (es : List Event) (next : Item) (items : List Item) → versions_of es ≡ next ∷ items → Climbs e.version es → (e.version == next.version) ≡ false → last_id_of e.version es ≡ None
    later [] next items h c f = refl
    later (g ∷ gs) next items h c f =
        let own : next.version ≡ g.version = first-version g gs next items h in
        let low : e.version ≤ g.version = c.0 in
        let less : e.version < g.version = strict e.version g.version low (sym (ap (λ n. e.version == n) own) ∙ f) in
        below-all g.version e.version (g ∷ gs) less (omega arith, c.1)

    by : (items : List Item) → versions_of es ≡ items → id_of version items ≡ last_id_of version es
        → id_of version (before_items (item_of e) items) ≡ later_id (last_id_of version es) (e.version == version) e.id
    by [] at h = rw (sym h) refl
    by (next ∷ items) at h = choice (same-or-not e.version next.version) (same-or-not e.version version) h
      where
        with_own : (e.version ≡ next.version) → (o : Option ℕ) → id_of version (next ∷ items) ≡ o → o ≡ later_id o (e.version == version) e.id
        with_own s (Some i) k = refl
        with_own s None k = mine (same-or-not e.version version)
          where
            mine : (e.version ≡ version) ⊎ ((e.version == version) ≡ false) → None ≡ later_id None (e.version == version) e.id
            mine (inl v) = let t : (next.version == version) ≡ true = eq-eqb next.version version (sym s ∙ v) in
                let some : id_of version (next ∷ items) ≡ Some next.id = ap (λ b. if b then Some next.id else id_of version items) t in absurd (cc)
            mine (inr f) = rw f refl

        choice : (e.version ≡ next.version) ⊎ ((e.version == next.version) ≡ false) → (e.version ≡ version) ⊎ ((e.version == version) ≡ false)
            → id_of version (next ∷ items) ≡ last_id_of version es
            → id_of version (before_items (item_of e) (next ∷ items)) ≡ later_id (last_id_of version es) (e.version == version) e.id
        choice (inl s) _ h =
            let t : (e.version == next.version) ≡ true = eq-eqb e.version next.version s in
            ap (λ b. id_of version (if b then next ∷ items else item_of e ∷ next ∷ items)) t ∙ h ∙ with_own s (last_id_of version es) h
        choice (inr f) (inl v) h =
            let none : last_id_of version es ≡ None = subst (λ (n : ℕ). last_id_of n es ≡ None) v (later es next items at c.1 f) in
            let t : (e.version == version) ≡ true = eq-eqb e.version version v in
            ap (λ b. id_of version (if b then next ∷ items else item_of e ∷ next ∷ items)) f
            ∙ ap (λ b. if b then Some e.id else id_of version (next ∷ items)) t
            ∙ sym (ap (λ o. later_id o (e.version == version) e.id) none ∙ ap (λ b. later_id None b e.id) t)
        choice (inr f) (inr n) h =
            ap (λ b. id_of version (if b then next ∷ items else item_of e ∷ next ∷ items)) f
            ∙ ap (λ b. if b then Some e.id else id_of version (next ∷ items)) n
            ∙ h
            ∙ kept (last_id_of version es)
            ∙ sym (ap (λ b. later_id (last_id_of version es) b e.id) n)
          where
            kept : (o : Option ℕ) → o ≡ later_id o false e.id
            kept (Some i) = refl
            kept None = refl
