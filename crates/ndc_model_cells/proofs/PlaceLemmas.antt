-- The order of places, and what arrives at its place.
use Rattle.std.proofs.Common.{◌≡◌, ℕ, Bool, true, false, ◌&&◌, List, [], ◌∷◌, ◌⊎◌, inl, inr, Option, None, Some, IfSome, if◌then◌else◌, refl, sym, ◌∙◌, subst, ap, cond, true≢false}
use Rattle.std.specs.List.{AllByRecursion, filter}
use Rattle.std.specs.Str.{bytes_eq}
use Rattle.std.specs.declared.cmp.Ordering.{Ordering}
use Rattle.std.specs.declared.cmp.Ordering.TheVariants.{Less, Equal, Greater}
use Rattle.std.proofs.lemmas.Bool.{and_parts, and_from}
use Rattle.std.proofs.lemmas.Slice.Eq.{bytes_eq-Decides}
use Rattle.ndc_domain.specs.Records.{names_cmp}
use Rattle.ndc_domain.proofs.Order.{names_equal, names_same, greater_flip, less_trans}
use Rattle.ndc_event.specs.Key.{key_eq, key_lt}
use Rattle.ndc_event.specs.declared.batch.Batch.{Batch}
use Rattle.ndc_event.specs.declared.key.BatchKey.{BatchKey}
use Rattle.ndc_event.specs.declared.name.Name.{Name}
use Rattle.ndc_model_sets.specs.Learned.{learned, IsPart}
use Rattle.ndc_model_sets.specs.Sets.{PointsBack, ComeAfter, Rise, IsSet, arrived}
use Rattle.ndc_model_sets.proofs.ArrivalLemmas.{only_adds}
use Rattle.ndc_model_sets.proofs.KeyLemmas.{before-trans, before-total}
use Rattle.ndc_model_sets.proofs.Lists.{filter-cases}
use Rattle.ndc_model_sets.proofs.BranchLemmas.{All-filter}
use Rattle.ndc_model_sets.proofs.KeyLemmas.{key_eq-self, same-keys}
use Rattle.ndc_model_cells.specs.declared.message.Message.{Message}
use Rattle.ndc_model_cells.specs.declared.place.Place.{Place}
use Rattle.ndc_model_cells.specs.Arrival.{arrived_at, cell_with, has_arrived, placed_second}
use Rattle.ndc_model_cells.specs.Laws.{arrived_second}
use Rattle.ndc_model_cells.specs.Cells.{Cell, arrived_of, learned_of, IsCell}
use Rattle.ndc_model_cells.specs.Places.{less_or, place_lt, is_at, place_of, is_of, placed, AreBehind, AreInOrder}
use Rattle.ndc_model_cells.specs.Writing.{Entry, with_written}
use Rattle.ndc_model_cells.proofs.CellLemmas.{filter-placed}

-- by domain, then workflow, then key
abbrev pub KeyIsBefore : Place → Place → Type 0
KeyIsBefore one two = (one.workflow ≡ two.workflow) × (key_lt one.key two.key ≡ true)

abbrev pub WorkflowIsBefore : Place → Place → Type 0
WorkflowIsBefore one two = (names_cmp one.workflow two.workflow ≡ Less) ⊎ KeyIsBefore one two

abbrev pub PlaceIsBefore : Place → Place → Type 0
PlaceIsBefore one two = (names_cmp one.domain two.domain ≡ Less) ⊎ ((one.domain ≡ two.domain) × WorkflowIsBefore one two)

pub place-parts : (one two : Place) → place_lt one two ≡ true → PlaceIsBefore one two
place-parts one two h = by (names_cmp one.domain two.domain) refl h
  where
    workflow : (o : Ordering) → names_cmp one.workflow two.workflow ≡ o → less_or o (key_lt one.key two.key) ≡ true → WorkflowIsBefore one two
    workflow Less e h = inl e
    workflow Equal e h = inr (names_equal one.workflow two.workflow e, h)
    workflow Greater e h = absurd (true≢false (sym h))

    by : (o : Ordering) → names_cmp one.domain two.domain ≡ o → less_or o (less_or (names_cmp one.workflow two.workflow) (key_lt one.key two.key)) ≡ true → PlaceIsBefore one two
    by Less e h = inl e
    by Equal e h = inr (names_equal one.domain two.domain e, workflow (names_cmp one.workflow two.workflow) refl h)
    by Greater e h = absurd (true≢false (sym h))

-- names that are one compare as equal
equal-names : (a b : List ℕ) → a ≡ b → names_cmp a b ≡ Equal
equal-names a b e = subst (λ (x : List ℕ). names_cmp a x ≡ Equal) e (names_same a)

pub place-from : (one two : Place) → PlaceIsBefore one two → place_lt one two ≡ true
place-from one two (inl l) = ap (λ o. less_or o (less_or (names_cmp one.workflow two.workflow) (key_lt one.key two.key))) l
place-from one two (inr (d, inl l)) =
    ap (λ o. less_or o (less_or (names_cmp one.workflow two.workflow) (key_lt one.key two.key))) (equal-names one.domain two.domain d) ∙ ap (λ o. less_or o (key_lt one.key two.key)) l
place-from one two (inr (d, inr (w, k))) =
    ap (λ o. less_or o (less_or (names_cmp one.workflow two.workflow) (key_lt one.key two.key))) (equal-names one.domain two.domain d)
    ∙ ap (λ o. less_or o (key_lt one.key two.key)) (equal-names one.workflow two.workflow w) ∙ k

left-name : (a b c : List ℕ) → a ≡ b → names_cmp b c ≡ Less → names_cmp a c ≡ Less
left-name a b c e l = subst (λ (x : List ℕ). names_cmp x c ≡ Less) (sym e) l

right-name : (a b c : List ℕ) → names_cmp a b ≡ Less → b ≡ c → names_cmp a c ≡ Less
right-name a b c l e = subst (λ (x : List ℕ). names_cmp a x ≡ Less) e l

pub place-trans : (a b c : Place) → place_lt a b ≡ true → place_lt b c ≡ true → place_lt a c ≡ true
place-trans a b c h g = place-from a c (by (place-parts a b h) (place-parts b c g))
  where
    workflow : WorkflowIsBefore a b → WorkflowIsBefore b c → WorkflowIsBefore a c
    workflow (inl l) (inl m) = inl (less_trans a.workflow b.workflow c.workflow l m)
    workflow (inl l) (inr (w, k)) = inl (right-name a.workflow b.workflow c.workflow l w)
    workflow (inr (w, k)) (inl m) = inl (left-name a.workflow b.workflow c.workflow w m)
    workflow (inr (w, k)) (inr (v, j)) = inr (w ∙ v, before-trans a.key b.key c.key k j)

    by : PlaceIsBefore a b → PlaceIsBefore b c → PlaceIsBefore a c
    by (inl l) (inl m) = inl (less_trans a.domain b.domain c.domain l m)
    by (inl l) (inr (d, w)) = inl (right-name a.domain b.domain c.domain l d)
    by (inr (d, w)) (inl m) = inl (left-name a.domain b.domain c.domain d m)
    by (inr (d, w)) (inr (e, v)) = inr (d ∙ e, workflow w v)

-- keys that differ, the other way round
pub key-flip : (a b : BatchKey) → key_eq a b ≡ false → key_eq b a ≡ false
key-flip a b n = by (key_eq b a) refl
  where
    by : (t : Bool) → key_eq b a ≡ t → t ≡ false
    by true e = absurd (true≢false (sym (subst (λ (k : BatchKey). key_eq a k ≡ true) (sym (same-keys b a e)) (key_eq-self a)) ∙ n))
    by false e = refl

pub key-turn : (a b : BatchKey) → key_eq a b ≡ true → key_eq b a ≡ true
key-turn a b e = subst (λ (k : BatchKey). key_eq b k ≡ true) (sym (same-keys a b e)) (key_eq-self b)

-- a place comes before that of a batch, or after it, or is its own
pub place-total : (a : Place) (b : Batch) → place_lt a (place_of b) ≡ false → is_at a b ≡ false → place_lt (place_of b) a ≡ true
place-total a b l s = by (names_cmp a.domain b.domain) refl
  where
    not-less : PlaceIsBefore a (place_of b) → ⊥
    not-less p = true≢false (sym (place-from a (place_of b) p) ∙ l)

    same-name : (x y : List ℕ) → x ≡ y → bytes_eq y x ≡ true
    same-name x y e = (bytes_eq-Decides y x).1 (sym e)

    keys : a.domain ≡ b.domain → a.workflow ≡ b.workflow → PlaceIsBefore (place_of b) a
    keys d w = key-order (key_lt a.key b.key) refl (key_eq b.key a.key) refl
      where
        key-order : (t : Bool) → key_lt a.key b.key ≡ t → (u : Bool) → key_eq b.key a.key ≡ u → PlaceIsBefore (place_of b) a
        key-order true e u f = absurd (not-less (inr (d, inr (w, e))))
        key-order false e true f =
            absurd (true≢false (sym (and_from (bytes_eq b.domain a.domain && bytes_eq b.workflow a.workflow) (key_eq b.key a.key)
            (and_from (bytes_eq b.domain a.domain) (bytes_eq b.workflow a.workflow) (same-name a.domain b.domain d) (same-name a.workflow b.workflow w)) f) ∙ s))
        key-order false e false f = inr (sym d, inr (sym w, before-total a.key b.key e (key-flip b.key a.key f)))

    workflows : a.domain ≡ b.domain → (o : Ordering) → names_cmp a.workflow b.workflow ≡ o → PlaceIsBefore (place_of b) a
    workflows d Less e = absurd (not-less (inr (d, inl e)))
    workflows d Equal e = keys d (names_equal a.workflow b.workflow e)
    workflows d Greater e = inr (sym d, inl (greater_flip a.workflow b.workflow e))

    by : (o : Ordering) → names_cmp a.domain b.domain ≡ o → place_lt (place_of b) a ≡ true
    by Less e = absurd (not-less (inl e))
    by Equal e = place-from (place_of b) a (workflows (names_equal a.domain b.domain e) (names_cmp a.workflow b.workflow) refl)
    by Greater e = place-from (place_of b) a (inl (greater_flip a.domain b.domain e))

-- what comes after a later place comes after this one
pub behind-trans : (low high : Place) (batches : List Batch) → place_lt low high ≡ true → AreBehind high batches → AreBehind low batches
behind-trans low high [] l all = tt
behind-trans low high (x ∷ xs) l all = (place-trans low high (place_of x) l all.0, behind-trans low high xs l all.1)

-- arrival at a place, by how it compares with the first
pub placed-cases : (P : List Batch → Type 0) (new b : Batch) (batches : List Batch) → (place_lt (place_of new) (place_of b) ≡ true → P (new ∷ b ∷ batches))
    → (place_lt (place_of new) (place_of b) ≡ false → is_at (place_of new) b ≡ true → P (b ∷ batches))
    → (place_lt (place_of new) (place_of b) ≡ false → is_at (place_of new) b ≡ false → P (b ∷ placed new batches)) → P (placed new (b ∷ batches))
placed-cases P new b batches less same greater = by (place_lt (place_of new) (place_of b)) refl (is_at (place_of new) b) refl
  where
    by : (s : Bool) → place_lt (place_of new) (place_of b) ≡ s → (t : Bool) → is_at (place_of new) b ≡ t
        → P (if s then new ∷ b ∷ batches else if t then b ∷ batches else b ∷ placed new batches)
    by true e t f = less e
    by false e true f = same e f
    by false e false f = greater e f

pub all-placed : (P : Batch → Type 0) (new : Batch) (batches : List Batch) → P new → AllByRecursion P batches → AllByRecursion P (placed new batches)
all-placed P new [] p all = (p, tt)
all-placed P new (b ∷ batches) p all =
    placed-cases (AllByRecursion P) new b batches (λ _. (p, all)) (λ _ _. all) (λ _ _. (all.0, all-placed P new batches p all.1))

pub placed-in-order : (new : Batch) (batches : List Batch) → AreInOrder batches → AreInOrder (placed new batches)
placed-in-order new [] order = (tt, tt)
placed-in-order new (b ∷ batches) order =
    placed-cases AreInOrder new b batches
    (λ l. ((l, behind-trans (place_of new) (place_of b) batches l order.0), order))
    (λ _ _. order)
    (λ l s. (all-placed (λ x. place_lt (place_of b) (place_of x) ≡ true) new batches (place-total (place_of new) b l s) order.0, placed-in-order new batches order.1))

-- the batches of one workflow are compared by their keys
own-names : (domain workflow : Name) (one two : Batch) → is_of domain workflow one ≡ true → is_of domain workflow two ≡ true → (one.domain ≡ two.domain) × (one.workflow ≡ two.workflow)
own-names domain workflow one two h g =
    let p = and_parts (bytes_eq one.domain domain) (bytes_eq one.workflow workflow) h in
    let q = and_parts (bytes_eq two.domain domain) (bytes_eq two.workflow workflow) g in (
      (bytes_eq-Decides one.domain domain).0 p.0 ∙ sym ((bytes_eq-Decides two.domain domain).0 q.0),
      (bytes_eq-Decides one.workflow workflow).0 p.1 ∙ sym ((bytes_eq-Decides two.workflow workflow).0 q.1),
    )

place-key : (one two : Batch) → (one.domain ≡ two.domain) × (one.workflow ≡ two.workflow) → place_lt (place_of one) (place_of two) ≡ key_lt one.key two.key
place-key one two names =
    ap (λ o. less_or o (less_or (names_cmp one.workflow two.workflow) (key_lt one.key two.key))) (equal-names one.domain two.domain names.0)
    ∙ ap (λ o. less_or o (key_lt one.key two.key)) (equal-names one.workflow two.workflow names.1)

same-key : (one two : Batch) → (one.domain ≡ two.domain) × (one.workflow ≡ two.workflow) → is_at (place_of one) two ≡ key_eq two.key one.key
same-key one two names =
    ap (λ b. b && key_eq two.key one.key)
    (and_from (bytes_eq two.domain one.domain) (bytes_eq two.workflow one.workflow)
    ((bytes_eq-Decides two.domain one.domain).1 (sym names.0)) ((bytes_eq-Decides two.workflow one.workflow).1 (sym names.1)))

module _ (domain workflow : Name) (new : Batch) (own : is_of domain workflow new ≡ true) where
  -- what comes after the batch's place comes after its key, in its workflow
  after-key : (batches : List Batch) → AreBehind (place_of new) batches → ComeAfter new.key (filter (is_of domain workflow) batches)
  after-key [] all = tt
  after-key (x ∷ xs) all =
      filter-cases (ComeAfter new.key) (is_of domain workflow) x xs
      (λ mine. (sym (place-key new x (own-names domain workflow new x own mine)) ∙ all.0, after-key xs all.1))
      (λ _. after-key xs all.1)

  -- a batch whose key comes before all goes first
  arrived-first : (batches : List Batch) → ComeAfter new.key batches → arrived new batches ≡ new ∷ batches
  arrived-first [] all = refl
  arrived-first (x ∷ xs) all = ap (λ t. if t then new ∷ x ∷ xs else if key_eq new.key x.key then x ∷ xs else x ∷ arrived new xs) all.0

  -- what goes to its place in a cell arrives in its workflow
  pub filter-own : (batches : List Batch) → AreInOrder batches → filter (is_of domain workflow) (placed new batches) ≡ arrived new (filter (is_of domain workflow) batches)
  filter-own [] order = ap (λ t. cond t (new ∷ []) []) own
  filter-own (b ∷ batches) order =
      placed-cases (λ l. filter (is_of domain workflow) l ≡ arrived new (filter (is_of domain workflow) (b ∷ batches))) new b batches
      (λ l. ap (λ t. cond t (new ∷ filter (is_of domain workflow) (b ∷ batches)) (filter (is_of domain workflow) (b ∷ batches))) own
      ∙ sym (arrived-first (filter (is_of domain workflow) (b ∷ batches)) (after-key (b ∷ batches) (l, behind-trans (place_of new) (place_of b) batches l order.0))))
      (λ l s. let q = and_parts (is_of new.domain new.workflow b) (key_eq b.key new.key) s in
      let r = and_parts (bytes_eq b.domain new.domain) (bytes_eq b.workflow new.workflow) q.0 in
      let names : (new.domain ≡ b.domain) × (new.workflow ≡ b.workflow) = (sym ((bytes_eq-Decides b.domain new.domain).0 r.0), sym ((bytes_eq-Decides b.workflow new.workflow).0 r.1)) in
      known names (sym (place-key new b names) ∙ l) (key-turn b.key new.key q.1))
      (λ l s. by (is_of domain workflow b) refl l s (filter-own batches order.1))
    where
      mine : (new.domain ≡ b.domain) × (new.workflow ≡ b.workflow) → is_of domain workflow b ≡ true
      mine names =
          let p = and_parts (bytes_eq new.domain domain) (bytes_eq new.workflow workflow) own in
          and_from (bytes_eq b.domain domain) (bytes_eq b.workflow workflow)
          (subst (λ (x : Name). bytes_eq x domain ≡ true) names.0 p.0) (subst (λ (x : Name). bytes_eq x workflow ≡ true) names.1 p.1)

      known : (new.domain ≡ b.domain) × (new.workflow ≡ b.workflow) → key_lt new.key b.key ≡ false → key_eq new.key b.key ≡ true
          → filter (is_of domain workflow) (b ∷ batches) ≡ arrived new (filter (is_of domain workflow) (b ∷ batches))
      known names l e =
          let kept : filter (is_of domain workflow) (b ∷ batches) ≡ b ∷ filter (is_of domain workflow) batches = ap (λ t. cond t (b ∷ filter (is_of domain workflow) batches) (filter (is_of domain workflow) batches)) (mine names) in
          kept
          ∙ sym (ap (arrived new) kept
          ∙ ap (λ t. if t then new ∷ b ∷ filter (is_of domain workflow) batches else if key_eq new.key b.key then b ∷ filter (is_of domain workflow) batches else b ∷ arrived new (filter (is_of domain workflow) batches)) l
          ∙ ap (λ t. if t then b ∷ filter (is_of domain workflow) batches else b ∷ arrived new (filter (is_of domain workflow) batches)) e)

      by : (t : Bool) → is_of domain workflow b ≡ t → place_lt (place_of new) (place_of b) ≡ false → is_at (place_of new) b ≡ false
          → filter (is_of domain workflow) (placed new batches) ≡ arrived new (filter (is_of domain workflow) batches)
          → filter (is_of domain workflow) (b ∷ placed new batches) ≡ arrived new (filter (is_of domain workflow) (b ∷ batches))
      by false e l s rest =
          ap (λ t. cond t (b ∷ filter (is_of domain workflow) (placed new batches)) (filter (is_of domain workflow) (placed new batches))) e
          ∙ rest
          ∙ sym (ap (λ t. arrived new (cond t (b ∷ filter (is_of domain workflow) batches) (filter (is_of domain workflow) batches))) e)
      by true e l s rest =
          let names : (new.domain ≡ b.domain) × (new.workflow ≡ b.workflow) = own-names domain workflow new b own e in
          let less : key_lt new.key b.key ≡ false = sym (place-key new b names) ∙ l in
          let other : key_eq new.key b.key ≡ false = key-flip b.key new.key (sym (same-key new b names) ∙ s) in
          ap (λ t. cond t (b ∷ filter (is_of domain workflow) (placed new batches)) (filter (is_of domain workflow) (placed new batches))) e
          ∙ ap (λ r. b ∷ r) rest
          ∙ sym (ap (λ t. arrived new (cond t (b ∷ filter (is_of domain workflow) batches) (filter (is_of domain workflow) batches))) e
          ∙ ap (λ t. if t then new ∷ b ∷ filter (is_of domain workflow) batches else if key_eq new.key b.key then b ∷ filter (is_of domain workflow) batches else b ∷ arrived new (filter (is_of domain workflow) batches)) less
          ∙ ap (λ t. if t then b ∷ filter (is_of domain workflow) batches else b ∷ arrived new (filter (is_of domain workflow) batches)) other)

pub rise-own : (domain workflow : Name) (batches : List Batch) → AreInOrder batches → Rise (filter (is_of domain workflow) batches)
rise-own domain workflow [] order = tt
rise-own domain workflow (b ∷ batches) order =
    filter-cases Rise (is_of domain workflow) b batches
    (λ mine. (after-key domain workflow b mine batches order.0, rise-own domain workflow batches order.1))
    (λ _. rise-own domain workflow batches order.1)

-- what has arrived of a workflow is a set
pub set_of_workflow : (domain workflow : Name) (cell : Cell) → IsCell cell → IsSet (arrived_of domain workflow cell)
set_of_workflow domain workflow cell is =
    record { ordered = rise-own domain workflow cell.arrived is.ordered; back = All-filter PointsBack (is_of domain workflow) cell.arrived is.back }

-- what goes to its place only adds to what is learned
placed-adds : (domain workflow : Name) (b : Batch) (cell : Cell) → IsCell cell → PointsBack b
    → IsPart (learned_of domain workflow cell) (learned (filter (is_of domain workflow) (placed b cell.arrived)))
placed-adds domain workflow b cell is back = by (is_of domain workflow b) refl
  where
    by : (t : Bool) → is_of domain workflow b ≡ t → IsPart (learned_of domain workflow cell) (learned (filter (is_of domain workflow) (placed b cell.arrived)))
    by true own =
        subst (λ (l : List Batch). IsPart (learned_of domain workflow cell) (learned l)) (sym (filter-own domain workflow b own cell.arrived is.ordered))
        (only_adds (arrived_of domain workflow cell) b (set_of_workflow domain workflow cell is) back)
    by false other =
        subst (λ (l : List Batch). IsPart (learned_of domain workflow cell) (learned l)) (sym (filter-placed (is_of domain workflow) b cell.arrived other))
        (λ x has. has)

placed-keeps : (b : Batch) (cell : Cell) → IsCell cell → PointsBack b → IsCell (record cell { arrived = placed b cell.arrived })
placed-keeps b cell is back = record { ordered = placed-in-order b cell.arrived is.ordered; back = all-placed PointsBack b cell.arrived back is.back }

second-adds : (domain workflow : Name) (second : Option Batch) (cell : Cell) → IsCell cell → IfSome second PointsBack
    → IsPart (learned_of domain workflow cell) (learned (filter (is_of domain workflow) (placed_second second cell.arrived)))
second-adds domain workflow None cell is back = λ x has. has
second-adds domain workflow (Some b) cell is back = placed-adds domain workflow b cell is back

second-keeps : (second : Option Batch) (cell : Cell) → IsCell cell → IfSome second PointsBack → IsCell (record cell { arrived = placed_second second cell.arrived })
second-keeps None cell is back = record { ordered = is.ordered; back = is.back }
second-keeps (Some b) cell is back = placed-keeps b cell is back

-- a batch, and the one that it carries, go to their places
module _ (b : Batch) (second : Option Batch) (cell : Cell) (is : IsCell cell) (back : PointsBack b) (second_back : IfSome second PointsBack) where
  first-placed : IsCell (record cell { arrived = placed b cell.arrived })
  first-placed = placed-keeps b cell is back

  pub both-keep : IsCell (record cell { arrived = placed_second second (placed b cell.arrived) })
  both-keep = second-keeps second (record cell { arrived = placed b cell.arrived }) first-placed second_back

  pub both-add : (domain workflow : Name) → IsPart (learned_of domain workflow cell) (learned (filter (is_of domain workflow) (placed_second second (placed b cell.arrived))))
  both-add domain workflow = λ x has.
      second-adds domain workflow second (record cell { arrived = placed b cell.arrived }) first-placed second_back x (placed-adds domain workflow b cell is back x has)

-- what is written arrives in the set of its workflow
pub written_arrives : (domain workflow : Name) (entry : Entry) (cell : Cell) → IsCell cell → PointsBack entry.batch → is_of domain workflow entry.batch ≡ true
    → IfSome entry.second (λ b. is_of domain workflow b ≡ true)
    → arrived_of domain workflow (with_written entry cell) ≡ arrived_second entry.second (arrived entry.batch (arrived_of domain workflow cell))
written_arrives domain workflow entry cell is back own second = by entry.second second
  where
    first : filter (is_of domain workflow) (placed entry.batch cell.arrived) ≡ arrived entry.batch (arrived_of domain workflow cell)
    first = filter-own domain workflow entry.batch own cell.arrived is.ordered

    by : (second : Option Batch) → IfSome second (λ b. is_of domain workflow b ≡ true)
        → filter (is_of domain workflow) (placed_second second (placed entry.batch cell.arrived)) ≡ arrived_second second (arrived entry.batch (arrived_of domain workflow cell))
    by None none = first
    by (Some b) mine = filter-own domain workflow b mine (placed entry.batch cell.arrived) (placed-in-order entry.batch cell.arrived is.ordered) ∙ ap (arrived b) first

pub writing_keeps : (entry : Entry) (cell : Cell) → IsCell cell → PointsBack entry.batch → IfSome entry.second PointsBack → IsCell (with_written entry cell)
writing_keeps entry cell is back second = let are = both-keep entry.batch entry.second cell is back second in record { ordered = are.ordered; back = are.back }

pub writing_only_adds : (domain workflow : Name) (entry : Entry) (cell : Cell) → IsCell cell → PointsBack entry.batch → IfSome entry.second PointsBack
    → IsPart (learned_of domain workflow cell) (learned_of domain workflow (with_written entry cell))
writing_only_adds domain workflow entry cell is back second = both-add entry.batch entry.second cell is back second domain workflow

-- arrival of a message only adds to what is learned, and keeps the cell in order
pub arrival_only_adds : (domain workflow : Name) (sent : Message) (cell : Cell) → IsCell cell → PointsBack sent.batch → IfSome sent.second PointsBack
    → IsPart (learned_of domain workflow cell) (learned_of domain workflow (arrived_at sent cell))
unfolding arrived_at
arrival_only_adds domain workflow sent cell is back second = by (has_arrived sent.batch cell)
  where
    by : (t : Bool) → IsPart (learned_of domain workflow cell) (learned_of domain workflow (if t then cell else cell_with sent cell))
    by true = λ x has. has
    by false = both-add sent.batch sent.second cell is back second domain workflow

pub arrival_keeps : (sent : Message) (cell : Cell) → IsCell cell → PointsBack sent.batch → IfSome sent.second PointsBack → IsCell (arrived_at sent cell)
unfolding arrived_at
arrival_keeps sent cell is back second = by (has_arrived sent.batch cell)
  where
    by : (t : Bool) → IsCell (if t then cell else cell_with sent cell)
    by true = is
    by false = let are = both-keep sent.batch sent.second cell is back second in record { ordered = are.ordered; back = are.back }
