-- Events by their ids: what is found among those of a batch, of the batches of one version, and of all.
use Rattle.std.proofs.Common.{◌≡◌, ℕ, zero, suc, ◌+◌, ◌-◌, ◌<◌, ◌≤◌, Bool, true, false, nat_lt, ◌&&◌, ◌==◌, cond, List, [], ◌∷◌, ◌++◌, ◌⊎◌, inl, inr, get_or, Option, Some, None, slice_get, Result, IfOk, IfErr, length, refl, sym, ◌∙◌, subst, ap, arith, if◌then◌else◌, Bor}
use Rattle.std.specs.Prelude.{IfSome, find, is_some}
use Rattle.std.specs.Option.{option_copied, option_or}
use Rattle.std.specs.List.{AllByRecursion}
use Rattle.std.specs.List.Sorted.{IsSearchInRange, IsBinarySearchResult}
use Rattle.std.specs.Ordering.{ordering_index}
use Rattle.std.specs.declared.cmp.Ordering.TheVariants.{Less, Equal, Greater}
use Rattle.std.proofs.lemmas.Bool.{and_parts, eqb-true, eq-eqb, ltb-true, ltb-false}
use Rattle.std.proofs.lemmas.Bool.Decides.{nat_tests}
use Rattle.ndc_event.specs.Batch.{follow_from, are_consecutive, are_of_version, fault_of}
use Rattle.ndc_event.specs.Sorted.{InOrder, Hits, Parts}
use Rattle.ndc_event.specs.declared.batch.Batch.{Batch}
use Rattle.ndc_event.specs.declared.batch.Event.{Event}
use Rattle.ndc_event.proofs.SortedLemmas.{searched}
use Rattle.ndc_state.specs.Replay.{history_of}
use Rattle.ndc_model_sets.specs.Paths.{first_id, last_id}
use Rattle.ndc_model_sets.proofs.FaultLemmas.{passes}
use Rattle.ndc_model_sets.proofs.PathIds.{ends, ends-last, history-append}
use Rattle.ndc_tree.specs.Events.{is_event, event_at, event_of, against_id, IdsGoOn}

-- what is found in two lists is what is found in the first, or else in the second
pub find-join : {X : Type 0} (p : X → Bool) (xs ys : List X) → find p (xs ++ ys) ≡ option_or (find p xs) (find p ys)
find-join p [] ys = refl
find-join {X = X} p (x ∷ xs) ys = by (p x) (find-join p xs ys)
  where
    by : (t : Bool) → find p (xs ++ ys) ≡ option_or (find p xs) (find p ys) → cond t (Some x) (find p (xs ++ ys)) ≡ option_or (cond t (Some x) (find p xs)) (find p ys)
    by true rest = refl
    by false rest = rest

unlike : (m n : ℕ) → (m < n) ⊎ (n < m) → (m == n) ≡ false
unlike m n (inl l) = grind (arith, nat_tests)
unlike m n (inr l) = grind (arith, nat_tests)

-- what is looked up at a place of a slice
slice-none : (es : List Event) (place : ℕ) → length es ≤ place → slice_get es place ≡ None
slice-none [] place l = refl
slice-none (e ∷ es) zero l = absurd (omega (arith, l))
slice-none (e ∷ es) (suc place) l = slice-none es place (omega (arith, l))

slice-some : (es : List Event) (place : ℕ) (d : Event) → place < length es → slice_get es place ≡ Some (get_or es place d)
slice-some [] place d l = absurd (omega (arith, l))
slice-some (e ∷ es) zero d l = refl
slice-some (e ∷ es) (suc place) d l = slice-some es place d (omega (arith, l))

pub looked-up : (es : List Event) (place : ℕ) (r : Option (Bor Event)) → is_some r ≡ nat_lt place (length es) → IfSome r (λ x. x.now ≡ get_or es place x.now) → option_copied r ≡ slice_get es place
looked-up es place None some at = sym (slice-none es place (ltb-false place (length es) (sym some)))
looked-up es place (Some x) some at = ap Some at ∙ sym (slice-some es place x.now (ltb-true place (length es) (sym some)))

-- events that follow a number
pub follows-up : (n : ℕ) (es : List Event) → follow_from n es ≡ true → n ≤ ends n es
follows-up n [] f = omega arith
follows-up n (e ∷ es) f =
    let p = and_parts (e.id == n + 1) (follow_from e.id es) f in
    let own = eqb-true e.id (n + 1) p.0 in
    let m = follows-up e.id es p.1 in omega (arith, own, m)

-- the events of a batch without a fault are consecutive
pub consecutive : (b : Batch) → fault_of b ≡ None → are_consecutive b.events ≡ true
consecutive b ok = let p = passes b ok in subst (λ (l : List Event). are_consecutive l ≡ true) (sym p.are) p.consecutive

module _ (id : ℕ) where
  pub skip : (e : Event) (es : List Event) → (e.id < id) ⊎ (id < e.id) → event_of id (e ∷ es) ≡ event_of id es
  skip e es other = ap (λ t. cond t (Some e) (event_of id es)) (unlike e.id id other)

  pub hit : (e : Event) (es : List Event) → e.id ≡ id → event_of id (e ∷ es) ≡ Some e
  hit e es same = ap (λ t. cond t (Some e) (event_of id es)) (eq-eqb e.id id same)

  find-low : (n : ℕ) (es : List Event) → follow_from n es ≡ true → id ≤ n → event_of id es ≡ None
  find-low n [] f l = refl
  find-low n (e ∷ es) f l =
      let p = and_parts (e.id == n + 1) (follow_from e.id es) f in
      let own = eqb-true e.id (n + 1) p.0 in
      skip e es (inr (omega (arith, l, own))) ∙ find-low e.id es p.1 (omega (arith, l, own))

  find-high : (n : ℕ) (es : List Event) → follow_from n es ≡ true → ends n es < id → event_of id es ≡ None
  find-high n [] f l = refl
  find-high n (e ∷ es) f l =
      let p = and_parts (e.id == n + 1) (follow_from e.id es) f in
      skip e es (inl (omega (arith, follows-up e.id es p.1, l))) ∙ find-high e.id es p.1 l

  -- an event stands at the place that its id tells
  find-at : (n place : ℕ) (es : List Event) → follow_from n es ≡ true → id ≡ n + 1 + place → event_of id es ≡ slice_get es place
  find-at n place [] f at = refl
  find-at n zero (e ∷ es) f at =
      let p = and_parts (e.id == n + 1) (follow_from e.id es) f in
      let own = eqb-true e.id (n + 1) p.0 in
      hit e es (omega (arith, own, at))
  find-at n (suc place) (e ∷ es) f at =
      let p = and_parts (e.id == n + 1) (follow_from e.id es) f in
      let own = eqb-true e.id (n + 1) p.0 in
      skip e es (inl (omega (arith, own, at))) ∙ find-at e.id place es p.1 (omega (arith, own, at))

  -- and each id up to the last is that of one
  find-in : (n : ℕ) (es : List Event) → follow_from n es ≡ true → n < id → id ≤ ends n es → (e : Event) × (event_of id es ≡ Some e)
  find-in n [] f l m = absurd (omega (arith, l, m))
  find-in n (e ∷ es) f l m =
      let p = and_parts (e.id == n + 1) (follow_from e.id es) f in
      by (e.id == id) refl p.0 (λ k. find-in e.id es p.1 k m)
    where
      above : (i : ℕ) → (i == n + 1) ≡ true → (i == id) ≡ false → i < id
      above i own h = grind (arith, nat_tests)

      by : (t : Bool) → (e.id == id) ≡ t → (e.id == n + 1) ≡ true → (e.id < id → (x : Event) × (event_of id es ≡ Some x)) → (x : Event) × (event_of id (e ∷ es) ≡ Some x)
      by true h own rest = (e, hit e es (eqb-true e.id id h))
      by false h own rest =
          let l = above e.id own h in
          let r = rest l in
          (r.0, skip e es (inl l) ∙ r.1)

  -- the event of an id among consecutive ones
  pub none-below : (es : List Event) → are_consecutive es ≡ true → id < first_id es → event_of id es ≡ None
  none-below [] c l = refl
  none-below (e ∷ es) c l = skip e es (inr l) ∙ find-low e.id es c (omega (arith, l))

  pub none-above : (es : List Event) → are_consecutive es ≡ true → last_id es < id → event_of id es ≡ None
  none-above [] c l = refl
  none-above (e ∷ es) c l =
      let end : ends e.id es < id = subst (λ n. n < id) (sym (ends-last 0 e es)) l in
      skip e es (inl (omega (arith, follows-up e.id es c, end))) ∙ find-high e.id es c end

  pub there-at : (es : List Event) → are_consecutive es ≡ true → first_id es ≤ id → event_of id es ≡ slice_get es (id - first_id es)
  there-at [] c l = refl
  there-at (e ∷ es) c l = by (id - e.id) refl
    where
      by : (place : ℕ) → id - e.id ≡ place → event_of id (e ∷ es) ≡ slice_get (e ∷ es) place
      by zero at = hit e es (omega (arith, l, at))
      by (suc place) at = skip e es (inl (omega (arith, at))) ∙ find-at e.id place es c (omega (arith, at, l))

  -- the ids of a batch without a fault
  below-none : (b : Batch) → fault_of b ≡ None → against_id id b ≡ Less → event_of id b.events ≡ None
  below-none b ok less = none-above b.events (consecutive b ok) (by (nat_lt (last_id b.events) id) refl (nat_lt id (first_id b.events)) less)
    where
      by : (t : Bool) → nat_lt (last_id b.events) id ≡ t → (s : Bool) → (if t then Less else if s then Greater else Equal) ≡ Less → last_id b.events < id
      by true e s h = ltb-true (last_id b.events) id e
      by false e true h = absurd (cc)
      by false e false h = absurd (cc)

  behind-none : (b : Batch) → fault_of b ≡ None → against_id id b ≡ Greater → event_of id b.events ≡ None
  behind-none b ok greater = none-below b.events (consecutive b ok) (by (nat_lt (last_id b.events) id) (nat_lt id (first_id b.events)) refl greater)
    where
      by : (t s : Bool) → nat_lt id (first_id b.events) ≡ s → (if t then Less else if s then Greater else Equal) ≡ Greater → id < first_id b.events
      by true s e h = absurd (cc)
      by false true e h = ltb-true id (first_id b.events) e
      by false false e h = absurd (cc)

  -- a batch with the id among its own has its event
  pub within-of : (b : Batch) → against_id id b ≡ Equal → (first_id b.events ≤ id) × (id ≤ last_id b.events)
  within-of b equal = by (nat_lt (last_id b.events) id) refl (nat_lt id (first_id b.events)) refl equal
    where
      by : (t : Bool) → nat_lt (last_id b.events) id ≡ t → (s : Bool) → nat_lt id (first_id b.events) ≡ s → (if t then Less else if s then Greater else Equal) ≡ Equal
          → (first_id b.events ≤ id) × (id ≤ last_id b.events)
      by true e s f h = absurd (cc)
      by false e true f h = absurd (cc)
      by false e false f h = (ltb-false id (first_id b.events) f, ltb-false (last_id b.events) id e)

  within-some : (b : Batch) → fault_of b ≡ None → against_id id b ≡ Equal → (e : Event) × (event_of id b.events ≡ Some e)
  within-some b ok equal =
      let p = passes b ok in
      let w = within-of b equal in
      let low : p.event.id ≤ id = subst (λ n. n ≤ id) (ap first_id p.are) w.0 in
      let high : id ≤ ends p.event.id p.events = subst (λ n. id ≤ n) (ap last_id p.are ∙ sym (ends-last 0 p.event p.events)) w.1 in
      let r = one p.event p.events p.consecutive low high in
      (r.0, ap (event_of id) p.are ∙ r.1)
    where
      one : (e : Event) (es : List Event) → follow_from e.id es ≡ true → e.id ≤ id → id ≤ ends e.id es → (x : Event) × (event_of id (e ∷ es) ≡ Some x)
      one e es f low high = by (e.id == id) refl
        where
          above : (i : ℕ) → i ≤ id → (i == id) ≡ false → i < id
          above i l h = grind (arith, nat_tests)

          by : (t : Bool) → (e.id == id) ≡ t → (x : Event) × (event_of id (e ∷ es) ≡ Some x)
          by true h = (e, hit e es (eqb-true e.id id h))
          by false h =
              let l = above e.id low h in
              let r = find-in e.id es f l high in (r.0, skip e es (inl l) ∙ r.1)

  rises-by : (a l c m : ℕ) → l < c → c ≤ m → ordering_index (if nat_lt l id then Less else if nat_lt id a then Greater else Equal) ≤ ordering_index (if nat_lt m id then Less else if nat_lt id c then Greater else Equal)
  rises-by a l c m behind rise = grind (arith, nat_tests)

  less-by : (a l c m : ℕ) → l < c → (if nat_lt m id then Less else if nat_lt id c then Greater else Equal) ≡ Equal → (if nat_lt l id then Less else if nat_lt id a then Greater else Equal) ≡ Less
  less-by a l c m behind equal = grind (arith, nat_tests)

  -- a search by id among batches in the order of their ids ends at the one that has it, or where it would be
  pub id-place : (batches : List Batch) → InOrder IdsGoOn batches → (r : Result ℕ ℕ) → IsSearchInRange r (length batches) → IsBinarySearchResult (against_id id) batches r
      → record { found : IfOk r (Hits (against_id id) batches); absent : IfErr r (Parts (against_id id) batches) }
  id-place batches order r within ends =
      searched IdsGoOn (against_id id)
      (λ one two g. rises-by (first_id one.events) (last_id one.events) (first_id two.events) (last_id two.events) g.behind g.rise)
      (λ one two g e. less-by (first_id one.events) (last_id one.events) (first_id two.events) (last_id two.events) g.behind e)
      batches order r within ends

  -- what is found of an id among the events of these batches is found in the batch that has it
  pub hit-event : (batches : List Batch) (place : ℕ) (b : Batch) → AllByRecursion (λ x. fault_of x ≡ None) batches → Hits (against_id id) batches place → b ≡ get_or batches place b
      → event_of id (history_of batches) ≡ event_of id b.events
  hit-event [] place b ok h at = absurd h
  hit-event (x ∷ batches) zero b ok h at =
      let r = within-some x ok.0 h in
      find-join (λ e. e.id == id) x.events (history_of batches) ∙ ap (λ o. option_or o (event_of id (history_of batches))) r.1 ∙ sym r.1 ∙ ap (λ (y : Batch). event_of id y.events) (sym at)
  hit-event (x ∷ batches) (suc place) b ok h at =
      find-join (λ e. e.id == id) x.events (history_of batches) ∙ ap (λ o. option_or o (event_of id (history_of batches))) (below-none x ok.0 h.0)
      ∙ hit-event batches place b ok.1 h.1 at

  pub hit-within : (batches : List Batch) (place : ℕ) (b : Batch) → Hits (against_id id) batches place → b ≡ get_or batches place b → first_id b.events ≤ id
  hit-within [] place b h at = absurd h
  hit-within (x ∷ batches) zero b h at = subst (λ (y : Batch). first_id y.events ≤ id) (sym at) (within-of x h).0
  hit-within (x ∷ batches) (suc place) b h at = hit-within batches place b h.1 at

  pub part-event : (batches : List Batch) (place : ℕ) → AllByRecursion (λ x. fault_of x ≡ None) batches → Parts (against_id id) batches place → event_of id (history_of batches) ≡ None
  part-event [] zero ok h = refl
  part-event [] (suc place) ok h = absurd h
  part-event (x ∷ batches) zero ok h =
      find-join (λ e. e.id == id) x.events (history_of batches) ∙ ap (λ o. option_or o (event_of id (history_of batches))) (behind-none x ok.0 h.0) ∙ part-event batches zero ok.1 h.1
  part-event (x ∷ batches) (suc place) ok h =
      find-join (λ e. e.id == id) x.events (history_of batches) ∙ ap (λ o. option_or o (event_of id (history_of batches))) (below-none x ok.0 h.0) ∙ part-event batches place ok.1 h.1

-- events of one version, which is that of the one that is sought or another one
module _ (version id : ℕ) where
  pub own-version : (v : ℕ) (es : List Event) → are_of_version v es ≡ true → v ≡ version → find (is_event version id) es ≡ event_of id es
  own-version v [] all same = refl
  own-version v (e ∷ es) all same =
      let p = and_parts (e.version == v) (are_of_version v es) all in
      ap (λ t. cond (t && (e.id == id)) (Some e) (find (is_event version id) es)) (eq-eqb e.version version (eqb-true e.version v p.0 ∙ same))
      ∙ ap (λ o. cond (e.id == id) (Some e) o) (own-version v es p.1 same)

  pub other-version : (v : ℕ) (es : List Event) → are_of_version v es ≡ true → (v < version) ⊎ (version < v) → find (is_event version id) es ≡ None
  other-version v [] all other = refl
  other-version v (e ∷ es) all other =
      let p = and_parts (e.version == v) (are_of_version v es) all in
      let own = eqb-true e.version v p.0 in
      ap (λ t. cond (t && (e.id == id)) (Some e) (find (is_event version id) es)) (ap (λ n. n == version) own ∙ unlike v version other) ∙ other-version v es p.1 other

  -- the batches of a version
  pub own-batches : (v : ℕ) (batches : List Batch) → AllByRecursion (λ b. fault_of b ≡ None) batches → AllByRecursion (λ b. b.key.version ≡ v) batches → v ≡ version
      → event_at version id batches ≡ event_of id (history_of batches)
  own-batches v [] ok own same = refl
  own-batches v (b ∷ batches) ok own same =
      find-join (is_event version id) b.events (history_of batches)
      ∙ ap (λ o. option_or o (event_at version id batches)) (own-version b.key.version b.events (passes b ok.0).versions (own.0 ∙ same))
      ∙ ap (option_or (event_of id b.events)) (own-batches v batches ok.1 own.1 same)
      ∙ sym (find-join (λ e. e.id == id) b.events (history_of batches))

  pub other-batches : (v : ℕ) (batches : List Batch) → AllByRecursion (λ b. fault_of b ≡ None) batches → AllByRecursion (λ b. b.key.version ≡ v) batches → (v < version) ⊎ (version < v)
      → event_at version id batches ≡ None
  other-batches v [] ok own other = refl
  other-batches v (b ∷ batches) ok own other =
      find-join (is_event version id) b.events (history_of batches)
      ∙ ap (λ o. option_or o (event_at version id batches)) (other-version b.key.version b.events (passes b ok.0).versions (by own.0 other))
      ∙ other-batches v batches ok.1 own.1 other
    where
      by : b.key.version ≡ v → (v < version) ⊎ (version < v) → (b.key.version < version) ⊎ (version < b.key.version)
      by e (inl l) = inl (omega (arith, e, l))
      by e (inr l) = inr (omega (arith, e, l))

  pub event-join : (front back : List Batch) → event_at version id (front ++ back) ≡ option_or (event_at version id front) (event_at version id back)
  event-join front back = ap (find (is_event version id)) (history-append front back) ∙ find-join (is_event version id) (history_of front) (history_of back)
