-- What is found at places, in lists in order.
use Rattle.std.proofs.Common.{◌≡◌, Bool, true, false, ◌&&◌, cond, List, [], ◌∷◌, Option, Some, None, ◌⊎◌, inl, inr, refl, sym, ◌∙◌, subst, ap}
use Rattle.std.specs.List.{filter, fold}
use Rattle.std.specs.Prelude.{find}
use Rattle.std.specs.Option.{option_or}
use Rattle.std.specs.Str.{bytes_eq}
use Rattle.std.proofs.lemmas.Bool.{and_from, and_parts}
use Rattle.std.proofs.lemmas.Slice.Eq.{bytes_eq-Decides}
use Rattle.ndc_model_cells.specs.declared.place.Place.{Place}
use Rattle.ndc_model_cells.specs.Places.{AreBehind, AreInOrder, batch_there, is_at, is_of, place_lt, place_of, placed}
use Rattle.ndc_model_cells.proofs.PlaceLemmas.{PlaceIsBefore, WorkflowIsBefore, behind-trans, place-parts, placed-cases, placed-in-order}
use Rattle.ndc_domain.specs.Records.{names_cmp}
use Rattle.ndc_domain.proofs.Order.{names_same}
use Rattle.std.specs.declared.cmp.Ordering.TheVariants.{Less, Equal}
use Rattle.ndc_event.specs.declared.key.BatchKey.{BatchKey}
use Rattle.ndc_event.specs.declared.name.Name.{Name}
use Rattle.ndc_model_sets.specs.Sets.{batch_at}
use Rattle.ndc_event.specs.Key.{key_eq}
use Rattle.ndc_event.specs.declared.batch.Batch.{Batch}
use Rattle.ndc_model_sets.proofs.KeyLemmas.{before-irrefl, key_eq-self, same-keys}
use Rattle.ndc_model_sets.proofs.Lists.{Among, all-among, find-among}

-- a batch is at its place
pub is_at-own : (b : Batch) → is_at (place_of b) b ≡ true
is_at-own b =
    and_from _ _ (and_from _ _ ((bytes_eq-Decides b.domain b.domain).1 refl) ((bytes_eq-Decides b.workflow b.workflow).1 refl)) (key_eq-self b.key)

-- the place that is a batch's
pub at-place : (place : Place) (b : Batch) → is_at place b ≡ true → place ≡ place_of b
at-place place b at =
    let p = and_parts (is_of place.domain place.workflow b) (key_eq b.key place.key) at in
    let q = and_parts (bytes_eq b.domain place.domain) (bytes_eq b.workflow place.workflow) p.0 in
    let d : b.domain ≡ place.domain = (bytes_eq-Decides b.domain place.domain).0 q.0 in
    let v : b.workflow ≡ place.workflow = (bytes_eq-Decides b.workflow place.workflow).0 q.1 in
    let k : b.key ≡ place.key = same-keys b.key place.key p.1 in
    λ i. record { domain = sym d i; workflow = sym v i; key = sym k i }

-- what is found passes
pub find-passes : {X : Type 0} (p : X → Bool) (xs : List X) (x : X) → find p xs ≡ Some x → p x ≡ true
find-passes p [] x e = absurd (cc)
find-passes {X = X} p (y ∷ ys) x e = by (p y) refl e (find-passes p ys x)
  where
    by : (t : Bool) → p y ≡ t → cond t (Some y) (find p ys) ≡ Some x → (find p ys ≡ Some x → p x ≡ true) → p x ≡ true
    by true passes e rest = let same : y ≡ x = cc in subst (λ (z : X). p z ≡ true) same passes
    by false fails e rest = rest e

pub there-place : (bs : List Batch) (place : Place) (b : Batch) → batch_there bs place ≡ Some b → place ≡ place_of b
there-place bs place b e = at-place place b (find-passes (is_at place) bs b e)

pub there-among : (bs : List Batch) (place : Place) (b : Batch) → batch_there bs place ≡ Some b → Among b bs
there-among bs place b e = find-among (is_at place) bs b e

-- no place comes before itself
pub place-irrefl : (place : Place) → place_lt place place ≡ true → ⊥
place-irrefl place l = by (place-parts place place l)
  where
    not-less : (name : Name) → names_cmp name name ≡ Less → ⊥
    not-less name e = absurd (let same : Equal ≡ Less = sym (names_same name) ∙ e in cc)

    workflow : WorkflowIsBefore place place → ⊥
    workflow (inl e) = not-less place.workflow e
    workflow (inr (w, k)) = before-irrefl place.key k

    by : PlaceIsBefore place place → ⊥
    by (inl e) = not-less place.domain e
    by (inr (d, w)) = workflow w

-- a batch is not at a place that comes after its own
at-not : (place : Place) (b : Batch) → place_lt (place_of b) place ≡ true → is_at place b ≡ false
at-not place b l = by (is_at place b) refl
  where
    by : (t : Bool) → is_at place b ≡ t → t ≡ false
    by true at = absurd (place-irrefl place (subst (λ (q : Place). place_lt q place ≡ true) (sym (at-place place b at)) l))
    by false at = refl

-- nor at one that comes before
at-none : (place : Place) (b : Batch) → place_lt place (place_of b) ≡ true → is_at place b ≡ false
at-none place b l = by (is_at place b) refl
  where
    by : (t : Bool) → is_at place b ≡ t → t ≡ false
    by true at = absurd (place-irrefl place (subst (λ (q : Place). place_lt place q ≡ true) (sym (at-place place b at)) l))
    by false at = refl

pub none-behind : (low : Place) (bs : List Batch) → AreBehind low bs → batch_there bs low ≡ None
none-behind low [] all = refl
none-behind low (b ∷ bs) all = ap (λ t. cond t (Some b) (batch_there bs low)) (at-none low b all.0) ∙ none-behind low bs all.1

pub or-none : {X : Type 0} (o : Option X) → option_or o None ≡ o
or-none None = refl
or-none (Some x) = refl

-- what is found after a putting: what was there, or else the new batch
pub placed-there : (new : Batch) (bs : List Batch) (q : Place) → AreInOrder bs → batch_there (placed new bs) q ≡ option_or (batch_there bs q) (batch_there (new ∷ []) q)
placed-there new [] q order = refl
placed-there new (b ∷ bs) q order =
    placed-cases (λ l. batch_there l q ≡ option_or (batch_there (b ∷ bs) q) (batch_there (new ∷ []) q)) new b bs
    (λ l. first l (is_at q new) refl)
    (λ l s. known s (is_at q new) refl)
    (λ l s. later (is_at q b) (placed-there new bs q order.1))
  where
    first : place_lt (place_of new) (place_of b) ≡ true → (t : Bool) → is_at q new ≡ t → cond t (Some new) (batch_there (b ∷ bs) q) ≡ option_or (batch_there (b ∷ bs) q) (cond t (Some new) None)
    first l true at =
        let none : batch_there (b ∷ bs) q ≡ None = subst (λ (p : Place). batch_there (b ∷ bs) p ≡ None) (sym (at-place q new at))
        (none-behind (place_of new) (b ∷ bs) (l, behind-trans (place_of new) (place_of b) bs l order.0)) in
        sym (ap (λ o. option_or o (Some new)) none)
    first l false at = sym (or-none (batch_there (b ∷ bs) q))

    known : is_at (place_of new) b ≡ true → (t : Bool) → is_at q new ≡ t → batch_there (b ∷ bs) q ≡ option_or (batch_there (b ∷ bs) q) (cond t (Some new) None)
    known s true at =
        let here : is_at q b ≡ true = subst (λ (p : Place). is_at p b ≡ true) (sym (at-place q new at)) s in
        let found : batch_there (b ∷ bs) q ≡ Some b = ap (λ u. cond u (Some b) (batch_there bs q)) here in
        found ∙ sym (ap (λ o. option_or o (Some new)) found)
    known s false at = sym (or-none (batch_there (b ∷ bs) q))

    later : (t : Bool) → batch_there (placed new bs) q ≡ option_or (batch_there bs q) (batch_there (new ∷ []) q)
        → cond t (Some b) (batch_there (placed new bs) q) ≡ option_or (cond t (Some b) (batch_there bs q)) (batch_there (new ∷ []) q)
    later true rest = refl
    later false rest = rest

-- what was found is found still
pub placed-stays : (new : Batch) (bs : List Batch) (q : Place) (b : Batch) → AreInOrder bs → batch_there bs q ≡ Some b → batch_there (placed new bs) q ≡ Some b
placed-stays new bs q b order e = placed-there new bs q order ∙ ap (λ o. option_or o (batch_there (new ∷ []) q)) e

-- where nothing was, the new batch is found
pub placed-new : (new : Batch) (bs : List Batch) → AreInOrder bs → batch_there bs (place_of new) ≡ None → batch_there (placed new bs) (place_of new) ≡ Some new
placed-new new bs order e =
    placed-there new bs (place_of new) order ∙ ap (λ o. option_or o (batch_there (new ∷ []) (place_of new))) e ∙ ap (λ t. cond t (Some new) None) (is_at-own new)

-- what is found is the new batch, or was there
pub placed-either : (new : Batch) (bs : List Batch) (q : Place) (b : Batch) → AreInOrder bs → batch_there (placed new bs) q ≡ Some b → (b ≡ new) ⊎ (batch_there bs q ≡ Some b)
placed-either new bs q b order e = by (batch_there bs q) (is_at q new) (sym (placed-there new bs q order) ∙ e)
  where
    by : (o : Option Batch) (t : Bool) → option_or o (cond t (Some new) None) ≡ Some b → (b ≡ new) ⊎ (o ≡ Some b)
    by (Some x) t e = inr e
    by None true e = let same : new ≡ b = cc in inl (sym same)
    by None false e = absurd (cc)

-- in order, each is found at its place
pub order-finds : (bs : List Batch) (b : Batch) → AreInOrder bs → Among b bs → batch_there bs (place_of b) ≡ Some b
order-finds [] b order none = absurd none
order-finds (x ∷ xs) b order (inl same) = subst (λ (y : Batch). batch_there (x ∷ xs) (place_of y) ≡ Some y) (sym same) (ap (λ t. cond t (Some x) (batch_there xs (place_of x))) (is_at-own x))
order-finds (x ∷ xs) b order (inr among) =
    ap (λ t. cond t (Some x) (batch_there xs (place_of b))) (at-not (place_of b) x (all-among (λ y. place_lt (place_of x) (place_of y) ≡ true) xs b order.0 among))
    ∙ order-finds xs b order.1 among

pub in_order-ordered : (bs front : List Batch) → AreInOrder front → AreInOrder (fold (λ ordered b. placed b ordered) front bs)
in_order-ordered [] front order = order
in_order-ordered (b ∷ bs) front order = in_order-ordered bs (placed b front) (placed-in-order b front order)

-- looking up in a filtered list
pub find-filter : (p q : Batch → Bool) (bs : List Batch) → find p (filter q bs) ≡ find (λ b. q b && p b) bs
find-filter p q [] = refl
find-filter p q (b ∷ bs) = by (q b) (find-filter p q bs)
  where
    by : (t : Bool) → find p (filter q bs) ≡ find (λ x. q x && p x) bs
        → find p (cond t (b ∷ filter q bs) (filter q bs)) ≡ cond (t && p b) (Some b) (find (λ x. q x && p x) bs)
    by true rest = ap (λ o. cond (p b) (Some b) o) rest
    by false rest = rest

-- a batch of a workflow among all is that of its place
pub at-there : (domain workflow : Name) (key : BatchKey) (all : List Batch) → batch_at key (filter (is_of domain workflow) all) ≡ batch_there all (record { domain = domain; workflow = workflow; key = key })
at-there domain workflow key all = find-filter (λ b. key_eq b.key key) (is_of domain workflow) all
