-- A batch, and the one that it carries, among batches in order.
use Rattle.std.proofs.Common.{◌≡◌, Bool, true, false, cond, List, [], ◌∷◌, ◌++◌, ◌⊎◌, inl, inr, Option, Some, None, refl, sym, ◌∙◌, subst, ap, IfSome, option_to_list}
use Rattle.std.specs.List.{AllByRecursion, filter}
use Rattle.std.specs.Option.{option_or}
use Rattle.std.specs.Prelude.{find}
use Rattle.ndc_model_cells.specs.declared.place.Place.{Place}
use Rattle.ndc_model_cells.specs.Arrival.{placed_second}
use Rattle.ndc_model_cells.specs.Laws.{arrived_second}
use Rattle.ndc_model_cells.specs.Places.{AreInOrder, batch_there, is_at, is_of, place_of, placed}
use Rattle.ndc_model_cells.specs.Writing.{Entry}
use Rattle.ndc_model_cells.proofs.PlaceLemmas.{all-placed, filter-own, placed-in-order}
use Rattle.ndc_event.specs.declared.batch.Batch.{Batch}
use Rattle.ndc_event.specs.declared.name.Name.{Name}
use Rattle.ndc_model_sets.specs.Sets.{arrived}
use Rattle.ndc_model_sets.proofs.Lists.{Among}
use Rattle.ndc_laws_cells.proofs.FoundLemmas.{placed-new, placed-stays, placed-there, there-among, there-place}
use Rattle.ndc_laws_cells.proofs.OrderLemmas.{find-placed, or-assoc, there-append}

-- an entry of these batches
abbrev pub entry_with : Batch → Option Batch → Entry
entry_with b second = record { batch = b; second = second }

-- its batches
abbrev pub news : Batch → Option Batch → List Batch
news b second = b ∷ option_to_list second

-- batches with them
abbrev pub more : Batch → Option Batch → List Batch → List Batch
more b second bs = placed_second second (placed b bs)

-- a set with them
abbrev pub joined : Batch → Option Batch → List Batch → List Batch
joined b second bs = arrived_second second (arrived b bs)

-- their places are new
pub record AreNew (bs : List Batch) (b : Batch) (second : Option Batch) : Type 0 where
  pub first : batch_there bs (place_of b) ≡ None
  pub second_new : IfSome second (λ s. batch_there (placed b bs) (place_of s) ≡ None)

pub more-order : (b : Batch) (second : Option Batch) (bs : List Batch) → AreInOrder bs → AreInOrder (more b second bs)
more-order b None bs order = placed-in-order b bs order
more-order b (Some s) bs order = placed-in-order s (placed b bs) (placed-in-order b bs order)

pub more-all : (P : Batch → Type 0) (b : Batch) (second : Option Batch) (bs : List Batch) → P b → IfSome second P → AllByRecursion P bs → AllByRecursion P (more b second bs)
more-all P b None bs p q all = all-placed P b bs p all
more-all P b (Some s) bs p q all = all-placed P s (placed b bs) q (all-placed P b bs p all)

-- what is found after it: what was there, or else one of them
pub more-there : (b : Batch) (second : Option Batch) (bs : List Batch) (q : Place) → AreInOrder bs → batch_there (more b second bs) q ≡ option_or (batch_there bs q) (batch_there (news b second) q)
more-there b None bs q order = placed-there b bs q order
more-there b (Some s) bs q order =
    placed-there s (placed b bs) q (placed-in-order b bs order)
    ∙ ap (λ o. option_or o (batch_there (s ∷ []) q)) (placed-there b bs q order)
    ∙ or-assoc (batch_there bs q) (batch_there (b ∷ []) q) (batch_there (s ∷ []) q)
    ∙ ap (option_or (batch_there bs q)) (one (is_at q b))
  where
    one : (t : Bool) → option_or (cond t (Some b) None) (batch_there (s ∷ []) q) ≡ cond t (Some b) (batch_there (s ∷ []) q)
    one true = refl
    one false = refl

pub more-stays : (b : Batch) (second : Option Batch) (bs : List Batch) (q : Place) (x : Batch) → AreInOrder bs → batch_there bs q ≡ Some x → batch_there (more b second bs) q ≡ Some x
more-stays b second bs q x order e = more-there b second bs q order ∙ ap (λ o. option_or o (batch_there (news b second) q)) e

-- what is found is one of them, or was there
pub more-either : (b : Batch) (second : Option Batch) (bs : List Batch) (q : Place) (x : Batch) → AreInOrder bs → batch_there (more b second bs) q ≡ Some x → Among x (news b second) ⊎ (batch_there bs q ≡ Some x)
more-either b second bs q x order e = by (batch_there bs q) refl (sym (more-there b second bs q order) ∙ e)
  where
    by : (o : Option Batch) → batch_there bs q ≡ o → option_or o (batch_there (news b second) q) ≡ Some x → Among x (news b second) ⊎ (o ≡ Some x)
    by (Some y) at h = inr h
    by None at h = inl (there-among (news b second) q x h)

-- at a place that was none's and is none of theirs nothing is found
pub more-apart : (b : Batch) (second : Option Batch) (bs : List Batch) (q : Place) → AreInOrder bs → ((x : Batch) → Among x (news b second) → q ≡ place_of x → ⊥) → batch_there (more b second bs) q ≡ batch_there bs q
more-apart b second bs q order apart = more-there b second bs q order ∙ by (batch_there (news b second) q) refl
  where
    none : (o : Option Batch) → option_or o None ≡ o
    none None = refl
    none (Some x) = refl

    by : (o : Option Batch) → batch_there (news b second) q ≡ o → option_or (batch_there bs q) o ≡ batch_there bs q
    by None e = none (batch_there bs q)
    by (Some x) e = absurd (apart x (there-among (news b second) q x e) (there-place (news b second) q x e))

-- an option that is none, where it stands first
first-none : {X : Type 0} (o p : Option X) → option_or o p ≡ None → o ≡ None
first-none None p e = refl
first-none (Some x) p e = absurd (cc)

-- neither was there
pub new-none : (b : Batch) (second : Option Batch) (bs : List Batch) (x : Batch) → AreInOrder bs → AreNew bs b second → Among x (news b second) → batch_there bs (place_of x) ≡ None
new-none b second bs x order are (inl same) = subst (λ (y : Batch). batch_there bs (place_of y) ≡ None) (sym same) are.first
new-none b None bs x order are (inr h) = absurd h
new-none b (Some s) bs x order are (inr (inl same)) =
    subst (λ (y : Batch). batch_there bs (place_of y) ≡ None) (sym same)
    (first-none (batch_there bs (place_of s)) (batch_there (b ∷ []) (place_of s)) (sym (placed-there b bs (place_of s) order) ∙ are.second_new))
new-none b (Some s) bs x order are (inr (inr h)) = absurd h

-- each is found at its place
pub more-new : (b : Batch) (second : Option Batch) (bs : List Batch) (x : Batch) → AreInOrder bs → AreNew bs b second → Among x (news b second) → batch_there (more b second bs) (place_of x) ≡ Some x
more-new b None bs x order are (inl same) = subst (λ (y : Batch). batch_there (placed b bs) (place_of y) ≡ Some y) (sym same) (placed-new b bs order are.first)
more-new b None bs x order are (inr h) = absurd h
more-new b (Some s) bs x order are (inl same) =
    subst (λ (y : Batch). batch_there (placed s (placed b bs)) (place_of y) ≡ Some y) (sym same)
    (placed-stays s (placed b bs) (place_of b) b (placed-in-order b bs order) (placed-new b bs order are.first))
more-new b (Some s) bs x order are (inr (inl same)) =
    subst (λ (y : Batch). batch_there (placed s (placed b bs)) (place_of y) ≡ Some y) (sym same) (placed-new s (placed b bs) (placed-in-order b bs order) are.second_new)
more-new b (Some s) bs x order are (inr (inr h)) = absurd h

-- they are at different places
pub second-apart : (b s : Batch) (bs : List Batch) → AreInOrder bs → AreNew bs b (Some s) → place_of b ≡ place_of s → ⊥
second-apart b s bs order are same =
    let found : batch_there (placed b bs) (place_of b) ≡ Some b = placed-new b bs order are.first in
    let none : batch_there (placed b bs) (place_of b) ≡ None = subst (λ (p : Place). batch_there (placed b bs) p ≡ None) (sym same) are.second_new in
    let both : Some b ≡ None = sym found ∙ none in
    absurd (cc)

-- those of their workflow
pub more-own : (domain workflow : Name) (b : Batch) (second : Option Batch) (bs : List Batch) → AreInOrder bs → is_of domain workflow b ≡ true → IfSome second (λ s. is_of domain workflow s ≡ true)
    → filter (is_of domain workflow) (more b second bs) ≡ joined b second (filter (is_of domain workflow) bs)
more-own domain workflow b None bs order own mine = filter-own domain workflow b own bs order
more-own domain workflow b (Some s) bs order own mine =
    filter-own domain workflow s mine (placed b bs) (placed-in-order b bs order) ∙ ap (arrived s) (filter-own domain workflow b own bs order)

pub find-more : (p : Batch → Bool) (b : Batch) (second : Option Batch) (bs : List Batch) → p b ≡ false → IfSome second (λ s. p s ≡ false) → find p (more b second bs) ≡ find p bs
find-more p b None bs one two = find-placed p b bs one
find-more p b (Some s) bs one two = find-placed p s (placed b bs) two ∙ find-placed p b bs one

-- what is new to a list is new to one that has less
pub new-less : (b : Batch) (second : Option Batch) (bs cs : List Batch) → AreInOrder bs → AreInOrder cs → ((q : Place) → batch_there bs q ≡ None → batch_there cs q ≡ None) → AreNew bs b second → AreNew cs b second
new-less b second bs cs order other less are = record { first = less (place_of b) are.first; second_new = by second are.second_new }
  where
    by : (o : Option Batch) → IfSome o (λ s. batch_there (placed b bs) (place_of s) ≡ None) → IfSome o (λ s. batch_there (placed b cs) (place_of s) ≡ None)
    by None e = tt
    by (Some s) e =
        let split : option_or (batch_there bs (place_of s)) (batch_there (b ∷ []) (place_of s)) ≡ None = sym (placed-there b bs (place_of s) order) ∙ e in
        let here : batch_there bs (place_of s) ≡ None = first-none (batch_there bs (place_of s)) (batch_there (b ∷ []) (place_of s)) split in
        let one : batch_there (b ∷ []) (place_of s) ≡ None = sym (ap (λ o. option_or o (batch_there (b ∷ []) (place_of s))) here) ∙ split in
        placed-there b cs (place_of s) other ∙ ap (λ o. option_or o (batch_there (b ∷ []) (place_of s))) (less (place_of s) here) ∙ one

-- what is found where more stands in the middle, at places that were none's
pub middle-there : (front extra back : List Batch) (q : Place) → ((x : Batch) → batch_there extra q ≡ Some x → batch_there (front ++ back) q ≡ None)
    → batch_there (front ++ (extra ++ back)) q ≡ option_or (batch_there (front ++ back) q) (batch_there extra q)
middle-there front extra back q none =
    there-append front (extra ++ back) q ∙ ap (option_or (batch_there front q)) (there-append extra back q)
    ∙ by (batch_there front q) (batch_there extra q) (batch_there back q) (λ x e. sym (there-append front back q) ∙ none x e)
    ∙ sym (ap (λ o. option_or o (batch_there extra q)) (there-append front back q))
  where
    by : (f n k : Option Batch) → ((x : Batch) → n ≡ Some x → option_or f k ≡ None) → option_or f (option_or n k) ≡ option_or (option_or f k) n
    by (Some y) n k e = refl
    by None None None e = refl
    by None None (Some y) e = refl
    by None (Some x) None e = refl
    by None (Some x) (Some y) e = let no_way : Some y ≡ None = e x refl in absurd (cc)
