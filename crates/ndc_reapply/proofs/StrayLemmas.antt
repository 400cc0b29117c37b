-- Signals, put to their places.
use Rattle.std.proofs.Common.{◌≡◌, ℕ, ◌+◌, ◌<◌, Bool, true, false, List, [], ◌∷◌, length, drop, get_or, refl, ap, sym, ◌∙◌, add-one}
use Rattle.std.proofs.Math.Seq.{drop-cons}
use Rattle.std.specs.BTreeMap.{insert_entry}
use Rattle.std.specs.Map.{values_of}
use Rattle.std.specs.declared.cmp.Ordering.{Ordering}
use Rattle.ndc_event.specs.declared.key.Origin.{Origin}
use Rattle.ndc_reapply.specs.declared.order.Place.{Place}
use Rattle.ndc_reapply.specs.declared.stray.Stray.{Stray}
use Rattle.ndc_reapply.specs.Places.{place_of, by_place}
use Rattle.ndc_reapply.specs.Strays.{origin_lt, strays_of, with_stray}
use Rattle.ndc_reapply.proofs.OrderLemmas.{origin_cmp, origin_lt-neither}
use Rattle.ndc_state.specs.Origins.{is_among}

-- the signals of those in place are the signals
pub values_of-by_place : (list : List Stray) → values_of (by_place list) ≡ list
values_of-by_place [] = refl
values_of-by_place (s ∷ list) = ap (λ l. s ∷ l) (values_of-by_place list)

-- a signal that is put under the place of its origin goes to its place among the signals
pub insert_entry-by_place : (cmp : Place → Place → Ordering) → ((a b : Origin) → cmp (place_of a) (place_of b) ≡ origin_cmp a b)
    → (s : Stray) (list : List Stray) → insert_entry cmp (by_place list) (place_of s.origin) s ≡ by_place (with_stray s list)
insert_entry-by_place cmp law s [] = refl
insert_entry-by_place cmp law s (f ∷ list) = by (origin_lt s.origin f.origin) (origin_lt f.origin s.origin) refl refl (insert_entry-by_place cmp law s list)
  where
    by : (b d : Bool) → origin_lt s.origin f.origin ≡ b → origin_lt f.origin s.origin ≡ d → insert_entry cmp (by_place list) (place_of s.origin) s ≡ by_place (with_stray s list)
        → insert_entry cmp (by_place (f ∷ list)) (place_of s.origin) s ≡ by_place (with_stray s (f ∷ list))
    by true d e g rest = rw (law s.origin f.origin, e) refl
    by false true e g rest = rw (law s.origin f.origin, e, g) (ap (λ l. (place_of f.origin, f) ∷ l) rest)
    by false false e g rest = rw (law s.origin f.origin, e, g) (ap (λ o. (place_of o, s) ∷ by_place list) (sym (origin_lt-neither s.origin f.origin e g)))

-- a signal that is not settled is put to those after it
pub strays_of-put : (signals : List Stray) (settled : List Origin) (i j : ℕ) (s : Stray) → i + 1 ≡ j → i < length signals → s ≡ get_or signals i s
    → is_among s.origin settled ≡ false → with_stray s (strays_of (drop j signals) settled) ≡ strays_of (drop i signals) settled
strays_of-put signals settled i j s e lt at h = rw (drop-cons signals i s lt, ← at, h, ← e, add-one i) refl

-- a signal that is settled is left out
pub strays_of-skip : (signals : List Stray) (settled : List Origin) (i j : ℕ) (s : Stray) → i + 1 ≡ j → i < length signals → s ≡ get_or signals i s
    → is_among s.origin settled ≡ true → strays_of (drop j signals) settled ≡ strays_of (drop i signals) settled
strays_of-skip signals settled i j s e lt at h = rw (drop-cons signals i s lt, ← at, h, ← e, add-one i) refl

-- settled origins that are asked alike leave the same strays
pub strays_of-alike : (signals : List Stray) (one two : List Origin) → ((o : Origin) → is_among o one ≡ is_among o two) → strays_of signals one ≡ strays_of signals two
strays_of-alike [] one two h = refl
strays_of-alike (s ∷ signals) one two h = rw (h s.origin, strays_of-alike signals one two h) refl

-- entries in place stay so where a signal is put under the place of its origin
pub placed : (cmp : Place → Place → Ordering) → ((a b : Origin) → cmp (place_of a) (place_of b) ≡ origin_cmp a b)
    → (s : Stray) (place : Place) (before after : List (Place × Stray)) → place ≡ place_of s.origin → before ≡ by_place (values_of before) → after ≡ insert_entry cmp before place s
    → after ≡ by_place (with_stray s (values_of before))
placed cmp law s place before after at in_place e =
    e ∙ ap (λ p. insert_entry cmp before p s) at ∙ ap (λ entries. insert_entry cmp entries (place_of s.origin) s) in_place ∙ insert_entry-by_place cmp law s (values_of before)

-- entries that are those of some signals are those of their own
pub in_place : (entries : List (Place × Stray)) (list : List Stray) → entries ≡ by_place list → (values_of entries ≡ list) × (entries ≡ by_place (values_of entries))
in_place entries list e =
    let v : values_of entries ≡ list = ap (λ l. values_of l) e ∙ values_of-by_place list in
    (v, e ∙ ap by_place (sym v))
