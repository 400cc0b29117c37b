-- Looking a key up by halves.
use Rattle.std.proofs.Common.{◌≡◌, ◌<◌, true, false, List, [], ◌∷◌, ◌++◌, length, Option, Some, None, refl, sym, ◌∙◌, subst, ap, arith}
use Rattle.std.specs.Option.{option_or}
use Rattle.ndc_event.specs.Key.{key_lt, key_eq}
use Rattle.ndc_event.specs.declared.batch.Batch.{Batch}
use Rattle.ndc_event.specs.declared.key.BatchKey.{BatchKey}
use Rattle.ndc_model_sets.specs.Sets.{ComeAfter, Rise, batch_at}
use Rattle.ndc_model_sets.proofs.KeyLemmas.{before-irrefl, key_eq-self}
use Rattle.ndc_model_sets.proofs.SetLemmas.{at-cases, at-append, none-there, after-trans}

-- what comes after a key comes after it in parts
pub after-parts : (key : BatchKey) (front back : List Batch) → ComeAfter key (front ++ back) → ComeAfter key front × ComeAfter key back
after-parts key [] back h = (tt, h)
after-parts key (x ∷ front) back h = let r = after-parts key front back h.1 in ((h.0, r.0), r.1)

pub rise-parts : (front back : List Batch) → Rise (front ++ back) → Rise front × Rise back
rise-parts [] back h = (tt, h)
rise-parts (x ∷ front) back h = let r = rise-parts front back h.1 in (((after-parts x.key front back h.0).0, r.0), r.1)

or-none : (o : Option Batch) → option_or o None ≡ o
or-none None = refl
or-none (Some b) = refl

-- a key before the middle one
pub at-left : (front : List Batch) (middle : Batch) (back : List Batch) (key : BatchKey) → Rise (front ++ middle ∷ back) → key_lt key middle.key ≡ true
    → batch_at key (front ++ middle ∷ back) ≡ batch_at key front
at-left front middle back key rise l =
    at-append front (middle ∷ back) key
    ∙ ap (λ o. option_or (batch_at key front) o) (none-there (middle ∷ back) key (l, after-trans key middle.key back l (rise-parts front (middle ∷ back) rise).1.0))
    ∙ or-none (batch_at key front)

-- the prefix of what rises has only keys before the middle one
pub at-right : (front : List Batch) (middle : Batch) (back : List Batch) (key : BatchKey) → Rise (front ++ middle ∷ back) → key_lt key middle.key ≡ false → key_eq middle.key key ≡ false
    → batch_at key (front ++ middle ∷ back) ≡ batch_at key back
at-right [] middle back key rise l e = rw e refl
at-right (x ∷ front) middle back key rise l e =
    at-cases (λ o. o ≡ batch_at key back) x (front ++ middle ∷ back) key
    (λ same. let before : key_lt key middle.key ≡ true = subst (λ (k : BatchKey). key_lt k middle.key ≡ true) same (after-parts x.key front (middle ∷ back) rise.0).1.0 in absurd (cc))
    (λ _. at-right front middle back key rise.1 l e)

pub at-middle : (front : List Batch) (middle : Batch) (back : List Batch) (key : BatchKey) → Rise (front ++ middle ∷ back) → middle.key ≡ key
    → batch_at key (front ++ middle ∷ back) ≡ Some middle
at-middle [] middle back key rise e = rw (ap (λ k. key_eq k key) e ∙ key_eq-self key) refl
at-middle (x ∷ front) middle back key rise e =
    at-cases (λ o. o ≡ Some middle) x (front ++ middle ∷ back) key
    (λ same. absurd (before-irrefl x.key (subst (λ (k : BatchKey). key_lt x.key k ≡ true) (e ∙ sym same) (after-parts x.key front (middle ∷ back) rise.0).1.0)))
    (λ _. at-middle front middle back key rise.1 e)

-- what is looked for is found in what is left
pub record IsLeft (key : BatchKey) (rest whole : List Batch) : Type 0 where
  pub rise : Rise rest
  pub same : batch_at key rest ≡ batch_at key whole

pub left-front : (key : BatchKey) (rest whole front : List Batch) (middle : Batch) (back : List Batch) → rest ≡ front ++ middle ∷ back → IsLeft key rest whole → key_lt key middle.key ≡ true → IsLeft key front whole
left-front key rest whole front middle back e h l =
    let rise : Rise (front ++ middle ∷ back) = subst Rise e h.rise in
    record { rise = (rise-parts front (middle ∷ back) rise).0; same = sym (at-left front middle back key rise l) ∙ ap (batch_at key) (sym e) ∙ h.same }

pub left-back : (key : BatchKey) (rest whole front : List Batch) (middle : Batch) (back : List Batch) → rest ≡ front ++ middle ∷ back → IsLeft key rest whole → key_lt key middle.key ≡ false → key_eq middle.key key ≡ false
    → IsLeft key back whole
left-back key rest whole front middle back e h l n =
    let rise : Rise (front ++ middle ∷ back) = subst Rise e h.rise in
    record { rise = (rise-parts front (middle ∷ back) rise).1.1; same = sym (at-right front middle back key rise l n) ∙ ap (batch_at key) (sym e) ∙ h.same }

pub found-middle : (key : BatchKey) (rest whole front : List Batch) (middle : Batch) (back : List Batch) → rest ≡ front ++ middle ∷ back → IsLeft key rest whole → middle.key ≡ key → batch_at key whole ≡ Some middle
found-middle key rest whole front middle back e h same =
    sym h.same ∙ ap (batch_at key) e ∙ at-middle front middle back key (subst Rise e h.rise) same

length-middle : (front : List Batch) (middle : Batch) (back : List Batch) → (length front < length (front ++ middle ∷ back)) × (length back < length (front ++ middle ∷ back))
length-middle [] middle back = (omega arith, omega arith)
length-middle (x ∷ front) middle back = let r = length-middle front middle back in (omega (arith, r.0), omega (arith, r.1))

pub shorter-parts : (rest front : List Batch) (middle : Batch) (back : List Batch) → rest ≡ front ++ middle ∷ back → (length front < length rest) × (length back < length rest)
shorter-parts rest front middle back e = subst (λ (l : List Batch). (length front < length l) × (length back < length l)) (sym e) (length-middle front middle back)
