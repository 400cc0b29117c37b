-- What strays are: in order, each origin once, the first signal of each origin that is not settled.
use Rattle.std.proofs.Common.{◌≡◌, ◌≢◌, zero, suc, Bool, true, false, not, ◌&&◌, ◌||◌, is_some, List, [], ◌∷◌, Option, None, Some, All, if◌then◌else◌, refl, ap, sym, ◌∙◌, subst, arith, true≢false}
use Rattle.std.proofs.lemmas.Bool.{and_parts, and_from}
use Rattle.std.specs.List.{list_all}
use Rattle.std.proofs.lemmas.List.Kept.{AllPairs-cons}
use Rattle.ndc_event.specs.declared.key.Origin.{Origin}
use Rattle.ndc_state.specs.Laws.{AreApart}
use Rattle.ndc_state.specs.Origins.{same_origin, is_among}
use Rattle.ndc_reapply.specs.declared.stray.Stray.{Stray}
use Rattle.ndc_reapply.specs.Laws.{rises, signal_at, are_unlisted}
use Rattle.ndc_reapply.specs.Strays.{origin_lt, origins_of, strays_of, with_stray}
use Rattle.ndc_reapply.proofs.OrderLemmas.{origin_lt-neither, origin_lt-trans, origin_lt-self, same_origin-is, same_origin-self, same_origin-not}

-- what each origin is, it is with one more that is it too
list_all-with_stray : (p : Origin → Bool) (s : Stray) (list : List Stray) → p s.origin ≡ true → list_all p (origins_of list) ≡ true → list_all p (origins_of (with_stray s list)) ≡ true
list_all-with_stray p s [] here all = and_from (p s.origin) true here refl
list_all-with_stray p s (f ∷ list) here all = by (origin_lt s.origin f.origin) (origin_lt f.origin s.origin) (list_all-with_stray p s list here rest.1)
  where
    rest : (p f.origin ≡ true) × (list_all p (origins_of list) ≡ true)
    rest = and_parts (p f.origin) (list_all p (origins_of list)) all

    by : (b d : Bool) → list_all p (origins_of (with_stray s list)) ≡ true
        → list_all p (origins_of (if b then s ∷ f ∷ list else if d then f ∷ with_stray s list else s ∷ list)) ≡ true
    by true d tail = and_from (p s.origin) (list_all p (origins_of (f ∷ list))) here all
    by false true tail = and_from (p f.origin) (list_all p (origins_of (with_stray s list))) rest.0 tail
    by false false tail = and_from (p s.origin) (list_all p (origins_of list)) here rest.1

-- what comes after an origin comes after those before it
list_all-before : (one two : Origin) (os : List Origin) → origin_lt one two ≡ true → list_all (origin_lt two) os ≡ true → list_all (origin_lt one) os ≡ true
list_all-before one two [] lt all = refl
list_all-before one two (o ∷ os) lt all =
    let rest = and_parts (origin_lt two o) (list_all (origin_lt two) os) all in
    and_from (origin_lt one o) (list_all (origin_lt one) os) (origin_lt-trans one two o lt rest.0) (list_all-before one two os lt rest.1)

rises-with_stray : (s : Stray) (list : List Stray) → rises (origins_of list) ≡ true → rises (origins_of (with_stray s list)) ≡ true
rises-with_stray s [] h = refl
rises-with_stray s (f ∷ list) h = by (origin_lt s.origin f.origin) (origin_lt f.origin s.origin) refl refl (rises-with_stray s list rest.1)
  where
    rest : (list_all (origin_lt f.origin) (origins_of list) ≡ true) × (rises (origins_of list) ≡ true)
    rest = and_parts (list_all (origin_lt f.origin) (origins_of list)) (rises (origins_of list)) h

    by : (b d : Bool) → origin_lt s.origin f.origin ≡ b → origin_lt f.origin s.origin ≡ d → rises (origins_of (with_stray s list)) ≡ true
        → rises (origins_of (if b then s ∷ f ∷ list else if d then f ∷ with_stray s list else s ∷ list)) ≡ true
    by true d e g tail =
        and_from (list_all (origin_lt s.origin) (origins_of (f ∷ list))) (rises (origins_of (f ∷ list)))
        (and_from (origin_lt s.origin f.origin) (list_all (origin_lt s.origin) (origins_of list)) e (list_all-before s.origin f.origin (origins_of list) e rest.0)) h
    by false true e g tail =
        and_from (list_all (origin_lt f.origin) (origins_of (with_stray s list))) (rises (origins_of (with_stray s list)))
        (list_all-with_stray (origin_lt f.origin) s list g rest.0) tail
    by false false e g tail = subst (λ (o : Origin). rises (o ∷ origins_of list) ≡ true) (sym (origin_lt-neither s.origin f.origin e g)) h

-- strays rise by origin
pub rises-strays_of : (signals : List Stray) (settled : List Origin) → rises (origins_of (strays_of signals settled)) ≡ true
rises-strays_of [] settled = refl
rises-strays_of (s ∷ signals) settled = by (is_among s.origin settled) (rises-strays_of signals settled)
  where
    by : (b : Bool) → rises (origins_of (strays_of signals settled)) ≡ true
        → rises (origins_of (if b then strays_of signals settled else with_stray s (strays_of signals settled))) ≡ true
    by true tail = tail
    by false tail = rises-with_stray s (strays_of signals settled) tail

-- what comes after an origin is not that one
after-apart : (o : Origin) (os : List Origin) → list_all (origin_lt o) os ≡ true → All (λ x. o ≢ x) os
after-apart o [] all k d lt = absurd (omega arith)
after-apart o (x ∷ os) all zero d lt = λ e. true≢false (sym (and_parts (origin_lt o x) (list_all (origin_lt o) os) all).0 ∙ ap (origin_lt o) (sym e) ∙ origin_lt-self o)
after-apart o (x ∷ os) all (suc k) d lt = after-apart o os (and_parts (origin_lt o x) (list_all (origin_lt o) os) all).1 k d (omega arith)

-- origins that rise are apart
pub AreApart-rises : (os : List Origin) → rises os ≡ true → AreApart os
AreApart-rises [] h = λ i j d lt within. absurd (omega arith)
AreApart-rises (o ∷ os) h =
    let rest = and_parts (list_all (origin_lt o) os) (rises os) h in
    AllPairs-cons (λ one two. one ≢ two) o os (after-apart o os rest.0) (AreApart-rises os rest.1)

-- of two origins that differ no origin is both
same_origin-one : (o one two : Origin) → (one ≡ two → ⊥) → same_origin o one ≡ true → same_origin o two ≡ false
same_origin-one o one two apart h = same_origin-not o two (λ e. apart (sym (same_origin-is o one h) ∙ e))

before-apart : (one two : Origin) → origin_lt one two ≡ true → one ≡ two → ⊥
before-apart one two lt e = true≢false (sym lt ∙ ap (origin_lt one) (sym e) ∙ origin_lt-self one)

-- a signal that is put to its place is the one with its origin, and others stay
signal_at-with_stray : (o : Origin) (s : Stray) (list : List Stray) → signal_at o (with_stray s list) ≡ (if same_origin o s.origin then Some s else signal_at o list)
signal_at-with_stray o s [] = refl
signal_at-with_stray o s (f ∷ list) = by (origin_lt s.origin f.origin) (origin_lt f.origin s.origin) refl refl (signal_at-with_stray o s list)
  where
    swapped : (b d : Bool) → (b ≡ true → d ≡ false) → (if d then Some f else if b then Some s else signal_at o list) ≡ (if b then Some s else if d then Some f else signal_at o list)
    swapped true true h = absurd (true≢false (h refl))
    swapped true false h = refl
    swapped false true h = refl
    swapped false false h = refl

    replaced : (b d : Bool) → d ≡ b → (if b then Some s else signal_at o list) ≡ (if b then Some s else if d then Some f else signal_at o list)
    replaced true d h = refl
    replaced false d h = rw h refl

    by : (b d : Bool) → origin_lt s.origin f.origin ≡ b → origin_lt f.origin s.origin ≡ d
        → signal_at o (with_stray s list) ≡ (if same_origin o s.origin then Some s else signal_at o list)
        → signal_at o (if b then s ∷ f ∷ list else if d then f ∷ with_stray s list else s ∷ list) ≡ (if same_origin o s.origin then Some s else signal_at o (f ∷ list))
    by true d e g tail = refl
    by false true e g tail =
        ap (λ t. if same_origin o f.origin then Some f else t) tail
        ∙ swapped (same_origin o s.origin) (same_origin o f.origin) (same_origin-one o s.origin f.origin (λ h. before-apart f.origin s.origin g (sym h)))
    by false false e g tail = replaced (same_origin o s.origin) (same_origin o f.origin) (ap (same_origin o) (sym (origin_lt-neither s.origin f.origin e g)))

-- the stray with an origin is the first signal with it, where it is not settled
pub signal_at-strays_of : (o : Origin) (signals : List Stray) (settled : List Origin) → signal_at o (strays_of signals settled) ≡ (if is_among o settled then None else signal_at o signals)
signal_at-strays_of o [] settled = none (is_among o settled)
  where
    none : (b : Bool) → None ≡ (if b then None else signal_at o [])
    none true = refl
    none false = refl
signal_at-strays_of o (s ∷ signals) settled = by (is_among s.origin settled) (same_origin o s.origin) refl refl (signal_at-strays_of o signals settled)
  where
    first : (b : Bool) → b ≡ false → Some s ≡ (if b then None else Some s)
    first true h = absurd (cc)
    first false h = refl

    gone : (b : Bool) (x : Option Stray) → b ≡ true → (if b then None else x) ≡ (if b then None else Some s)
    gone true x h = refl
    gone false x h = absurd (cc)

    by : (b d : Bool) → is_among s.origin settled ≡ b → same_origin o s.origin ≡ d
        → signal_at o (strays_of signals settled) ≡ (if is_among o settled then None else signal_at o signals)
        → signal_at o (if b then strays_of signals settled else with_stray s (strays_of signals settled)) ≡ (if is_among o settled then None else if d then Some s else signal_at o signals)
    by true true e g tail = tail ∙ gone (is_among o settled) (signal_at o signals) (ap (λ x. is_among x settled) (same_origin-is o s.origin g) ∙ e)
    by true false e g tail = tail
    by false true e g tail =
        signal_at-with_stray o s (strays_of signals settled) ∙ ap (λ d. if d then Some s else signal_at o (strays_of signals settled)) g
        ∙ first (is_among o settled) (ap (λ x. is_among x settled) (same_origin-is o s.origin g) ∙ e)
    by false false e g tail =
        signal_at-with_stray o s (strays_of signals settled) ∙ ap (λ d. if d then Some s else signal_at o (strays_of signals settled)) g ∙ tail

-- an origin stands where a signal has it
pub is_among-origins_of : (o : Origin) (list : List Stray) → is_among o (origins_of list) ≡ is_some (signal_at o list)
is_among-origins_of o [] = refl
is_among-origins_of o (s ∷ list) = by (same_origin o s.origin) (is_among-origins_of o list)
  where
    by : (b : Bool) → is_among o (origins_of list) ≡ is_some (signal_at o list) → (b || is_among o (origins_of list)) ≡ is_some (if b then Some s else signal_at o list)
    by true tail = refl
    by false tail = tail

-- the origins of strays are those of the signals that are not settled
pub is_among-strays_of : (o : Origin) (signals : List Stray) (settled : List Origin) → is_among o (origins_of (strays_of signals settled)) ≡ (is_among o (origins_of signals) && not (is_among o settled))
is_among-strays_of o signals settled =
    is_among-origins_of o (strays_of signals settled) ∙ ap is_some (signal_at-strays_of o signals settled)
    ∙ by (is_among o settled) (signal_at o signals) ∙ ap (λ b. b && not (is_among o settled)) (sym (is_among-origins_of o signals))
  where
    by : (b : Bool) (x : Option Stray) → is_some (if b then None else x) ≡ (is_some x && not b)
    by true None = refl
    by true (Some s) = refl
    by false None = refl
    by false (Some s) = refl

-- origins are not listed where none that is among them is
are_unlisted-by : (os listed : List Origin) → ((o : Origin) → is_among o os ≡ true → is_among o listed ≡ false) → are_unlisted os listed ≡ true
are_unlisted-by [] listed h = refl
are_unlisted-by (x ∷ os) listed h =
    and_from (not (is_among x listed)) (are_unlisted os listed) (ap not (h x (ap (λ b. b || is_among x os) (same_origin-self x))))
    (are_unlisted-by os listed (λ o k. h o (behind (same_origin o x) (is_among o os) k)))
  where
    behind : (b d : Bool) → d ≡ true → (b || d) ≡ true
    behind true d k = refl
    behind false d k = k

-- strays are none of those that are settled
pub are_unlisted-strays_of : (signals : List Stray) (settled listed : List Origin) → ((o : Origin) → is_among o listed ≡ true → is_among o settled ≡ true)
    → are_unlisted (origins_of (strays_of signals settled)) listed ≡ true
are_unlisted-strays_of signals settled listed among =
    are_unlisted-by (origins_of (strays_of signals settled)) listed
    (λ o k. apart (is_among o (origins_of signals)) (is_among o settled) (is_among o listed) (among o) (sym (is_among-strays_of o signals settled) ∙ k))
  where
    apart : (a b c : Bool) → (c ≡ true → b ≡ true) → (a && not b) ≡ true → c ≡ false
    apart a b false h k = refl
    apart true b true h k = absurd (true≢false (sym k ∙ ap not (h refl)))
    apart false b true h k = absurd (cc)

-- no signal has an origin that comes before those of all
signal_at-after : (o : Origin) (list : List Stray) → list_all (origin_lt o) (origins_of list) ≡ true → signal_at o list ≡ None
signal_at-after o [] all = refl
signal_at-after o (s ∷ list) all =
    let rest = and_parts (origin_lt o s.origin) (list_all (origin_lt o) (origins_of list)) all in
    rw (same_origin-not o s.origin (before-apart o s.origin rest.0)) (signal_at-after o list rest.1)

signal_at-first : (s : Stray) (list : List Stray) → signal_at s.origin (s ∷ list) ≡ Some s
signal_at-first s list = rw (same_origin-self s.origin) refl

signal_at-other : (o : Origin) (s : Stray) (list : List Stray) → same_origin o s.origin ≡ false → signal_at o (s ∷ list) ≡ signal_at o list
signal_at-other o s list h = rw h refl

no_signal : (s : Stray) (found : Option Stray) → found ≡ Some s → found ≡ None → ⊥
no_signal s found h k = absurd (cc)

-- lists that rise and have the same signal at each origin are one
rises-determined : (xs ys : List Stray) → rises (origins_of xs) ≡ true → rises (origins_of ys) ≡ true → ((o : Origin) → signal_at o xs ≡ signal_at o ys) → xs ≡ ys
rises-determined [] [] h k same = refl
rises-determined [] (y ∷ ys) h k same = absurd (no_signal y (signal_at y.origin (y ∷ ys)) (signal_at-first y ys) (sym (same y.origin)))
rises-determined (x ∷ xs) [] h k same = absurd (no_signal x (signal_at x.origin (x ∷ xs)) (signal_at-first x xs) (same x.origin))
rises-determined (x ∷ xs) (y ∷ ys) h k same =
    by (origin_lt x.origin y.origin) (origin_lt y.origin x.origin) refl refl (rises-determined xs ys of_xs.1 of_ys.1)
  where
    of_xs : (list_all (origin_lt x.origin) (origins_of xs) ≡ true) × (rises (origins_of xs) ≡ true)
    of_xs = and_parts (list_all (origin_lt x.origin) (origins_of xs)) (rises (origins_of xs)) h

    of_ys : (list_all (origin_lt y.origin) (origins_of ys) ≡ true) × (rises (origins_of ys) ≡ true)
    of_ys = and_parts (list_all (origin_lt y.origin) (origins_of ys)) (rises (origins_of ys)) k

    -- what comes before the first of a list that rises is not in it
    ahead : (s t : Stray) (list : List Stray) → origin_lt s.origin t.origin ≡ true → list_all (origin_lt t.origin) (origins_of list) ≡ true → signal_at s.origin (t ∷ list) ≡ None
    ahead s t list lt all =
        signal_at-after s.origin (t ∷ list)
        (and_from (origin_lt s.origin t.origin) (list_all (origin_lt s.origin) (origins_of list)) lt (list_all-before s.origin t.origin (origins_of list) lt all))

    by : (b d : Bool) → origin_lt x.origin y.origin ≡ b → origin_lt y.origin x.origin ≡ d → (((o : Origin) → signal_at o xs ≡ signal_at o ys) → xs ≡ ys) → x ∷ xs ≡ y ∷ ys
    by true d e g rest = absurd (no_signal x (signal_at x.origin (x ∷ xs)) (signal_at-first x xs) (same x.origin ∙ ahead x y ys e of_ys.0))
    by false true e g rest = absurd (no_signal y (signal_at y.origin (y ∷ ys)) (signal_at-first y ys) (sym (same y.origin) ∙ ahead y x xs g of_xs.0))
    by false false e g rest = ap (λ s. s ∷ xs) one ∙ ap (λ l. y ∷ l) (rest (λ o. behind o (same_origin o x.origin) refl))
      where
        at : x.origin ≡ y.origin
        at = origin_lt-neither x.origin y.origin e g

        one : x ≡ y
        one = let found : Some x ≡ Some y = sym (signal_at-first x xs) ∙ same x.origin ∙ ap (λ o. signal_at o (y ∷ ys)) at ∙ signal_at-first y ys in cc

        behind : (o : Origin) (b : Bool) → same_origin o x.origin ≡ b → signal_at o xs ≡ signal_at o ys
        behind o true h =
            let o_is : o ≡ x.origin = same_origin-is o x.origin h in
            ap (λ p. signal_at p xs) o_is ∙ signal_at-after x.origin xs of_xs.0 ∙ sym (ap (λ p. signal_at p ys) (o_is ∙ at) ∙ signal_at-after y.origin ys of_ys.0)
        behind o false h = sym (signal_at-other o x xs h) ∙ same o ∙ signal_at-other o y ys (ap (same_origin o) (sym at) ∙ h)

-- strays are told by the first signal of each origin and by what is settled
pub strays_of-determined : (one two : List Stray) (settled others : List Origin) → ((o : Origin) → signal_at o one ≡ signal_at o two) → ((o : Origin) → is_among o settled ≡ is_among o others)
    → strays_of one settled ≡ strays_of two others
strays_of-determined one two settled others signals origins =
    rises-determined (strays_of one settled) (strays_of two others) (rises-strays_of one settled) (rises-strays_of two others)
    (λ o. signal_at-strays_of o one settled ∙ ap (λ b. if b then None else signal_at o one) (origins o) ∙ ap (λ s. if is_among o others then None else s) (signals o) ∙ sym (signal_at-strays_of o two others))
