-- Origins that come again, and origins that are listed.
use Rattle.std.proofs.Common.{◌≡◌, ℕ, Bool, true, false, ◌||◌, List, [], ◌∷◌, ◌++◌, length, take, ◌⊎◌, inl, inr, if◌then◌else◌, refl, sym, ap, ◌∙◌, subst}
use Rattle.std.specs.List.{cons_option}
use Rattle.std.proofs.lemmas.List.{append-nil, append_assoc}
use Rattle.std.proofs.lemmas.List.Folds.{list_any-append}
use Rattle.std.proofs.Math.Seq.{take-append_seam}
use Rattle.ndc_event.specs.declared.batch.Event.{Event}
use Rattle.ndc_event.specs.declared.key.Origin.{Origin}
use Rattle.ndc_event.specs.declared.key.RunId.{RunId}
use Rattle.ndc_event.specs.declared.kind.EventKind.{EventKind}
use Rattle.ndc_event.specs.declared.kind.EventKind.TheVariants.{WorkflowExecutionSignaled}
use Rattle.ndc_reapply.specs.Strays.{origins_of}
use Rattle.ndc_reapply.specs.declared.stray.Stray.{Stray}
use Rattle.ndc_reapply.proofs.OrderLemmas.{same_origin-is, same_origin-self}
use Rattle.ndc_model_sets.specs.Origins.{origins_in, signal_of, signals_in}
use Rattle.ndc_state.specs.Origins.{is_among, origin_of, same_origin, with_origin}
use Rattle.ndc_state.specs.Replay.{collected, collected_by}
use Rattle.ndc_dump_causes.specs.Causes.{comes_again}
use Rattle.ndc_dump_causes.specs.Trails.{kind_again}

-- the first origins are all among the second
abbrev pub AreAmong : List Origin → List Origin → Type 0
AreAmong few many = (origin : Origin) → is_among origin few ≡ true → is_among origin many ≡ true

or-left : (s t : Bool) → s ≡ true → (s || t) ≡ true
or-left true t e = refl
or-left false t e = absurd (cc)

or-right : (s t : Bool) → t ≡ true → (s || t) ≡ true
or-right true t e = refl
or-right false t e = e

pub or-parts : (s t : Bool) → (s || t) ≡ false → (s ≡ false) × (t ≡ false)
or-parts true t h = absurd (cc)
or-parts false t h = (refl, h)

or-cases : (s t : Bool) → (s || t) ≡ true → (s ≡ true) ⊎ (t ≡ true)
or-cases true t h = inl refl
or-cases false t h = inr h

-- what is among a prefix, or a rest, is among both
pub among-front : (o : Origin) (xs ys : List Origin) → is_among o xs ≡ true → is_among o (xs ++ ys) ≡ true
among-front o xs ys h = list_any-append _ xs ys ∙ or-left (is_among o xs) (is_among o ys) h

pub among-rest : (o : Origin) (xs ys : List Origin) → is_among o ys ≡ true → is_among o (xs ++ ys) ≡ true
among-rest o xs ys h = list_any-append _ xs ys ∙ or-right (is_among o xs) (is_among o ys) h

pub among-either : (o : Origin) (xs ys : List Origin) → is_among o (xs ++ ys) ≡ true → (is_among o xs ≡ true) ⊎ (is_among o ys ≡ true)
among-either o xs ys h = or-cases (is_among o xs) (is_among o ys) (sym (list_any-append _ xs ys) ∙ h)

not-among : (few many : List Origin) (o : Origin) → AreAmong few many → is_among o many ≡ false → is_among o few ≡ false
not-among few many o h e = by (is_among o few) refl
  where
    by : (t : Bool) → is_among o few ≡ t → is_among o few ≡ false
    by false f = f
    by true f = let g : is_among o many ≡ true = h o f in absurd (cc)

both-with : (few many : List Origin) (o : Origin) → AreAmong few many → AreAmong (few ++ o ∷ []) (many ++ o ∷ [])
both-with few many o h x k = by (among-either x few (o ∷ []) k)
  where
    by : (is_among x few ≡ true) ⊎ (is_among x (o ∷ []) ≡ true) → is_among x (many ++ o ∷ []) ≡ true
    by (inl a) = among-front x many (o ∷ []) (h x a)
    by (inr a) = among-rest x many (o ∷ []) a

with-new : (o : Origin) (xs : List Origin) → is_among o xs ≡ false → with_origin o xs ≡ xs ++ o ∷ []
with-new o xs e = rw e refl

-- what does not come again after many origins does not after few of them
pub again-less : (few many ys : List Origin) → AreAmong few many → comes_again many ys ≡ false → comes_again few ys ≡ false
again-less few many [] h e = refl
again-less few many (y ∷ ys) h e =
    let parts = or-parts (is_among y many) (comes_again (with_origin y many) ys) e in
    let new : is_among y few ≡ false = not-among few many y h parts.0 in
    ap (λ t. t || comes_again (with_origin y few) ys) new
    ∙ ap (λ l. comes_again l ys) (with-new y few new)
    ∙ again-less (few ++ y ∷ []) (many ++ y ∷ []) ys (both-with few many y h) (sym (ap (λ l. comes_again l ys) (with-new y many parts.0)) ∙ parts.1)

-- after origins that do not come again, the rest comes again where it does after all of them
pub again-append : (s xs ys : List Origin) → comes_again s xs ≡ false → comes_again s (xs ++ ys) ≡ comes_again (s ++ xs) ys
again-append s [] ys e = ap (λ l. comes_again l ys) (sym (append-nil s))
again-append s (x ∷ xs) ys e =
    let parts = or-parts (is_among x s) (comes_again (with_origin x s) xs) e in
    ap (λ t. t || comes_again (with_origin x s) (xs ++ ys)) parts.0
    ∙ ap (λ l. comes_again l (xs ++ ys)) (with-new x s parts.0)
    ∙ again-append (s ++ x ∷ []) xs ys (sym (ap (λ l. comes_again l xs) (with-new x s parts.0)) ∙ parts.1)
    ∙ ap (λ l. comes_again l ys) (append_assoc s (x ∷ []) xs)

-- ---- what is listed

listed-kind : (run : RunId) (id v : ℕ) (kind : EventKind) (listed : List Origin) → (more : List Origin) × (collected_by run id v kind listed ≡ listed ++ more)
listed-kind run id v (WorkflowExecutionSignaled _ _ from) listed = by (is_among (origin_of run id v from) listed) refl
  where
    by : (t : Bool) → is_among (origin_of run id v from) listed ≡ t → (more : List Origin) × (with_origin (origin_of run id v from) listed ≡ listed ++ more)
    by true e = ([], rw e (sym (append-nil listed)))
    by false e = (origin_of run id v from ∷ [], rw e refl)
listed-kind run id v _ listed = ([], sym (append-nil listed))

-- what was listed stays first
pub listed-grows : (run : RunId) (listed : List Origin) (events : List Event) → (more : List Origin) × (collected run listed events ≡ listed ++ more)
listed-grows run listed [] = ([], sym (append-nil listed))
listed-grows run listed (e ∷ es) =
    let one = listed-kind run e.id e.version e.kind listed in
    let rest = listed-grows run (collected_by run e.id e.version e.kind listed) es in
    (one.0 ++ rest.0, rest.1 ∙ ap (λ l. l ++ rest.0) one.1 ∙ append_assoc listed one.0 rest.0)

pub listed-front : (run : RunId) (listed : List Origin) (events : List Event) → take (length listed) (collected run listed events) ≡ listed
listed-front run listed events = let g = listed-grows run listed events in ap (take (length listed)) g.1 ∙ take-append_seam listed g.0

-- the next event's signal, and those after it
pub again-kind : (run : RunId) (id v : ℕ) (kind : EventKind) (listed : List Origin) (rest : List Stray)
    → comes_again listed (origins_of (cons_option (signal_of run id v kind) rest)) ≡ (kind_again run id v kind listed || comes_again (collected_by run id v kind listed) (origins_of rest))
again-kind run id v (WorkflowExecutionSignaled _ _ from) listed rest = refl
again-kind run id v _ listed rest = refl

with-among : (o : Origin) (xs : List Origin) → is_among o (with_origin o xs) ≡ true
with-among o xs = by (is_among o xs) refl
  where
    by : (t : Bool) → is_among o xs ≡ t → is_among o (if t then xs else xs ++ o ∷ []) ≡ true
    by true e = e
    by false e = among-rest o xs (o ∷ []) (or-left (same_origin o o) false (same_origin-self o))

own-kind : (run : RunId) (id v : ℕ) (kind : EventKind) (listed : List Origin) (rest : List Stray) (o : Origin) → is_among o (origins_of (cons_option (signal_of run id v kind) rest)) ≡ true
    → (is_among o (collected_by run id v kind listed) ≡ true) ⊎ (is_among o (origins_of rest) ≡ true)
own-kind run id v (WorkflowExecutionSignaled _ _ from) listed rest o h = by (or-cases (same_origin o (origin_of run id v from)) (is_among o (origins_of rest)) h)
  where
    by : (same_origin o (origin_of run id v from) ≡ true) ⊎ (is_among o (origins_of rest) ≡ true)
        → (is_among o (with_origin (origin_of run id v from) listed) ≡ true) ⊎ (is_among o (origins_of rest) ≡ true)
    by (inl s) = inl (subst (λ y. is_among y (with_origin (origin_of run id v from) listed) ≡ true) (sym (same_origin-is o (origin_of run id v from) s)) (with-among (origin_of run id v from) listed))
    by (inr k) = inr k
own-kind run id v _ listed rest o h = inr h

-- the origins of events are listed with them
pub own-listed : (run : RunId) (events : List Event) (listed : List Origin) → AreAmong (origins_in run events) (collected run listed events)
own-listed run [] listed o h = absurd (cc)
own-listed run (e ∷ es) listed o h = by (own-kind run e.id e.version e.kind listed (signals_in run es) o h) (own-listed run es (collected_by run e.id e.version e.kind listed) o)
  where
    now : List Origin
    now = collected_by run e.id e.version e.kind listed

    by : (is_among o now ≡ true) ⊎ (is_among o (origins_in run es) ≡ true) → (is_among o (origins_in run es) ≡ true → is_among o (collected run now es) ≡ true) → is_among o (collected run now es) ≡ true
    by (inl k) rest = let g = listed-grows run now es in ap (is_among o) g.1 ∙ among-front o now g.0 k
    by (inr k) rest = rest k

listed-kind-own : (run : RunId) (id v : ℕ) (kind : EventKind) (listed : List Origin) (rest : List Stray) (o : Origin) → is_among o (collected_by run id v kind listed) ≡ true
    → (is_among o listed ≡ true) ⊎ (is_among o (origins_of (cons_option (signal_of run id v kind) rest)) ≡ true)
listed-kind-own run id v (WorkflowExecutionSignaled _ _ from) listed rest o h = by (is_among (origin_of run id v from) listed) h
  where
    by : (t : Bool) → is_among o (if t then listed else listed ++ origin_of run id v from ∷ []) ≡ true
        → (is_among o listed ≡ true) ⊎ ((same_origin o (origin_of run id v from) || is_among o (origins_of rest)) ≡ true)
    by true h = inl h
    by false h = at (among-either o listed (origin_of run id v from ∷ []) h)
      where
        at : (is_among o listed ≡ true) ⊎ ((same_origin o (origin_of run id v from) || false) ≡ true)
            → (is_among o listed ≡ true) ⊎ ((same_origin o (origin_of run id v from) || is_among o (origins_of rest)) ≡ true)
        at (inl k) = inl k
        at (inr k) = inr (one (same_origin o (origin_of run id v from)) k)
          where
            one : (s : Bool) → (s || false) ≡ true → (s || is_among o (origins_of rest)) ≡ true
            one true k = refl
            one false k = absurd (cc)
listed-kind-own run id v _ listed rest o h = inl h

more-own : (run : RunId) (id v : ℕ) (kind : EventKind) (rest : List Stray) (o : Origin) → is_among o (origins_of rest) ≡ true → is_among o (origins_of (cons_option (signal_of run id v kind) rest)) ≡ true
more-own run id v (WorkflowExecutionSignaled _ _ from) rest o h = or-right (same_origin o (origin_of run id v from)) (is_among o (origins_of rest)) h
more-own run id v _ rest o h = h

-- what is listed was listed before, or is an origin of the events
pub listed-own : (run : RunId) (events : List Event) (listed : List Origin) (o : Origin) → is_among o (collected run listed events) ≡ true → (is_among o listed ≡ true) ⊎ (is_among o (origins_in run events) ≡ true)
listed-own run [] listed o h = inl h
listed-own run (e ∷ es) listed o h = by (listed-own run es (collected_by run e.id e.version e.kind listed) o h)
  where
    by : (is_among o (collected_by run e.id e.version e.kind listed) ≡ true) ⊎ (is_among o (origins_in run es) ≡ true) → (is_among o listed ≡ true) ⊎ (is_among o (origins_in run (e ∷ es)) ≡ true)
    by (inl k) = listed-kind-own run e.id e.version e.kind listed (signals_in run es) o k
    by (inr k) = inr (more-own run e.id e.version e.kind (signals_in run es) o k)

-- what does not come again does not in a prefix either
pub again-front : (s xs ys : List Origin) → comes_again s (xs ++ ys) ≡ false → comes_again s xs ≡ false
again-front s [] ys e = refl
again-front s (x ∷ xs) ys e =
    let parts = or-parts (is_among x s) (comes_again (with_origin x s) (xs ++ ys)) e in
    ap (λ t. t || comes_again (with_origin x s) xs) parts.0 ∙ again-front (with_origin x s) xs ys parts.1
