-- The index of a set's events tells which copied signals have another event as their original.
use Rattle.std.proofs.Common.{◌≡◌, ℕ, Bool, true, false, not, ◌&&◌, ◌||◌, ◌==◌, List, [], ◌∷◌, Option, Some, None, cond, refl, sym, ap, ◌∙◌, subst, if◌then◌else◌}
use Rattle.std.specs.List.{list_any}
use Rattle.std.specs.Map.{lookup}
use Rattle.std.specs.Str.{bytes_eq}
use Rattle.std.proofs.lemmas.Bool.{and_parts, and_from, eqb-true, eq-eqb}
use Rattle.std.proofs.lemmas.Slice.Eq.{bytes_eq-Decides}
use Rattle.indexmap.specs.IndexMap.{insert_entry}
use Rattle.ndc_event.specs.declared.batch.Batch.{Batch}
use Rattle.ndc_event.specs.declared.batch.Event.{Event}
use Rattle.ndc_event.specs.declared.key.Origin.{Origin}
use Rattle.ndc_event.specs.declared.key.RunId.{RunId}
use Rattle.ndc_event.specs.declared.kind.EventKind.{EventKind}
use Rattle.ndc_event.specs.declared.kind.EventKind.TheVariants.{WorkflowExecutionSignaled}
use Rattle.ndc_event.specs.declared.name.Name.{Name}
use Rattle.ndc_state.specs.Origins.{same_origin}
use Rattle.ndc_dump_causes.specs.declared.originals.Signal.{Signal}
use Rattle.ndc_dump_causes.specs.Causes.{has_unfit_copy, is_original, is_unfit_copy, misnames, names}
use Rattle.ndc_dump_causes.specs.Originals.{both, has_unfit_among, is_unfit_among, is_unlike, joined, misfits, misfits_in, place_of, same_signal, signal_in, with_batches, with_event, with_events}

-- ---- tests

or-assoc : (a b c : Bool) → ((a || b) || c) ≡ (a || (b || c))
or-assoc true b c = refl
or-assoc false b c = refl

or-true : (a : Bool) → (a || true) ≡ true
or-true true = refl
or-true false = refl

or-same : (a : Bool) → (a || a) ≡ a
or-same true = refl
or-same false = refl

pub or-false : (a : Bool) → (a || false) ≡ a
or-false true = refl
or-false false = refl

and-assoc : (a b c : Bool) → (a && (b && c)) ≡ ((a && b) && c)
and-assoc true b c = refl
and-assoc false b c = refl

-- ---- signals

signal : Name → Name → Signal
signal name input = record { name = name; input = input }

parts-signal : (n m i j : Name) → n ≡ m → i ≡ j → signal n i ≡ signal m j
unfolding signal
parts-signal n m i j e f = cc

same-signals : (one two : Signal) → same_signal one two ≡ true → one ≡ two
unfolding signal
same-signals one two h =
    let p = and_parts (bytes_eq one.name two.name) (bytes_eq one.input two.input) h in
    parts-signal one.name two.name one.input two.input ((bytes_eq-Decides one.name two.name).0 p.0) ((bytes_eq-Decides one.input two.input).0 p.1)

signal-self : (one : Signal) → same_signal one one ≡ true
signal-self one = and_from (bytes_eq one.name one.name) (bytes_eq one.input one.input) ((bytes_eq-Decides one.name one.name).1 refl) ((bytes_eq-Decides one.input one.input).1 refl)

-- what is known of two events is unlike a signal where one of them is
both-unlike : (wanted : Signal) (known new : Option Signal) → is_unlike wanted (both known new) ≡ (is_unlike wanted known || is_unlike wanted new)
both-unlike wanted None new = refl
both-unlike wanted (Some known) None = sym (or-true (not (same_signal known wanted)))
both-unlike wanted (Some known) (Some new) = by (same_signal known new) refl
  where
    by : (t : Bool) → same_signal known new ≡ t → is_unlike wanted (if t then Some new else None) ≡ (not (same_signal known wanted) || not (same_signal new wanted))
    by true e = let one = same-signals known new e in
        sym (ap (λ (s : Signal). not (same_signal s wanted) || not (same_signal new wanted)) one ∙ or-same (not (same_signal new wanted)))
    by false e = other (same_signal known wanted) (same_signal new wanted) refl refl
      where
        other : (s t : Bool) → same_signal known wanted ≡ s → same_signal new wanted ≡ t → true ≡ (not (same_signal known wanted) || not (same_signal new wanted))
        other false t f g = rw f refl
        other true false f g = rw (f, g) refl
        other true true f g =
            let one : known ≡ new = same-signals known wanted f ∙ sym (same-signals new wanted g) in
            let h : same_signal known new ≡ true = subst (λ (s : Signal). same_signal known s ≡ true) one (signal-self known) in absurd (cc)

joined-misfits : (wanted : Signal) (known : Option (Option Signal)) (new : Option Signal) → misfits wanted (Some (joined known new)) ≡ (misfits wanted known || is_unlike wanted new)
joined-misfits wanted None new = refl
joined-misfits wanted (Some known) new = both-unlike wanted known new

-- a kind that is not an original signal is unlike
kind-unlike : (name input : Name) (kind : EventKind) → is_unlike (record { name = name; input = input }) (signal_in kind) ≡ not (is_original name input kind)
kind-unlike name input (WorkflowExecutionSignaled other more None) = refl
kind-unlike name input (WorkflowExecutionSignaled other more (Some origin)) = refl
kind-unlike name input _ = refl

-- ---- origins

origin : RunId → ℕ → ℕ → Origin
origin run event version = record { run = run; event = event; version = version }

run_id : ℕ → RunId
run_id value = record { value = value }

parts-origin : (a b : ℕ) (e f v w : ℕ) → a ≡ b → e ≡ f → v ≡ w → origin (run_id a) e v ≡ origin (run_id b) f w
unfolding origin run_id
parts-origin a b e f v w g h i = cc

pub same-origins : (one two : Origin) → same_origin one two ≡ true → one ≡ two
unfolding origin run_id
same-origins one two h =
    let p = and_parts ((one.run.value == two.run.value) && (one.event == two.event)) (one.version == two.version) h in
    let q = and_parts (one.run.value == two.run.value) (one.event == two.event) p.0 in
    parts-origin one.run.value two.run.value one.event two.event one.version two.version
    (eqb-true one.run.value two.run.value q.0) (eqb-true one.event two.event q.1) (eqb-true one.version two.version p.1)

pub origin-self : (one : Origin) → same_origin one one ≡ true
origin-self one =
    and_from ((one.run.value == one.run.value) && (one.event == one.event)) (one.version == one.version)
    (and_from (one.run.value == one.run.value) (one.event == one.event) (eq-eqb one.run.value one.run.value refl) (eq-eqb one.event one.event refl)) (eq-eqb one.version one.version refl)

-- what is found once an entry is put
put-there : {V : Type 0} (key : Origin) (v : V) (es : List (Origin × V)) → lookup (same_origin key) (insert_entry same_origin es key v) ≡ Some v
put-there key v [] = rw (origin-self key) refl
put-there {V = V} key v (e ∷ es) = by (same_origin key e.0) refl (put-there key v es)
  where
    by : (t : Bool) → same_origin key e.0 ≡ t → lookup (same_origin key) (insert_entry same_origin es key v) ≡ Some v → lookup (same_origin key) (insert_entry same_origin (e ∷ es) key v) ≡ Some v
    by true f rest = rw f (rw f refl)
    by false f rest = rw f (rw f rest)

put-elsewhere : {V : Type 0} (key other : Origin) (v : V) (es : List (Origin × V)) → same_origin other key ≡ false → lookup (same_origin other) (insert_entry same_origin es key v) ≡ lookup (same_origin other) es
put-elsewhere key other v [] apart = rw apart refl
put-elsewhere {V = V} key other v (e ∷ es) apart = by (same_origin key e.0) refl (put-elsewhere key other v es apart)
  where
    by : (t : Bool) → same_origin key e.0 ≡ t → lookup (same_origin other) (insert_entry same_origin es key v) ≡ lookup (same_origin other) es
        → lookup (same_origin other) (insert_entry same_origin (e ∷ es) key v) ≡ lookup (same_origin other) (e ∷ es)
    by true f rest =
        let there : same_origin other e.0 ≡ false = subst (λ (o : Origin). same_origin other o ≡ false) (same-origins key e.0 f) apart in
        rw f (rw there refl)
    by false f rest = rw f (ap (λ o. cond (same_origin other e.0) (Some e.1) o) rest)

-- ---- events

names-place : (o : Origin) (run : RunId) (event : Event) → names o run event ≡ same_origin o (place_of run event)
names-place o run event = and-assoc (o.run.value == run.value) (o.event == event.id) (o.version == event.version)

-- whether an origin names this event of a run, which is not an original signal of this name and input
abbrev is_other : Origin → Name → Name → RunId → Event → Bool
is_other o name input run event = names o run event && not (is_original name input event.kind)

with-one : (known : List (Origin × Option Signal)) (run : RunId) (event : Event) (o : Origin) (name input : Name)
    → misfits_in (with_event run event known) o name input ≡ (misfits_in known o name input || is_other o name input run event)
with-one known run event o name input = by (same_origin o (place_of run event)) refl
  where
    wanted : Signal
    wanted = record { name = name; input = input }

    Goal : Origin → Type 0
    Goal o = misfits (record { name = name; input = input }) (lookup (same_origin o) (with_event run event known)) ≡ (misfits (record { name = name; input = input }) (lookup (same_origin o) known) || is_other o name input run event)

    by : (t : Bool) → same_origin o (place_of run event) ≡ t → misfits_in (with_event run event known) o name input ≡ (misfits_in known o name input || is_other o name input run event)
    by true e =
        subst (λ (q : Origin). misfits_in (with_event run event known) q name input ≡ (misfits_in known q name input || is_other q name input run event)) (sym (same-origins o (place_of run event) e))
        (ap (misfits (record { name = name; input = input })) (put-there (place_of run event) (joined (lookup (same_origin (place_of run event)) known) (signal_in event.kind)) known)
        ∙ joined-misfits (record { name = name; input = input }) (lookup (same_origin (place_of run event)) known) (signal_in event.kind)
        ∙ ap (λ t. misfits_in known (place_of run event) name input || t) (kind-unlike name input event.kind)
        ∙ ap (λ t. misfits_in known (place_of run event) name input || (t && not (is_original name input event.kind))) (sym (names-place (place_of run event) run event ∙ origin-self (place_of run event))))
    by false e =
        ap (misfits (record { name = name; input = input })) (put-elsewhere (place_of run event) o (joined (lookup (same_origin (place_of run event)) known) (signal_in event.kind)) known e)
        ∙ sym (ap (λ t. misfits_in known o name input || (t && not (is_original name input event.kind))) (names-place o run event ∙ e) ∙ or-false (misfits_in known o name input))

with-more : (events : List Event) (known : List (Origin × Option Signal)) (run : RunId) (o : Origin) (name input : Name)
    → misfits_in (with_events run events known) o name input ≡ (misfits_in known o name input || list_any (is_other o name input run) events)
with-more [] known run o name input = sym (or-false (misfits_in known o name input))
with-more (e ∷ es) known run o name input =
    with-more es (with_event run e known) run o name input
    ∙ ap (λ t. t || list_any (is_other o name input run) es) (with-one known run e o name input)
    ∙ or-assoc (misfits_in known o name input) (is_other o name input run e) (list_any (is_other o name input run) es)

with-all : (batches : List Batch) (known : List (Origin × Option Signal)) (o : Origin) (name input : Name)
    → misfits_in (with_batches batches known) o name input ≡ (misfits_in known o name input || misnames batches o name input)
with-all [] known o name input = sym (or-false (misfits_in known o name input))
with-all (b ∷ bs) known o name input =
    with-all bs (with_events b.run b.events known) o name input
    ∙ ap (λ t. t || misnames bs o name input) (with-more b.events known b.run o name input)
    ∙ or-assoc (misfits_in known o name input) (list_any (is_other o name input b.run) b.events) (misnames bs o name input)

-- what is known of the events of a set tells which copies are unfit
unfit-kind : (batches : List Batch) (kind : EventKind) → is_unfit_among (with_batches batches []) kind ≡ is_unfit_copy batches kind
unfit-kind batches (WorkflowExecutionSignaled name input (Some o)) = with-all batches [] o name input
unfit-kind batches (WorkflowExecutionSignaled name input None) = refl
unfit-kind batches _ = refl

pub unfit-copies : (known : List (Origin × Option Signal)) (batches : List Batch) (b : Batch) → known ≡ with_batches batches [] → has_unfit_among known b.events ≡ has_unfit_copy batches b
unfit-copies known batches b e = ap (λ k. has_unfit_among k b.events) e ∙ ap (λ (f : Event → Bool). list_any f b.events) (λ i event. unfit-kind batches event.kind i)
