-- Replay, event by event.
use Rattle.std.proofs.Common.{◌≡◌, ℕ, ◌+◌, Bool, true, false, ◌&&◌, ◌||◌, ◌==◌, not, nat_lt, is_none, List, [], ◌∷◌, ◌++◌, length, ◌≤◌, IsSome, is_some, IsErr, if◌then◌else◌, Option, None, Some, Result, Ok, Err, refl, ap, sym, ◌∙◌, subst, arith, true≢false}
use Rattle.std.proofs.lemmas.Bool.{eqb-true, eq-eqb, lt-ltb, and_from, and_parts}
use Rattle.ndc_event.specs.declared.key.RunId.{RunId}
use Rattle.ndc_event.specs.declared.batch.Event.{Event}
use Rattle.ndc_event.specs.Batch.{follow_from}
use Rattle.ndc_event.specs.Outcome.{◌>>=◌}
use Rattle.ndc_state.specs.declared.rule.Rule.{Rule}
use Rattle.ndc_state.specs.declared.rule.StateError.{StateError}
use Rattle.ndc_state.specs.Replay.{replay, collected}
use Rattle.ndc_state.specs.Table.{is_start, rule_of, after, applied, applied_under, row_at}
use Rattle.ndc_state.specs.Value.{StateValue, new_state}
use Rattle.ndc_state.proofs.RowLemmas.{applied-Ok, IsAllowed, IsAllowed-rule_of, run-row, origins-row, Leaves, leaves-row}

-- replay in two parts is replay of the whole
pub replay-append : (s : StateValue) (front rest : List Event) → replay s (front ++ rest) ≡ (replay s front >>= (λ next. replay next rest))
replay-append s [] rest = refl
replay-append s (event ∷ front) rest = by (applied s event) (λ next. replay-append next front rest)
  where
    by : (r : Result StateValue StateError) → ((next : StateValue) → replay next (front ++ rest) ≡ (replay next front >>= (λ n. replay n rest)))
        → (r >>= (λ next. replay next (front ++ rest))) ≡ ((r >>= (λ next. replay next front)) >>= (λ n. replay n rest))
    by (Ok next) tail = tail next
    by (Err error) tail = refl

-- the first event of a replay is allowed, and the others replay after it
pub replay-cons : (s t : StateValue) (event : Event) (events : List Event) → replay s (event ∷ events) ≡ Ok t → (rule_of s event ≡ None) × (replay (after s event) events ≡ Ok t)
replay-cons s t event events h = by (applied s event) refl h
  where
    by : (r : Result StateValue StateError) → applied s event ≡ r → (r >>= (λ next. replay next events)) ≡ Ok t → (rule_of s event ≡ None) × (replay (after s event) events ≡ Ok t)
    by (Ok next) e h = let a = applied-Ok s next event e in (a.0, subst (λ n. replay n events ≡ Ok t) (sym a.1) h)
    by (Err error) e h = absurd (cc)

-- no event changes the run
pub run-replay : (s t : StateValue) (events : List Event) → replay s events ≡ Ok t → t.run ≡ s.run
run-replay s t [] h = let same : s ≡ t = cc in rw same refl
run-replay s t (event ∷ events) h =
    let p = replay-cons s t event events h in
    run-replay (after s event) t events p.1 ∙ run-row s event.id event.version event.kind

-- the origins of a state are those of the signals among its events
pub origins-replay : (s t : StateValue) (events : List Event) → replay s events ≡ Ok t → t.origins ≡ collected s.run s.origins events
origins-replay s t [] h = let same : s ≡ t = cc in rw same refl
origins-replay s t (event ∷ events) h =
    let p = replay-cons s t event events h in
    origins-replay (after s event) t events p.1
    ∙ ap (λ run. collected run (after s event).origins events) (run-row s event.id event.version event.kind)
    ∙ ap (λ origins. collected s.run origins events) (origins-row s event.id event.version event.kind (IsAllowed-rule_of s event p.0).own)

is_none-None : {A : Type 0} (o : Option A) → is_none o ≡ true → o ≡ None
is_none-None None h = refl
is_none-None (Some x) h = absurd (cc)

-- a state that begins with no event or is replayed from there: the next id is above 0, only one that has seen an event has closed,
-- and the run is open where it has seen an event and has not closed
pub record IsFit (s : StateValue) : Type 0 where
  pub next : 1 ≤ s.next
  pub unclosed : s.next ≡ 1 → s.close ≡ None
  pub running : s.running ≡ (nat_lt 1 s.next && is_none s.close)

pub IsFit-after : (s : StateValue) (event : Event) → rule_of s event ≡ None → IsFit s → IsFit (after s event)
IsFit-after s event h fit = by (is_start event.kind) refl
  where
    a : IsAllowed s event
    a = IsAllowed-rule_of s event h

    l : Leaves s (row_at s event).effect event.kind
    l = leaves-row s event.id event.version event.kind

    id_is : event.id ≡ s.next
    id_is = eqb-true event.id s.next a.next

    later : nat_lt 1 (event.id + 1) ≡ true
    later = lt-ltb 1 (event.id + 1) (omega (arith, id_is, fit.next))

    by : (b : Bool) → is_start event.kind ≡ b → IsFit (after s event)
    by true e =
        let first : event.id ≡ 1 = eqb-true event.id 1 (subst (λ b. (if b then event.id == 1 else not (event.id == 1)) ≡ true) e a.start) in
        let none : s.close ≡ None = fit.unclosed (sym id_is ∙ first) in
        record {
          next = omega arith;
          unclosed = λ n. absurd (omega (arith, id_is, fit.next, n));
          running = (l.started e).0 ∙ sym (ap (λ b. b && is_none (row_at s event).effect.close) later ∙ ap is_none ((l.started e).1 ∙ none));
        }
    by false e =
        let was : s.running ≡ true = subst (λ b. (b || s.running) ≡ true) e a.running in
        let none : s.close ≡ None = is_none-None s.close (and_parts (nat_lt 1 s.next) (is_none s.close) (sym fit.running ∙ was)).1 in
        record {
          next = omega arith;
          unclosed = λ n. absurd (omega (arith, id_is, fit.next, n));
          running = l.other e was none ∙ sym (ap (λ b. b && is_none (row_at s event).effect.close) later);
        }

pub IsFit-replay : (s t : StateValue) (events : List Event) → replay s events ≡ Ok t → IsFit s → IsFit t
IsFit-replay s t [] h fit = let same : s ≡ t = cc in subst IsFit same fit
IsFit-replay s t (event ∷ events) h fit =
    let p = replay-cons s t event events h in IsFit-replay (after s event) t events p.1 (IsFit-after s event p.0 fit)

pub IsFit-new : (run : RunId) → IsFit (new_state run)
IsFit-new run = record { next = omega arith; unclosed = λ _. refl; running = refl }

-- a closed run takes no event
pub closed-takes : (s : StateValue) → IsFit s → IsSome s.close → (event : Event) → IsErr (applied s event)
closed-takes s fit closed event = by (rule_of s event) refl
  where
    by : (r : Option Rule) → rule_of s event ≡ r → IsErr (applied_under r s event)
    by (Some rule) e = refl
    by None e = absurd (one_event (is_start event.kind) refl (IsAllowed-rule_of s event e))
      where
        one_event : (b : Bool) → is_start event.kind ≡ b → IsAllowed s event → ⊥
        one_event true e a =
            let first : event.id ≡ 1 = eqb-true event.id 1 (subst (λ b. (if b then event.id == 1 else not (event.id == 1)) ≡ true) e a.start) in
            let none : s.close ≡ None = fit.unclosed (sym (eqb-true event.id s.next a.next) ∙ first) in
            true≢false (sym closed ∙ ap is_some none)
        one_event false e a =
            let was : s.running ≡ true = subst (λ b. (b || s.running) ≡ true) e a.running in
            let none : s.close ≡ None = is_none-None s.close (and_parts (nat_lt 1 s.next) (is_none s.close) (sym fit.running ∙ was)).1 in
            true≢false (sym closed ∙ ap is_some none)

-- events that replay have ids that rise by one, from that of the state on
pub follow-replay : (s t : StateValue) (before : ℕ) (events : List Event) → replay s events ≡ Ok t → s.next ≡ before + 1
    → (follow_from before events ≡ true) × (t.next ≡ length events + (before + 1))
follow-replay s t before [] h e = let same : s ≡ t = cc in (refl, omega (arith, ap (λ v. v.next) same))
follow-replay s t before (event ∷ events) h e =
    let p = replay-cons s t event events h in
    let id_is : event.id ≡ before + 1 = eqb-true event.id s.next (IsAllowed-rule_of s event p.0).next ∙ e in
    let rest = follow-replay (after s event) t event.id events p.1 refl in
    (and_from (event.id == before + 1) (follow_from event.id events) (eq-eqb event.id (before + 1) id_is) rest.0, omega (arith, rest.1, id_is))
