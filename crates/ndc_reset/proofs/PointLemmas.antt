-- A history whose ids follow, parted at a point.
use Rattle.std.proofs.Common.{◌≡◌, ℕ, ◌+◌, ◌<◌, ◌≤◌, Bool, true, false, ◌||◌, ◌==◌, nat_lt, List, [], ◌∷◌, ◌++◌, Result, Ok, Err, refl, ap, sym, ◌∙◌, arith, if◌then◌else◌}
use Rattle.std.proofs.lemmas.Bool.{eqb-true, lt-ltb, and_parts}
use Rattle.std.proofs.lemmas.Bool.Decides.{nat_tests}
use Rattle.ndc_event.specs.declared.batch.Event.{Event}
use Rattle.ndc_event.specs.Batch.{follow_from}
use Rattle.ndc_event.specs.Outcome.{◌>>=◌}
use Rattle.ndc_state.specs.declared.rule.StateError.{StateError}
use Rattle.ndc_state.specs.Replay.{replay}
use Rattle.ndc_state.specs.Value.{StateValue}
use Rattle.ndc_state.proofs.ReplayLemmas.{replay-append}
use Rattle.ndc_reset.specs.Reset.{is_completed, is_signal, is_point, events_before, signals_onward}

not_below : (n m : ℕ) → m ≤ n → nat_lt n m ≡ false
not_below n m h = grind (arith, nat_tests)

below : (n m : ℕ) → n < m → nat_lt n m ≡ true
below n m h = lt-ltb n m h

not_equal : (n m : ℕ) → n < m → (n == m) ≡ false
not_equal n m h = grind (arith, nat_tests)

not_equal_above : (n m : ℕ) → m < n → (n == m) ≡ false
not_equal_above n m h = grind (arith, nat_tests)

differs : (n m : ℕ) → (n == m) ≡ false → n ≤ m → n < m
differs n m e le = grind (arith, nat_tests)

-- the signals among these events
abbrev pub signal_events : List Event → List Event
signal_events [] = []
signal_events (event ∷ events) = if is_signal event.kind then event ∷ signal_events events else signal_events events

-- a later history has no event before the point
events_before-later : (point before : ℕ) (history : List Event) → follow_from before history ≡ true → point ≤ before → events_before point history ≡ []
events_before-later point before [] h le = refl
events_before-later point before (event ∷ history) h le =
    let p = and_parts (event.id == before + 1) (follow_from event.id history) h in
    let id : event.id ≡ before + 1 = eqb-true event.id (before + 1) p.0 in
    rw (not_below event.id point (omega arith)) (events_before-later point event.id history p.1 (omega arith))

signals_onward-later : (point before : ℕ) (history : List Event) → follow_from before history ≡ true → point ≤ before + 1 → signals_onward point history ≡ signal_events history
signals_onward-later point before [] h le = refl
signals_onward-later point before (event ∷ history) h le =
    let p = and_parts (event.id == before + 1) (follow_from event.id history) h in
    let id : event.id ≡ before + 1 = eqb-true event.id (before + 1) p.0 in
    rw (not_below event.id point (omega arith)) (ap (λ l. if is_signal event.kind then event ∷ l else l) (signals_onward-later point event.id history p.1 (omega arith)))

-- a later history has no such point
pub is_point-later : (point before : ℕ) (history : List Event) → follow_from before history ≡ true → point ≤ before → is_point point history ≡ false
is_point-later point before [] h le = refl
is_point-later point before (event ∷ history) h le =
    let p = and_parts (event.id == before + 1) (follow_from event.id history) h in
    let id : event.id ≡ before + 1 = eqb-true event.id (before + 1) p.0 in
    rw (not_equal_above event.id point (omega arith)) (is_point-later point event.id history p.1 (omega arith))

-- a history in two parts: what stands before the point, and its completed decision with what stands after it
pub record Parts (point : ℕ) (history : List Event) : Type 0 where
  pub front : List Event
  pub decision : Event
  pub rest : List Event
  pub whole : history ≡ front ++ decision ∷ rest
  pub completed : is_completed decision.kind ≡ true
  pub before : events_before point history ≡ front
  pub onward : signals_onward point history ≡ signal_events (decision ∷ rest)

pub parts_at : (point before : ℕ) (history : List Event) → follow_from before history ≡ true → before < point → is_point point history ≡ true → Parts point history
parts_at point before [] h lt at = absurd (cc)
parts_at point before (event ∷ history) h lt at = by (event.id == point) refl (parts_at point event.id history p.1)
  where
    p : ((event.id == before + 1) ≡ true) × (follow_from event.id history ≡ true)
    p = and_parts (event.id == before + 1) (follow_from event.id history) h

    id : event.id ≡ before + 1
    id = eqb-true event.id (before + 1) p.0

    settle : (b : Bool) → (b || false) ≡ true → b ≡ true
    settle true k = refl
    settle false k = k

    by : (b : Bool) → (event.id == point) ≡ b → (event.id < point → is_point point history ≡ true → Parts point history) → Parts point (event ∷ history)
    by true e rest =
        let here : event.id ≡ point = eqb-true event.id point e in
        record {
          front = [];
          decision = event;
          rest = history;
          whole = refl;
          completed = settle (is_completed event.kind) (rw (e, is_point-later point event.id history p.1 (omega arith)) at at);
          before = rw (not_below event.id point (omega arith)) (events_before-later point event.id history p.1 (omega arith));
          onward = signals_onward-later point before (event ∷ history) h (omega (arith, here, id));
        }
    by false e rest =
        let lower : event.id < point = differs event.id point e (omega (arith, id, lt)) in
        let parts = rest lower (rw e at at) in
        record {
          front = event ∷ parts.front;
          decision = parts.decision;
          rest = parts.rest;
          whole = ap (λ l. event ∷ l) parts.whole;
          completed = parts.completed;
          before = rw (below event.id point lower) (ap (λ l. event ∷ l) parts.before);
          onward = rw (below event.id point lower) parts.onward;
        }

-- events in two parts replay one after the other
pub replay-parts : (s t : StateValue) (front rest : List Event) → replay s (front ++ rest) ≡ Ok t → (middle : StateValue) × (replay s front ≡ Ok middle) × (replay middle rest ≡ Ok t)
replay-parts s t front rest h = by (replay s front) refl (sym (replay-append s front rest) ∙ h)
  where
    by : (r : Result StateValue StateError) → replay s front ≡ r → (r >>= (λ next. replay next rest)) ≡ Ok t → (middle : StateValue) × (replay s front ≡ Ok middle) × (replay middle rest ≡ Ok t)
    by (Ok middle) e k = (middle, e, k)
    by (Err error) e k = absurd (cc)
