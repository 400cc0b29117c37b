-- A reset replays in the new run, as the public law says it.
use Rattle.std.proofs.Common.{◌≡◌, ℕ, zero, suc, ◌<◌, Bool, true, false, ◌||◌, nat_lt, is_some, is_none, List, ◌∷◌, ◌++◌, IsTrue, IsOkAnd, None, Ok, Result, codes, refl, ap, sym, ◌∙◌, subst, arith, true≢false}
use Rattle.std.proofs.lemmas.Bool.{ltb-true, and_parts}
use Rattle.ndc_event.specs.declared.batch.Event.{Event}
use Rattle.ndc_event.specs.declared.key.RunId.{RunId}
use Rattle.ndc_event.specs.declared.kind.EventKind.{EventKind}
use Rattle.ndc_event.specs.declared.kind.EventKind.TheVariants.{DecisionTaskScheduled, DecisionTaskCompleted, DecisionTaskFailed}
use Rattle.ndc_event.specs.Batch.{follow_from}
use Rattle.ndc_state.specs.declared.rule.Rule.{Rule}
use Rattle.ndc_state.specs.declared.rule.Rule.TheVariants.{Task}
use Rattle.ndc_state.specs.declared.rule.StateError.{StateError}
use Rattle.ndc_state.specs.Pendings.{is_started}
use Rattle.ndc_state.specs.Replay.{replay, replay_of}
use Rattle.ndc_state.specs.Table.{row, is_start, needs}
use Rattle.ndc_state.specs.Value.{StateValue, new_state}
use Rattle.ndc_state.specs.Written.{replay_kinds}
use Rattle.ndc_state.proofs.LawProofs.{counts_from_one, open_fit}
use Rattle.ndc_state.proofs.ReplayLemmas.{replay-cons, run-replay}
use Rattle.ndc_state.proofs.RowLemmas.{IsAllowed, IsAllowed-rule_of}
use Rattle.ndc_reapply.specs.Laws.{IsOpen}
use Rattle.ndc_reapply.proofs.WrittenLemmas.{replay_kinds-append, replay_kinds-failed, with_decision, with_failure}
use Rattle.ndc_reset.specs.Laws.{GoesOn}
use Rattle.ndc_reset.specs.Reset.{is_completed, is_point, events_before, signals_onward, repeated_kinds, reset_kinds}
use Rattle.ndc_reset.proofs.LaterLemmas.{later-replay}
use Rattle.ndc_reset.proofs.MovedLemmas.{moved, moved-replay}
use Rattle.ndc_reset.proofs.PointLemmas.{parts_at, is_point-later, replay-parts, signal_events}

-- a completed decision was started, and is not a start
needs-met : (b : Bool) (rule : Rule) → needs b rule ≡ None → b ≡ true
needs-met true rule h = refl
needs-met false rule h = absurd (cc)

completed-started : (s : StateValue) (id v : ℕ) (kind : EventKind) → is_completed kind ≡ true → (row s id v kind).own ≡ None → is_started s.decision ≡ true
unfolding row
completed-started s id v DecisionTaskCompleted h own = needs-met (is_started s.decision) Task own
completed-started s id v _ h own = absurd (cc)

completed-no-start : (kind : EventKind) → is_completed kind ≡ true → is_start kind ≡ false
completed-no-start DecisionTaskCompleted h = refl
completed-no-start _ h = absurd (cc)

-- a point is above 0
point-above : (point : ℕ) (history : List Event) → follow_from 0 history ≡ true → is_point point history ≡ true → 0 < point
point-above zero history h at = absurd (true≢false (sym at ∙ is_point-later 0 0 history h (omega arith)))
point-above (suc n) history h at = omega arith

-- a state that a completed decision is applied to is open
opened-at : (run : RunId) (front : List Event) (s : StateValue) (event : Event) → replay_of run front ≡ Ok s → is_completed event.kind ≡ true → IsAllowed s event → IsOpen s
opened-at run front s event h completed allowed =
    let running : s.running ≡ true = subst (λ (b : Bool). (b || s.running) ≡ true) (completed-no-start event.kind completed) allowed.running in
    (ltb-true 1 s.next (and_parts (nat_lt 1 s.next) (is_none s.close) (sym (open_fit run front s h) ∙ running)).0, running)

-- the kinds of a reset in its three parts
reset-parts : (run : RunId) (point : ℕ) (history front later : List Event) → events_before point history ≡ front → signals_onward point history ≡ later
    → reset_kinds run point history ≡ repeated_kinds run front ++ DecisionTaskFailed (codes "reset") ∷ DecisionTaskScheduled ∷ repeated_kinds run later
unfolding reset_kinds
reset-parts run point history front later before onward = rw (before, onward) refl

-- the three parts, replayed one after the other
three-parts : (start reached again end : StateValue) (v : ℕ) (front later : List EventKind) → replay_kinds start v front ≡ Ok reached
    → replay_kinds reached v (DecisionTaskFailed (codes "reset") ∷ DecisionTaskScheduled ∷ later) ≡ replay_kinds again v later → replay_kinds again v later ≡ Ok end
    → replay_kinds start v (front ++ DecisionTaskFailed (codes "reset") ∷ DecisionTaskScheduled ∷ later) ≡ Ok end
three-parts start reached again end v front later a b d =
    replay_kinds-append start reached v front (DecisionTaskFailed (codes "reset") ∷ DecisionTaskScheduled ∷ later) a ∙ b ∙ d

pub reset_goes_on : (run new : RunId) (version point : ℕ) (history : List Event) (s : StateValue) → replay_of run history ≡ Ok s → IsTrue (is_point point history)
    → IsOkAnd (replay_kinds (new_state new) version (reset_kinds run point history)) (GoesOn s new)
reset_goes_on run new version point history s h at =
    let follows = (counts_from_one run history s h).0 in
    let parts = parts_at point 0 history follows (point-above point history follows at) at in
    let whole : replay (new_state run) (parts.front ++ parts.decision ∷ parts.rest) ≡ Ok s = ap (replay (new_state run)) (sym parts.whole) ∙ h in
    let middle = replay-parts (new_state run) s parts.front (parts.decision ∷ parts.rest) whole in
    let m : StateValue = middle.0 in
    let allowed = IsAllowed-rule_of m parts.decision (replay-cons m s parts.decision parts.rest middle.2).0 in
    let front = moved-replay run (new_state run) m new 0 version parts.front refl middle.1 in
    let reached : StateValue = moved m new front.0 in
    let opened : IsOpen reached = opened-at run parts.front m parts.decision middle.1 parts.completed allowed in
    let started : is_started reached.decision ≡ true = completed-started m parts.decision.id parts.decision.version parts.decision.kind parts.completed allowed.own in
    let again : StateValue = with_decision (with_failure reached version) version in
    let later = later-replay run m s again version (parts.decision ∷ parts.rest) (run-replay (new_state run) m parts.front middle.1) middle.2 (omega (arith, opened.0), opened.1) refl in
    let onward : List Event = signal_events (parts.decision ∷ parts.rest) in
    let kinds : List EventKind = repeated_kinds run onward in
    let all : replay_kinds (new_state new) version (reset_kinds run point history) ≡ Ok later.0 =
    subst (λ (k : List EventKind). replay_kinds (new_state new) version k ≡ Ok later.0) (sym (reset-parts run point history parts.front onward parts.before parts.onward))
    (three-parts (new_state new) reached again later.0 version (repeated_kinds run parts.front) kinds front.1 (replay_kinds-failed reached version (codes "reset") kinds opened started) later.1) in
    let goes_on : GoesOn s new later.0 =
    record { run_is = later.2.run_is; is_open = later.2.is_open; pending = ap is_some later.2.decision; origins = later.2.origins } in
    subst (λ (r : Result StateValue StateError). IsOkAnd r (GoesOn s new)) (sym all) goes_on
