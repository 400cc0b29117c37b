-- The events before a point, repeated in another run.
use Rattle.std.proofs.Common.{◌≡◌, ℕ, List, [], ◌∷◌, None, Ok, refl, ap, sym, ◌∙◌, subst}
use Rattle.std.proofs.lemmas.Bool.{eqb-true}
use Rattle.ndc_event.specs.declared.batch.Event.{Event}
use Rattle.ndc_event.specs.declared.key.RunId.{RunId}
use Rattle.ndc_event.specs.declared.kind.EventKind.{EventKind}
use Rattle.ndc_event.specs.declared.kind.EventKind.TheVariants.{WorkflowExecutionSignaled, MarkerRecorded}
use Rattle.ndc_state.specs.Replay.{replay}
use Rattle.ndc_state.specs.Table.{Row, row, rule_of, is_start, after}
use Rattle.ndc_state.specs.Value.{StateValue}
use Rattle.ndc_state.specs.Written.{replay_kinds}
use Rattle.ndc_state.proofs.ReplayLemmas.{replay-cons}
use Rattle.ndc_state.proofs.RowLemmas.{IsAllowed-rule_of, run-row}
use Rattle.ndc_reapply.proofs.WrittenLemmas.{replay_kinds-cons}
use Rattle.ndc_reset.specs.Reset.{repeated, repeated_kinds}

-- the state in another run, with another version
abbrev pub moved : StateValue → RunId → ℕ → StateValue
moved s run v = record s { run = run; version = v }

abbrev moved_row : Row → RunId → ℕ → Row
moved_row r run v = record r { effect = moved r.effect run v }

-- the table asks of a repeated kind what it asks of the kind, and makes the same of the state
row-moved : (s : StateValue) (run : RunId) (v id version n : ℕ) (kind : EventKind) → row (moved s run v) id n (repeated s.run id version kind) ≡ moved_row (row s id version kind) run v
unfolding row
row-moved s run v id version n (WorkflowExecutionSignaled _ _ _) = refl
row-moved s run v id version n (MarkerRecorded _) = refl
row-moved s run v id version n _ = refl

is_start-repeated : (run : RunId) (id version : ℕ) (kind : EventKind) → is_start (repeated run id version kind) ≡ is_start kind
is_start-repeated run id version (WorkflowExecutionSignaled _ _ _) = refl
is_start-repeated run id version _ = refl

-- the event as the other run has it
abbrev repeat_of : RunId → ℕ → ℕ → Event → Event
repeat_of run n id event = record { id = id; version = n; kind = repeated run event.id event.version event.kind }

rule_of-moved : (s : StateValue) (run : RunId) (v n : ℕ) (event : Event) → rule_of (moved s run v) (repeat_of s.run n event.id event) ≡ rule_of s event
rule_of-moved s run v n event = rw (is_start-repeated s.run event.id event.version event.kind, row-moved s run v event.id event.version n event.kind) refl

after-moved : (s : StateValue) (run : RunId) (v n : ℕ) (event : Event) → after (moved s run v) (repeat_of s.run n event.id event) ≡ moved (after s event) run n
after-moved s run v n event = rw (row-moved s run v event.id event.version n event.kind) refl

-- an event that is allowed is allowed where it is repeated
moved-step : (s : StateValue) (run : RunId) (v n : ℕ) (event : Event) (kinds : List EventKind) → event.id ≡ s.next → rule_of s event ≡ None
    → replay_kinds (moved s run v) n (repeated s.run event.id event.version event.kind ∷ kinds) ≡ replay_kinds (moved (after s event) run n) n kinds
moved-step s run v n event kinds id h =
    let allowed : rule_of (moved s run v) (repeat_of s.run n s.next event) ≡ None =
    ap (λ i. rule_of (moved s run v) (repeat_of s.run n i event)) (sym id) ∙ rule_of-moved s run v n event ∙ h in
    let behind : after (moved s run v) (repeat_of s.run n s.next event) ≡ moved (after s event) run n =
    ap (λ i. after (moved s run v) (repeat_of s.run n i event)) (sym id) ∙ after-moved s run v n event in
    replay_kinds-cons (moved s run v) n (repeated s.run event.id event.version event.kind) kinds allowed ∙ ap (λ t. replay_kinds t n kinds) behind

-- events that replay do so where another run repeats them
pub moved-replay : (own : RunId) (s t : StateValue) (run : RunId) (v n : ℕ) (events : List Event) → s.run ≡ own → replay s events ≡ Ok t
    → (w : ℕ) × (replay_kinds (moved s run v) n (repeated_kinds own events) ≡ Ok (moved t run w))
moved-replay own s t run v n [] same h = let e : s ≡ t = cc in (v, ap (λ x. Ok (moved x run v)) e)
moved-replay own s t run v n (event ∷ events) same h =
    let p = replay-cons s t event events h in
    let tail = moved-replay own (after s event) t run n n events (run-row s event.id event.version event.kind ∙ same) p.1 in
    let head : replay_kinds (moved s run v) n (repeated own event.id event.version event.kind ∷ repeated_kinds own events) ≡ replay_kinds (moved (after s event) run n) n (repeated_kinds own events) =
    subst (λ (r : RunId). replay_kinds (moved s run v) n (repeated r event.id event.version event.kind ∷ repeated_kinds own events) ≡ replay_kinds (moved (after s event) run n) n (repeated_kinds own events)) same
    (moved-step s run v n event (repeated_kinds own events) (eqb-true event.id s.next (IsAllowed-rule_of s event p.0).next) p.0) in
    (tail.0, head ∙ tail.1)
