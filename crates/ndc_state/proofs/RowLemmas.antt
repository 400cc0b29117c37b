-- The table of events, case by case.
use Rattle.std.proofs.Common.{◌≡◌, ℕ, Bool, true, false, ◌&&◌, ◌||◌, ◌==◌, not, is_none, is_some, List, [], ◌∷◌, ◌++◌, Option, None, Some, Ok, if◌then◌else◌, refl, ap, sym, ◌∙◌}
use Rattle.ndc_event.specs.declared.batch.Event.{Event}
use Rattle.ndc_event.specs.declared.key.Origin.{Origin}
use Rattle.ndc_event.specs.declared.kind.EventKind.{EventKind}
use Rattle.ndc_event.specs.declared.kind.EventKind.TheVariants.{WorkflowExecutionStarted, WorkflowExecutionSignaled, WorkflowExecutionCompleted, WorkflowExecutionFailed, WorkflowExecutionCanceled, WorkflowExecutionTerminated, WorkflowExecutionContinuedAsNew, MarkerRecorded}
use Rattle.ndc_state.specs.declared.rule.Rule.{Rule}
use Rattle.ndc_state.specs.declared.rule.Rule.TheVariants.{Next, Start, Running, Decision, Origin as OriginRule}
use Rattle.ndc_state.specs.Origins.{is_among, with_origin, origin_of}
use Rattle.ndc_state.specs.Replay.{collected_by}
use Rattle.ndc_state.specs.Table.{row, row_at, rule_of, is_start, is_start_fit, after, applied, applied_under, needs}
use Rattle.ndc_state.specs.Value.{StateValue}

-- a rule that forbids nothing has its test pass
passes : (test : Bool) (rule : Rule) (rest : Option Rule) → (if not test then Some rule else rest) ≡ None → (test ≡ true) × (rest ≡ None)
passes true rule rest h = (refl, h)
passes false rule rest h = absurd (cc)

not_met : (test : Bool) (rule : Rule) (rest : Option Rule) → (if test then Some rule else rest) ≡ None → (test ≡ false) × (rest ≡ None)
not_met true rule rest h = absurd (cc)
not_met false rule rest h = (refl, h)

-- what holds of an event that no rule forbids
pub record IsAllowed (s : StateValue) (event : Event) : Type 0 where
  pub next : (event.id == s.next) ≡ true
  pub start : is_start_fit event ≡ true
  pub running : (is_start event.kind || s.running) ≡ true
  pub own : (row_at s event).own ≡ None

pub IsAllowed-rule_of : (s : StateValue) (event : Event) → rule_of s event ≡ None → IsAllowed s event
IsAllowed-rule_of s event h =
    let a = passes (event.id == s.next) Next _ h in
    let b = passes (is_start_fit event) Start _ a.1 in
    let d = passes (is_start event.kind || s.running) Running _ b.1 in
    let e = not_met ((row_at s event).alone && is_some s.decision) Decision _ d.1 in
    record { next = a.0; start = b.0; running = d.0; own = e.1 }

-- an event that is applied is one that no rule forbids
pub applied-Ok : (s t : StateValue) (event : Event) → applied s event ≡ Ok t → (rule_of s event ≡ None) × (after s event ≡ t)
applied-Ok s t event h = by (rule_of s event) refl h
  where
    by : (r : Option Rule) → rule_of s event ≡ r → applied_under r s event ≡ Ok t → (rule_of s event ≡ None) × (after s event ≡ t)
    by None e h = (e, cc)
    by (Some rule) e h = absurd (cc)

-- no event changes the run
pub run-row : (s : StateValue) (id v : ℕ) (kind : EventKind) → (row s id v kind).effect.run ≡ s.run
unfolding row
run-row s id v (MarkerRecorded _) = refl
run-row s id v _ = refl

-- a signal's origin that is not listed goes last
own-signal : (origin : Origin) (origins : List Origin) → needs (not (is_among origin origins)) OriginRule ≡ None → origins ++ origin ∷ [] ≡ with_origin origin origins
own-signal origin origins h = by (is_among origin origins) h
  where
    by : (b : Bool) → needs (not b) OriginRule ≡ None → origins ++ origin ∷ [] ≡ (if b then origins else origins ++ origin ∷ [])
    by true h = absurd (cc)
    by false h = refl

-- an allowed event lists its origin, where it is a signal
pub origins-row : (s : StateValue) (id v : ℕ) (kind : EventKind) → (row s id v kind).own ≡ None → (row s id v kind).effect.origins ≡ collected_by s.run id v kind s.origins
unfolding row
origins-row s id v (WorkflowExecutionSignaled _ _ from) h = own-signal (origin_of s.run id v from) s.origins h
origins-row s id v _ h = refl

-- how an event leaves the run: open, or closed, as it was open before
pub record Leaves (s after : StateValue) (kind : EventKind) : Type 0 where
  -- a start opens the run
  pub started : is_start kind ≡ true → (after.running ≡ true) × (after.close ≡ s.close)
  -- any other event leaves an open run open, or closes it
  pub other : is_start kind ≡ false → s.running ≡ true → s.close ≡ None → after.running ≡ is_none after.close

pub leaves-row : (s : StateValue) (id v : ℕ) (kind : EventKind) → Leaves s (row s id v kind).effect kind
unfolding row
leaves-row s id v (WorkflowExecutionStarted _) = record { started = λ _. (refl, refl); other = λ e. absurd (cc) }
leaves-row s id v (WorkflowExecutionCompleted _) = record { started = λ e. absurd (cc); other = λ _ _ _. refl }
leaves-row s id v (WorkflowExecutionFailed _) = record { started = λ e. absurd (cc); other = λ _ _ _. refl }
leaves-row s id v WorkflowExecutionCanceled = record { started = λ e. absurd (cc); other = λ _ _ _. refl }
leaves-row s id v (WorkflowExecutionTerminated _) = record { started = λ e. absurd (cc); other = λ _ _ _. refl }
leaves-row s id v (WorkflowExecutionContinuedAsNew _ _) = record { started = λ e. absurd (cc); other = λ _ _ _. refl }
leaves-row s id v _ = record { started = λ e. absurd (cc); other = λ _ r c. r ∙ sym (ap is_none c) }
