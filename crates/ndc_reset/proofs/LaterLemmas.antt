-- The signals from a point on, repeated in another run.
use Rattle.std.proofs.Common.{◌≡◌, ℕ, Bool, true, false, not, List, [], ◌∷◌, ◌++◌, Option, None, Some, Ok, if◌then◌else◌, refl, ap, sym, ◌∙◌, subst, arith}
use Rattle.ndc_event.specs.declared.batch.Event.{Event}
use Rattle.ndc_event.specs.declared.key.Origin.{Origin}
use Rattle.ndc_event.specs.declared.key.RunId.{RunId}
use Rattle.ndc_event.specs.declared.kind.EventKind.{EventKind}
use Rattle.ndc_event.specs.declared.kind.EventKind.TheVariants.{WorkflowExecutionSignaled}
use Rattle.ndc_state.specs.declared.rule.Rule.{Rule}
use Rattle.ndc_state.specs.declared.rule.Rule.TheVariants.{Origin as OriginRule}
use Rattle.ndc_state.specs.Origins.{is_among, origin_of}
use Rattle.ndc_state.specs.Replay.{replay, collected_by}
use Rattle.ndc_state.specs.Table.{row, after, needs}
use Rattle.ndc_state.specs.Value.{StateValue}
use Rattle.ndc_state.specs.Written.{replay_kinds}
use Rattle.ndc_state.proofs.ReplayLemmas.{replay-cons}
use Rattle.ndc_state.proofs.RowLemmas.{IsAllowed-rule_of, run-row, origins-row}
use Rattle.ndc_reapply.specs.Laws.{IsOpen}
use Rattle.ndc_reapply.proofs.WrittenLemmas.{replay_kinds-copy, with_signal}
use Rattle.ndc_reset.specs.Reset.{is_signal, repeated, repeated_kinds}
use Rattle.ndc_reset.proofs.PointLemmas.{signal_events}

-- the attributes of a signal
record Signal (kind : EventKind) : Type 0 where
  name : List ℕ
  input : List ℕ
  from : Option Origin
  is : kind ≡ WorkflowExecutionSignaled name input from

signal_in : (kind : EventKind) → is_signal kind ≡ true → Signal kind
signal_in (WorkflowExecutionSignaled name input from) h = record { name = name; input = input; from = from; is = refl }
signal_in _ h = absurd (cc)

-- another kind lists no origin
collected_by-other : (run : RunId) (id v : ℕ) (kind : EventKind) (origins : List Origin) → is_signal kind ≡ false → collected_by run id v kind origins ≡ origins
collected_by-other run id v (WorkflowExecutionSignaled _ _ _) origins h = absurd (cc)
collected_by-other run id v _ origins h = refl

needs-not : (b : Bool) (rule : Rule) → needs (not b) rule ≡ None → b ≡ false
needs-not true rule h = absurd (cc)
needs-not false rule h = refl

-- a signal that is allowed has a new origin
new-signal : (s : StateValue) (id v : ℕ) (name input : List ℕ) (from : Option Origin) → (row s id v (WorkflowExecutionSignaled name input from)).own ≡ None
    → is_among (origin_of s.run id v from) s.origins ≡ false
unfolding row
new-signal s id v name input from h = needs-not (is_among (origin_of s.run id v from) s.origins) OriginRule h

-- and it goes last
last-signal : (s : StateValue) (id v : ℕ) (name input : List ℕ) (from : Option Origin)
    → (row s id v (WorkflowExecutionSignaled name input from)).effect.origins ≡ s.origins ++ origin_of s.run id v from ∷ []
unfolding row
last-signal s id v name input from = refl

-- what a state is after the later signals: open, with its decision, and the origins of the old state
pub record IsLater (before old now : StateValue) : Type 0 where
  pub run_is : now.run ≡ before.run
  pub is_open : IsOpen now
  pub decision : now.decision ≡ before.decision
  pub origins : now.origins ≡ old.origins

-- the signals of events that replay are new where their copies stand on the same origins
pub later-replay : (own : RunId) (s t u : StateValue) (v : ℕ) (events : List Event) → s.run ≡ own → replay s events ≡ Ok t → IsOpen u → u.origins ≡ s.origins
    → (w : StateValue) × (replay_kinds u v (repeated_kinds own (signal_events events)) ≡ Ok w) × IsLater u t w
later-replay own s t u v [] same h opened e =
    let end : s ≡ t = cc in (u, refl, record { run_is = refl; is_open = opened; decision = refl; origins = e ∙ ap (λ x. x.origins) end })
later-replay own s t u v (event ∷ events) same h opened e =
    by (is_signal event.kind) refl
    (λ x is_open origins. later-replay own (after s event) t x v events (run-row s event.id event.version event.kind ∙ same) (replay-cons s t event events h).1 is_open origins)
  where
    own_rule : (row s event.id event.version event.kind).own ≡ None
    own_rule = (IsAllowed-rule_of s event (replay-cons s t event events h).0).own

    Answer : StateValue → List Event → Type 0
    Answer x later = (w : StateValue) × (replay_kinds x v (repeated_kinds own later) ≡ Ok w) × IsLater x t w

    by : (b : Bool) → is_signal event.kind ≡ b
        → ((x : StateValue) → IsOpen x → x.origins ≡ (after s event).origins → Answer x (signal_events events))
        → Answer u (if b then event ∷ signal_events events else signal_events events)
    by true k rest =
        let signal = signal_in event.kind k in
        let o : Origin = origin_of s.run event.id event.version signal.from in
        let x : StateValue = with_signal u v o in
        let new : is_among o s.origins ≡ false =
        new-signal s event.id event.version signal.name signal.input signal.from
        (subst (λ (kind : EventKind). (row s event.id event.version kind).own ≡ None) signal.is own_rule) in
        let last : (after s event).origins ≡ s.origins ++ o ∷ [] =
        ap (λ kind. (row s event.id event.version kind).effect.origins) signal.is ∙ last-signal s event.id event.version signal.name signal.input signal.from in
        let copy : repeated own event.id event.version event.kind ≡ WorkflowExecutionSignaled signal.name signal.input (Some o) =
        ap (repeated own event.id event.version) signal.is
        ∙ ap (λ run. WorkflowExecutionSignaled signal.name signal.input (Some (origin_of run event.id event.version signal.from))) (sym same) in
        let tail = rest x (omega (arith, opened.0), opened.1) (ap (λ l. l ++ o ∷ []) e ∙ sym last) in
        let later : List EventKind = repeated_kinds own (signal_events events) in (
          tail.0,
          ap (λ kind. replay_kinds u v (kind ∷ later)) copy
              ∙ replay_kinds-copy u v signal.name signal.input o later opened (ap (is_among o) e ∙ new) ∙ tail.1,
          record { run_is = tail.2.run_is; is_open = tail.2.is_open; decision = tail.2.decision; origins = tail.2.origins },
        )
    by false k rest =
        rest u opened
        (e ∙ sym (origins-row s event.id event.version event.kind own_rule ∙ collected_by-other s.run event.id event.version event.kind s.origins k))
