-- Kinds written below an open state, one after another.
use Rattle.std.proofs.Common.{◌≡◌, ℕ, ◌+◌, ◌<◌, true, false, ◌&&◌, ◌==◌, is_some, List, [], ◌∷◌, ◌++◌, length, None, Some, Ok, if◌then◌else◌, refl, ap, ◌∙◌, arith}
use Rattle.std.proofs.lemmas.Bool.{eq-eqb}
use Rattle.std.proofs.lemmas.Bool.Decides.{nat_tests}
use Rattle.ndc_event.specs.declared.batch.Event.{Event}
use Rattle.ndc_event.specs.declared.key.Origin.{Origin}
use Rattle.ndc_event.specs.declared.kind.EventKind.{EventKind}
use Rattle.ndc_event.specs.declared.kind.EventKind.TheVariants.{WorkflowExecutionSignaled, DecisionTaskScheduled, DecisionTaskFailed}
use Rattle.ndc_reapply.specs.Laws.{IsOpen}
use Rattle.ndc_state.specs.declared.rule.Rule.TheVariants.{Decision}
use Rattle.ndc_state.specs.Origins.{is_among}
use Rattle.ndc_state.specs.Pendings.{is_started, scheduled_by}
use Rattle.ndc_state.specs.Table.{row, rule_of, is_start, after}
use Rattle.ndc_state.specs.Value.{StateValue}
use Rattle.ndc_state.specs.Written.{events_from, replay_kinds}
use Rattle.ndc_state.proofs.ReplayLemmas.{replay-cons}

-- the event that a kind becomes below a state
abbrev pub written : StateValue → ℕ → EventKind → Event
written s v kind = record { id = s.next; version = v; kind = kind }

-- a kind that no rule forbids, and the others below it
pub replay_kinds-cons : (s : StateValue) (v : ℕ) (kind : EventKind) (kinds : List EventKind) → rule_of s (written s v kind) ≡ None
    → replay_kinds s v (kind ∷ kinds) ≡ replay_kinds (after s (written s v kind)) v kinds
replay_kinds-cons s v kind kinds h = rw h refl

-- kinds in two parts
pub replay_kinds-append : (s t : StateValue) (v : ℕ) (xs ys : List EventKind) → replay_kinds s v xs ≡ Ok t → replay_kinds s v (xs ++ ys) ≡ replay_kinds t v ys
replay_kinds-append s t v [] ys h = let same : s ≡ t = cc in ap (λ n. replay_kinds n v ys) same
replay_kinds-append s t v (kind ∷ xs) ys h =
    let p = replay-cons s t (written s v kind) (events_from (s.next + 1) v xs) h in
    replay_kinds-cons s v kind (xs ++ ys) p.0 ∙ replay_kinds-append (after s (written s v kind)) t v xs ys p.1

-- each kind takes an id
pub next-replay_kinds : (s t : StateValue) (v : ℕ) (kinds : List EventKind) → replay_kinds s v kinds ≡ Ok t → t.next ≡ s.next + length kinds
next-replay_kinds s t v [] h = let same : s ≡ t = cc in omega (arith, ap (λ n. n.next) same)
next-replay_kinds s t v (kind ∷ kinds) h =
    let p = replay-cons s t (written s v kind) (events_from (s.next + 1) v kinds) h in
    omega (arith, next-replay_kinds (after s (written s v kind)) t v kinds p.1)

-- below an open state a kind that is not a start is forbidden by its own rules alone
pub rule_of-open : (s : StateValue) (v : ℕ) (kind : EventKind) → IsOpen s → is_start kind ≡ false
    → rule_of s (written s v kind) ≡ (if (row s s.next v kind).alone && is_some s.decision then Some Decision else (row s s.next v kind).own)
rule_of-open s v kind opened h =
    let later : (s.next == 1) ≡ false = not_first s.next opened.0 in
    rw (eq-eqb s.next s.next refl, h, later, opened.1) refl
  where
    not_first : (n : ℕ) → 1 < n → (n == 1) ≡ false
    not_first n lt = grind (arith, nat_tests)

-- a state after a copy with this origin
abbrev pub with_signal : StateValue → ℕ → Origin → StateValue
with_signal s v origin = record s { next = s.next + 1; version = v; origins = s.origins ++ origin ∷ [] }

-- a copy whose origin is not listed
pub replay_kinds-copy : (s : StateValue) (v : ℕ) (name input : List ℕ) (origin : Origin) (kinds : List EventKind) → IsOpen s → is_among origin s.origins ≡ false
    → replay_kinds s v (WorkflowExecutionSignaled name input (Some origin) ∷ kinds) ≡ replay_kinds (with_signal s v origin) v kinds
unfolding row
replay_kinds-copy s v name input origin kinds opened h =
    replay_kinds-cons s v (WorkflowExecutionSignaled name input (Some origin)) kinds
    (rule_of-open s v (WorkflowExecutionSignaled name input (Some origin)) opened refl ∙ rw h refl)

-- a state after the scheduling of a decision
abbrev pub with_decision : StateValue → ℕ → StateValue
with_decision s v = record s { next = s.next + 1; version = v; decision = Some (scheduled_by s.next) }

-- a decision, where none is pending
pub replay_kinds-scheduled : (s : StateValue) (v : ℕ) (kinds : List EventKind) → IsOpen s → is_some s.decision ≡ false
    → replay_kinds s v (DecisionTaskScheduled ∷ kinds) ≡ replay_kinds (with_decision s v) v kinds
unfolding row
replay_kinds-scheduled s v kinds opened h =
    replay_kinds-cons s v DecisionTaskScheduled kinds (rule_of-open s v DecisionTaskScheduled opened refl ∙ rw h refl)

-- a state whose started decision has failed
abbrev pub with_failure : StateValue → ℕ → StateValue
with_failure s v = record s { next = s.next + 1; version = v; decision = None }

-- a started decision fails, and is scheduled again
pub replay_kinds-failed : (s : StateValue) (v : ℕ) (cause : List ℕ) (kinds : List EventKind) → IsOpen s → is_started s.decision ≡ true
    → replay_kinds s v (DecisionTaskFailed cause ∷ DecisionTaskScheduled ∷ kinds) ≡ replay_kinds (with_decision (with_failure s v) v) v kinds
unfolding row
replay_kinds-failed s v cause kinds opened h =
    replay_kinds-cons s v (DecisionTaskFailed cause) (DecisionTaskScheduled ∷ kinds) (rule_of-open s v (DecisionTaskFailed cause) opened refl ∙ rw h refl)
    ∙ replay_kinds-scheduled (with_failure s v) v kinds (omega arith, opened.1) refl
