-- The state at which a command is judged, against that of the tip.
use Rattle.std.proofs.Common.{◌≡◌, ◌≤◌, ℕ, Bool, true, false, nat_lt, is_some, List, [], ◌∷◌, ◌++◌, append_assoc, Option, None, Some, codes, if◌then◌else◌, refl, ap, sym, ◌∙◌, arith}
use Rattle.std.proofs.lemmas.Bool.{and_parts}
use Rattle.ndc_event.specs.declared.kind.EventKind.{EventKind}
use Rattle.ndc_event.specs.declared.kind.EventKind.TheVariants.{DecisionTaskScheduled, DecisionTaskFailed}
use Rattle.ndc_state.specs.declared.pendings.Pending.{Pending}
use Rattle.ndc_state.specs.Pendings.{is_started}
use Rattle.ndc_state.specs.Table.{row}
use Rattle.ndc_state.specs.Value.{StateValue}
use Rattle.ndc_state.specs.Written.{is_failover_close_due, wake}
use Rattle.ndc_command.specs.declared.stage.Stage.TheVariants.{Waiting}
use Rattle.ndc_command.specs.Actions.{after_kinds}
use Rattle.ndc_command.specs.Plan.{judged_at}
use Rattle.ndc_command.specs.Stage.{stage_of}

-- the failover close touches nothing but the decision, the next id and the version
pub record IsJudgedLike (s t : StateValue) (due : Bool) : Type 0 where
  pub run : t.run ≡ s.run
  pub next : s.next ≤ t.next
  pub running : t.running ≡ s.running
  pub activities : t.activities ≡ s.activities
  pub timers : t.timers ≡ s.timers
  pub children : t.children ≡ s.children
  pub origins : t.origins ≡ s.origins
  pub decision : stage_of t.decision ≡ (if due then Waiting else stage_of s.decision)
  pub wake : wake t ≡ wake s

-- what is started is pending
started-pending : (pending : Option Pending) → is_started pending ≡ true → is_some pending ≡ true
started-pending None h = absurd (cc)
started-pending (Some pending) h = refl

pub judged-like : (s : StateValue) (version : ℕ) → IsJudgedLike s (judged_at s version) (is_failover_close_due s version)
unfolding judged_at row
judged-like s version = by (is_failover_close_due s version) refl
  where
    close : List EventKind
    close = DecisionTaskFailed (codes "failoverClose") ∷ DecisionTaskScheduled ∷ []

    by : (due : Bool) → is_failover_close_due s version ≡ due → IsJudgedLike s (after_kinds version s (if due then close else [])) due
    by true e =
        let pending : is_some s.decision ≡ true = started-pending s.decision (and_parts (nat_lt s.version version) (is_started s.decision) e).1 in
        record {
          run = refl;
          next = omega arith;
          running = refl;
          activities = refl;
          timers = refl;
          children = refl;
          origins = refl;
          decision = refl;
          wake = sym (ap (λ b. if b then [] else DecisionTaskScheduled ∷ []) pending);
        }
    by false e = record { run = refl; next = omega arith; running = refl; activities = refl; timers = refl; children = refl; origins = refl; decision = refl; wake = refl }

pub decision_stage : (s : StateValue) (version : ℕ) → stage_of (judged_at s version).decision ≡ (if is_failover_close_due s version then Waiting else stage_of s.decision)
decision_stage s version = (judged-like s version).decision

pub activities_same : (s : StateValue) (version : ℕ) → (judged_at s version).activities ≡ s.activities
activities_same s version = (judged-like s version).activities

pub timers_same : (s : StateValue) (version : ℕ) → (judged_at s version).timers ≡ s.timers
timers_same s version = (judged-like s version).timers

pub children_same : (s : StateValue) (version : ℕ) → (judged_at s version).children ≡ s.children
children_same s version = (judged-like s version).children

pub wake_same : (s : StateValue) (version : ℕ) → wake (judged_at s version) ≡ wake s
wake_same s version = (judged-like s version).wake

-- an event and what wakes after it, put after other kinds in two steps
pub woken_behind : (s : StateValue) (version : ℕ) (before pushed now : List EventKind) (kind : EventKind)
    → pushed ≡ before ++ kind ∷ [] → now ≡ pushed ++ wake s → now ≡ before ++ kind ∷ wake (judged_at s version)
woken_behind s version before pushed now kind one two =
    two ∙ ap (λ kinds. kinds ++ wake s) one ∙ append_assoc before (kind ∷ []) (wake s) ∙ ap (λ more. before ++ kind ∷ more) (sym (wake_same s version))
