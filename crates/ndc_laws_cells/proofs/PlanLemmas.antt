-- What a command plans below a tip: its row's kinds, between the failover close and a decision that is scheduled.
use Rattle.std.proofs.Common.{◌≡◌, ◌+◌, ◌-◌, ℕ, Bool, true, false, not, nat_lt, is_some, codes, List, [], ◌∷◌, ◌++◌, length, map, Some, None, Result, Ok, Err, refl, ◌∙◌, subst, ap}
use Rattle.std.specs.Prelude.{if◌then◌else◌}
use Rattle.std.specs.List.{AllByRecursion}
use Rattle.ndc_command.specs.declared.command.Action.{Action}
use Rattle.ndc_command.specs.declared.command.Command.{Command}
use Rattle.ndc_command.specs.declared.command.Command.TheVariants.{Start, Signal, Cancel, Terminate, Decide, Respond, FailDecision, TimeoutDecision, ActivityStart, ActivityDone, ActivityFail, ActivityTimeout, Fire, ChildStart, ChildDone, ChildFail}
use Rattle.ndc_command.specs.declared.refusal.CommandError.{CommandError}
use Rattle.ndc_command.specs.declared.refusal.Refusal.TheVariants.{Closed, HistoryFull}
use Rattle.ndc_command.specs.Actions.{action_kind, actions_written, after_kind, behind, judged, names_of}
use Rattle.ndc_command.specs.Laws.{begins_run}
use Rattle.ndc_command.specs.Plan.{judged_at, plan_below, plan_of, within, woken, written}
use Rattle.ndc_command.specs.Stage.{refuse}
use Rattle.ndc_command.proofs.JoinLemmas.{allowed_then}
use Rattle.ndc_command.proofs.WrittenLemmas.{behind-Ok}
use Rattle.ndc_event.specs.Outcome.{◌>>=◌}
use Rattle.ndc_event.specs.declared.key.RunId.{RunId}
use Rattle.ndc_event.specs.declared.kind.EventKind.{EventKind}
use Rattle.ndc_event.specs.declared.kind.EventKind.TheVariants as kind
use Rattle.ndc_model_sets.proofs.Lists.{all-join}
use Rattle.ndc_state.specs.Value.{StateValue}
use Rattle.ndc_state.specs.Written.{failover_close, is_failover_close_due, wake}

-- the kinds that the row of a command names, where a run that goes on does so as this one
abbrev pub kinds_by : RunId → Command → List EventKind
kinds_by run (Start workflow_type) = []
kinds_by run (Signal name input) = kind.WorkflowExecutionSignaled name input None ∷ []
kinds_by run Cancel = kind.WorkflowExecutionCancelRequested ∷ []
kinds_by run (Terminate reason) = kind.WorkflowExecutionTerminated reason ∷ []
kinds_by run Decide = kind.DecisionTaskStarted ∷ []
kinds_by run (Respond actions) = kind.DecisionTaskCompleted ∷ map (action_kind run) actions
kinds_by run (FailDecision cause) = kind.DecisionTaskFailed cause ∷ []
kinds_by run TimeoutDecision = kind.DecisionTaskTimedOut ∷ []
kinds_by run (ActivityStart id) = kind.ActivityTaskStarted id ∷ []
kinds_by run (ActivityDone id result) = kind.ActivityTaskCompleted id result ∷ []
kinds_by run (ActivityFail id reason) = kind.ActivityTaskFailed id reason ∷ []
kinds_by run (ActivityTimeout id) = kind.ActivityTaskTimedOut id ∷ []
kinds_by run (Fire id) = kind.TimerFired id ∷ []
kinds_by run (ChildStart id) = kind.ChildWorkflowExecutionStarted id ∷ []
kinds_by run (ChildDone id result) = kind.ChildWorkflowExecutionCompleted id result ∷ []
kinds_by run (ChildFail id reason) = kind.ChildWorkflowExecutionFailed id reason ∷ []

-- kinds as what is written
abbrev pub answered : List EventKind → Result (List EventKind) CommandError
answered kinds = Ok kinds

-- what actions write is the kind of each
actions-are : (version : ℕ) (run : RunId) (s : StateValue) (actions : List Action) (kinds : List EventKind) → actions_written version run s actions ≡ Ok kinds → map (action_kind run) actions ≡ kinds
actions-are version run s [] kinds w = cc
actions-are version run s (one ∷ actions) kinds w =
    let first = allowed_then (judged (names_of s) one) _ kinds w in
    let rest = behind-Ok (action_kind run one ∷ []) kinds _ first.1 in
    ap (λ l. action_kind run one ∷ l) (actions-are version run (after_kind version s (action_kind run one)) actions rest.0 rest.1.0) ∙ rest.1.1

-- what is planned below a tip: the failover close, and then what the row writes
pub record IsPlanned (s : StateValue) (command : Command) (version : ℕ) (run : RunId) (kinds : List EventKind) : Type 0 where
  pub own : List EventKind
  pub from : written version run (judged_at s version) command ≡ Ok own
  pub whole : failover_close s version ++ own ≡ kinds

pub planned-below : (s : StateValue) (command : Command) (version limit : ℕ) (run : RunId) (kinds : List EventKind) → begins_run command ≡ false
    → plan_of (Some s) command version limit run ≡ Ok kinds → IsPlanned s command version run kinds
unfolding plan_of plan_below within
planned-below s (Start _) version limit run kinds other h = absurd (cc)
planned-below s command version limit run kinds other h =
    let first = allowed_then (refuse (not s.running) Closed) _ kinds h in
    by (behind (failover_close s version) (written version run (judged_at s version) command)) refl first.1
  where
    by : (r : Result (List EventKind) CommandError) → behind (failover_close s version) (written version run (judged_at s version) command) ≡ r
        → (r >>= λ all. within limit (s.next - 1) all) ≡ Ok kinds → IsPlanned s command version run kinds
    by (Ok all) e w =
        let fit = allowed_then (refuse (nat_lt limit ((s.next - 1) + length all)) HistoryFull) (Ok all) kinds w in
        let same : all ≡ kinds = cc in
        let rest = behind-Ok (failover_close s version) all _ e in
        record { own = rest.0; from = rest.1.0; whole = rest.1.1 ∙ same }
    by (Err error) e w = absurd (cc)

-- what holds of the scheduling of a decision, and of the kinds of its row, holds of all kinds that a command writes
module _ (P : EventKind → Type 0) (scheduled : P kind.DecisionTaskScheduled) where
  abbrev Each : List EventKind → Type 0
  Each kinds = AllByRecursion P kinds

  pub wake-each : (s : StateValue) → Each (wake s)
  wake-each s = by (is_some s.decision)
    where
      by : (some : Bool) → Each (if some then [] else kind.DecisionTaskScheduled ∷ [])
      by true = tt
      by false = (scheduled, tt)

  woken-each : (version : ℕ) (s : StateValue) (one : EventKind) (kinds : List EventKind) → answered (woken version s one) ≡ Ok kinds → P one → Each kinds
  woken-each version s one kinds e p = let same : woken version s one ≡ kinds = cc in subst Each same (p, wake-each (after_kind version s one))

  these-each : (all kinds : List EventKind) → answered all ≡ Ok kinds → Each all → Each kinds
  these-each all kinds e each = let same : all ≡ kinds = cc in subst Each same each

  pub row-each : (version : ℕ) (run : RunId) (s : StateValue) (command : Command) (kinds : List EventKind) → begins_run command ≡ false
      → Each (kinds_by run command) → written version run s command ≡ Ok kinds → Each kinds
  unfolding written
  row-each version run s (Start _) kinds other own w = absurd (cc)
  row-each version run s (Signal _ _) kinds other own w = woken-each version s _ kinds w own.0
  row-each version run s Cancel kinds other own w = woken-each version s _ kinds w own.0
  row-each version run s (Terminate _) kinds other own w = these-each _ kinds w own
  row-each version run s Decide kinds other own w = these-each _ kinds (allowed_then _ _ kinds w).1 own
  row-each version run s (Respond actions) kinds other own w =
      let rest = behind-Ok (kind.DecisionTaskCompleted ∷ []) kinds _ (allowed_then _ _ kinds w).1 in
      subst Each rest.1.1 (own.0, subst Each (actions-are version run _ actions rest.0 rest.1.0) own.1)
  row-each version run s (FailDecision cause) kinds other own w = these-each (kind.DecisionTaskFailed cause ∷ kind.DecisionTaskScheduled ∷ []) kinds (allowed_then _ _ kinds w).1 (own.0, (scheduled, tt))
  row-each version run s TimeoutDecision kinds other own w = these-each (kind.DecisionTaskTimedOut ∷ kind.DecisionTaskScheduled ∷ []) kinds (allowed_then _ _ kinds w).1 (own.0, (scheduled, tt))
  row-each version run s (ActivityStart _) kinds other own w = these-each _ kinds (allowed_then _ _ kinds w).1 own
  row-each version run s (ActivityDone _ _) kinds other own w = woken-each version s _ kinds (allowed_then _ _ kinds w).1 own.0
  row-each version run s (ActivityFail _ _) kinds other own w = woken-each version s _ kinds (allowed_then _ _ kinds w).1 own.0
  row-each version run s (ActivityTimeout _) kinds other own w = woken-each version s _ kinds (allowed_then _ _ kinds w).1 own.0
  row-each version run s (Fire _) kinds other own w = woken-each version s _ kinds (allowed_then _ _ kinds w).1 own.0
  row-each version run s (ChildStart _) kinds other own w = woken-each version s _ kinds (allowed_then _ _ kinds w).1 own.0
  row-each version run s (ChildDone _ _) kinds other own w = woken-each version s _ kinds (allowed_then _ _ kinds w).1 own.0
  row-each version run s (ChildFail _ _) kinds other own w = woken-each version s _ kinds (allowed_then _ _ kinds w).1 own.0

  module _ (closed : P (kind.DecisionTaskFailed (codes "failoverClose"))) where
    pub close-each : (s : StateValue) (version : ℕ) → Each (failover_close s version)
    close-each s version = by (is_failover_close_due s version)
      where
        by : (due : Bool) → Each (if due then kind.DecisionTaskFailed (codes "failoverClose") ∷ kind.DecisionTaskScheduled ∷ [] else [])
        by true = (closed, (scheduled, tt))
        by false = tt

    pub planned-each : (s : StateValue) (command : Command) (version limit : ℕ) (run : RunId) (kinds : List EventKind) → Each (kinds_by run command)
        → begins_run command ≡ false → plan_of (Some s) command version limit run ≡ Ok kinds → Each kinds
    planned-each s command version limit run kinds own other h =
        let p = planned-below s command version limit run kinds other h in
        subst Each p.whole (all-join P (failover_close s version) p.own (close-each s version) (row-each version run (judged_at s version) command p.own other own p.from))
