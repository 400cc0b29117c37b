-- What commands write may be written there: case by case of the tables.
use Rattle.std.proofs.Common.{◌≡◌, ℕ, ◌<◌, Bool, true, false, ◌&&◌, not, is_some, is_none, List, [], ◌∷◌, ◌++◌, Option, None, Some, Result, Ok, Err, refl, ap, subst, ◌∙◌, arith}
use Rattle.ndc_event.specs.declared.key.RunId.{RunId}
use Rattle.ndc_event.specs.declared.kind.EventKind.{EventKind}
use Rattle.ndc_event.specs.declared.kind.EventKind.TheVariants as kind
use Rattle.ndc_state.specs.declared.pendings.Pending.{Pending}
use Rattle.ndc_state.specs.declared.rule.Rule.TheVariants as rule
use Rattle.ndc_state.specs.Origins.{is_among, origin_of}
use Rattle.ndc_state.specs.Pendings.{pending_of, is_waiting, is_started}
use Rattle.ndc_state.specs.Table.{row, rule_of, is_start, needs}
use Rattle.ndc_state.specs.Value.{StateValue}
use Rattle.ndc_command.specs.declared.command.Action.{Action}
use Rattle.ndc_command.specs.declared.command.Action.TheVariants.{Activity, Timer, Untimer, Child, Marker, Complete, Fail, Canceled, Continue}
use Rattle.ndc_command.specs.declared.command.Command.{Command}
use Rattle.ndc_command.specs.declared.command.Command.TheVariants.{Start, Signal, Cancel, Terminate, Decide, Respond, FailDecision, TimeoutDecision, ActivityStart, ActivityDone, ActivityFail, ActivityTimeout, Fire, ChildStart, ChildDone, ChildFail}
use Rattle.ndc_command.specs.declared.refusal.CommandError.{CommandError}
use Rattle.ndc_command.specs.declared.refusal.Refusal.{Refusal}
use Rattle.ndc_command.specs.declared.refusal.Refusal.TheVariants.{Closed, DuplicateActivity, NoSuchTimer, DuplicateTimer, DuplicateChild}
use Rattle.ndc_command.specs.Actions.{names_of, action_kind, action_refusal, judged, behind, after_kind, actions_written}
use Rattle.ndc_command.specs.Laws.{begins_run}
use Rattle.ndc_command.specs.Plan.{written, woken}
use Rattle.ndc_command.specs.Stage.{stage_by, stage_of, refuse, needs_pending, needs_waiting, needs_started, allowed, ◌>>◌}
use Rattle.ndc_command.proofs.AllowedLemmas.{AreAllowed, next_event, rule-none, scheduling, woken-allowed}
use Rattle.ndc_command.proofs.JoinLemmas.{allowed_then, not_refused}

-- what a command needs is so, where it is not refused
needed-pending : (p : Option Pending) (missing : Refusal) → needs_pending (stage_of p) missing ≡ allowed → is_some p ≡ true
unfolding needs_pending
needed-pending None missing h = absurd (cc)
needed-pending (Some pending) missing h = refl

needed-waiting : (p : Option Pending) (missing started : Refusal) → needs_waiting (stage_of p) missing started ≡ allowed → is_waiting p ≡ true
unfolding needs_waiting
needed-waiting None missing started h = absurd (cc)
needed-waiting (Some pending) missing started h = by pending.started h
  where
    by : (o : Option ℕ) → needs_waiting (stage_by o) missing started ≡ allowed → is_none o ≡ true
    by None h = refl
    by (Some id) h = absurd (cc)

needed-started : (p : Option Pending) (missing waiting : Refusal) → needs_started (stage_of p) missing waiting ≡ allowed → is_started p ≡ true
unfolding needs_started
needed-started None missing waiting h = absurd (cc)
needed-started (Some pending) missing waiting h = by pending.started h
  where
    by : (o : Option ℕ) → needs_started (stage_by o) missing waiting ≡ allowed → is_some o ≡ true
    by None h = absurd (cc)
    by (Some id) h = refl

is_none-of : {A : Type 0} (o : Option A) → is_some o ≡ false → is_none o ≡ true
is_none-of None h = refl
is_none-of (Some x) h = absurd (cc)

not-false : (b : Bool) → not b ≡ false → b ≡ true
not-false true h = refl
not-false false h = absurd (cc)

-- the kinds of a result that is put after others
pub behind-Ok : (front kinds : List EventKind) (r : Result (List EventKind) CommandError) → behind front r ≡ Ok kinds → (rest : List EventKind) × ((r ≡ Ok rest) × (front ++ rest ≡ kinds))
behind-Ok front kinds (Ok rest) h = (rest, (refl, cc))
behind-Ok front kinds (Err error) h = absurd (cc)

-- no action is a start, or touches the decision
action-other : (next_run : RunId) (action : Action) → is_start (action_kind next_run action) ≡ false
unfolding action_kind
action-other next_run (Activity _ _) = refl
action-other next_run (Timer _) = refl
action-other next_run (Untimer _) = refl
action-other next_run (Child _ _) = refl
action-other next_run (Marker _) = refl
action-other next_run (Complete _) = refl
action-other next_run (Fail _) = refl
action-other next_run Canceled = refl
action-other next_run (Continue _) = refl

action-decision : (version : ℕ) (next_run : RunId) (s : StateValue) (action : Action) → (after_kind version s (action_kind next_run action)).decision ≡ s.decision
unfolding row action_kind
action-decision version next_run s (Activity _ _) = refl
action-decision version next_run s (Timer _) = refl
action-decision version next_run s (Untimer _) = refl
action-decision version next_run s (Child _ _) = refl
action-decision version next_run s (Marker _) = refl
action-decision version next_run s (Complete _) = refl
action-decision version next_run s (Fail _) = refl
action-decision version next_run s Canceled = refl
action-decision version next_run s (Continue _) = refl

-- an action that is not refused keeps its event's own rule
action-own : (s : StateValue) (id version : ℕ) (next_run : RunId) (action : Action) → action_refusal (names_of s) action ≡ allowed → (row s id version (action_kind next_run action)).own ≡ None
unfolding row action_kind action_refusal
action-own s id version next_run (Activity a _) h = ap (λ b. needs b rule.Activity) (is_none-of _ (not_refused (is_some (pending_of a s.activities)) DuplicateActivity h))
action-own s id version next_run (Timer t) h = ap (λ b. needs b rule.Timer) (is_none-of _ (not_refused (is_some (pending_of t s.timers)) DuplicateTimer h))
action-own s id version next_run (Untimer t) h = ap (λ b. needs b rule.Timer) (not-false _ (not_refused (not (is_some (pending_of t s.timers))) NoSuchTimer h))
action-own s id version next_run (Child c _) h = ap (λ b. needs b rule.Child) (is_none-of _ (not_refused (is_some (pending_of c s.children)) DuplicateChild h))
action-own s id version next_run (Marker _) h = refl
action-own s id version next_run (Complete _) h = refl
action-own s id version next_run (Fail _) h = refl
action-own s id version next_run Canceled h = refl
action-own s id version next_run (Continue _) h = refl

and-false : (a b : Bool) → b ≡ false → (a && b) ≡ false
and-false true b h = h
and-false false b h = refl

-- what actions write may be written where no decision is pending
actions-allowed : (version : ℕ) (next_run : RunId) (s : StateValue) (actions : List Action) (kinds : List EventKind) → 1 < s.next → is_some s.decision ≡ false
    → actions_written version next_run s actions ≡ Ok kinds → AreAllowed version s kinds
actions-allowed version next_run s [] kinds later none w = let e : [] ≡ kinds = cc in subst (AreAllowed version s) e tt
actions-allowed version next_run s (action ∷ actions) kinds later none w =
    let kind : EventKind = action_kind next_run action in
    let first = allowed_then (judged (names_of s) action) _ kinds w in
    let own = allowed_then (refuse (not s.running) Closed) (action_refusal (names_of s) action) tt first.0 in
    let rest = behind-Ok (kind ∷ []) kinds _ first.1 in
    subst (AreAllowed version s) rest.1.1 (
      rule-none version s kind (action-other next_run action) later (not-false s.running (not_refused (not s.running) Closed own.0))
          (and-false _ (is_some s.decision) none) (action-own s s.next version next_run action own.1),
      actions-allowed version next_run (after_kind version s kind) actions rest.0 (omega arith) (ap is_some (action-decision version next_run s action) ∙ none) rest.1.0,
    )

-- where a command is judged: at an open run that has seen an event, whose next event is none of its origins
pub record IsReady (version : ℕ) (s : StateValue) : Type 0 where
  pub later : 1 < s.next
  pub running : s.running ≡ true
  pub unlisted : is_among (origin_of s.run s.next version None) s.origins ≡ false

module _ (version : ℕ) (s : StateValue) (ready : IsReady version s) where
  -- an event that needs no other decision, and keeps its own rule
  here : (kind : EventKind) → is_start kind ≡ false → (row s s.next version kind).alone ≡ false → (row s s.next version kind).own ≡ None → rule_of s (next_event version s kind) ≡ None
  here kind other alone own = rule-none version s kind other ready.later ready.running (ap (λ b. b && is_some s.decision) alone) own

  plain : (xs kinds : List EventKind) → ◌≡◌ {A = Result (List EventKind) CommandError} (Ok xs) (Ok kinds) → AreAllowed version s xs → AreAllowed version s kinds
  plain xs kinds w h = let e : xs ≡ kinds = cc in subst (AreAllowed version s) e h

  guarded : (first : Result (Unit {0}) CommandError) (xs kinds : List EventKind) → (first >> Ok xs) ≡ Ok kinds → (first ≡ allowed → AreAllowed version s xs) → AreAllowed version s kinds
  guarded first xs kinds w h = let p = allowed_then first (Ok xs) kinds w in plain xs kinds p.1 (h p.0)

  -- such an event that leaves the run open, and what wakes after it
  waking : (kind : EventKind) → is_start kind ≡ false → (row s s.next version kind).alone ≡ false → (row s s.next version kind).own ≡ None → (after_kind version s kind).running ≡ s.running
      → AreAllowed version s (woken version s kind)
  waking kind other alone own same = woken-allowed version s kind (here kind other alone own) ready.later (same ∙ ready.running)

  pub written-allowed : (next_run : RunId) (command : Command) (kinds : List EventKind) → begins_run command ≡ false → written version next_run s command ≡ Ok kinds → AreAllowed version s kinds
  unfolding written row
  written-allowed next_run (Start _) kinds other w = absurd (cc)
  written-allowed next_run (Signal name input) kinds other w =
      plain _ kinds w (waking (kind.WorkflowExecutionSignaled name input None) refl refl (ap (λ b. needs (not b) rule.Origin) ready.unlisted) refl)
  written-allowed next_run Cancel kinds other w = plain _ kinds w (waking kind.WorkflowExecutionCancelRequested refl refl refl refl)
  written-allowed next_run (Terminate reason) kinds other w = plain _ kinds w (here (kind.WorkflowExecutionTerminated reason) refl refl refl, tt)
  written-allowed next_run Decide kinds other w =
      guarded _ _ kinds w (λ h. (here kind.DecisionTaskStarted refl refl (ap (λ b. needs b rule.Task) (needed-waiting s.decision _ _ h)), tt))
  written-allowed next_run (Respond actions) kinds other w =
      let first = allowed_then _ _ kinds w in
      let rest = behind-Ok (kind.DecisionTaskCompleted ∷ []) kinds _ first.1 in
      subst (AreAllowed version s) rest.1.1 (
        here kind.DecisionTaskCompleted refl refl (ap (λ b. needs b rule.Task) (needed-started s.decision _ _ first.0)),
        actions-allowed version next_run (after_kind version s kind.DecisionTaskCompleted) actions rest.0 (omega (arith, ready.later)) refl rest.1.0,
      )
  written-allowed next_run (FailDecision cause) kinds other w =
      guarded _ _ kinds w
      (λ h. (
        here (kind.DecisionTaskFailed cause) refl refl (ap (λ b. needs b rule.Task) (needed-started s.decision _ _ h)),
        scheduling version (after_kind version s (kind.DecisionTaskFailed cause)) (omega (arith, ready.later)) ready.running refl,
      ))
  written-allowed next_run TimeoutDecision kinds other w =
      guarded _ _ kinds w
      (λ h. (
        here kind.DecisionTaskTimedOut refl refl (ap (λ b. needs b rule.Task) (needed-started s.decision _ _ h)),
        scheduling version (after_kind version s kind.DecisionTaskTimedOut) (omega (arith, ready.later)) ready.running refl,
      ))
  written-allowed next_run (ActivityStart id) kinds other w =
      guarded _ _ kinds w (λ h. (here (kind.ActivityTaskStarted id) refl refl (ap (λ b. needs b rule.Activity) (needed-waiting (pending_of id s.activities) _ _ h)), tt))
  written-allowed next_run (ActivityDone id result) kinds other w =
      guarded _ _ kinds w (λ h. waking (kind.ActivityTaskCompleted id result) refl refl (ap (λ b. needs b rule.Activity) (needed-started (pending_of id s.activities) _ _ h)) refl)
  written-allowed next_run (ActivityFail id reason) kinds other w =
      guarded _ _ kinds w (λ h. waking (kind.ActivityTaskFailed id reason) refl refl (ap (λ b. needs b rule.Activity) (needed-started (pending_of id s.activities) _ _ h)) refl)
  written-allowed next_run (ActivityTimeout id) kinds other w =
      guarded _ _ kinds w (λ h. waking (kind.ActivityTaskTimedOut id) refl refl (ap (λ b. needs b rule.Activity) (needed-pending (pending_of id s.activities) _ h)) refl)
  written-allowed next_run (Fire id) kinds other w =
      guarded _ _ kinds w (λ h. waking (kind.TimerFired id) refl refl (ap (λ b. needs b rule.Timer) (needed-pending (pending_of id s.timers) _ h)) refl)
  written-allowed next_run (ChildStart id) kinds other w =
      guarded _ _ kinds w (λ h. waking (kind.ChildWorkflowExecutionStarted id) refl refl (ap (λ b. needs b rule.Child) (needed-waiting (pending_of id s.children) _ _ h)) refl)
  written-allowed next_run (ChildDone id result) kinds other w =
      guarded _ _ kinds w (λ h. waking (kind.ChildWorkflowExecutionCompleted id result) refl refl (ap (λ b. needs b rule.Child) (needed-started (pending_of id s.children) _ _ h)) refl)
  written-allowed next_run (ChildFail id reason) kinds other w =
      guarded _ _ kinds w (λ h. waking (kind.ChildWorkflowExecutionFailed id reason) refl refl (ap (λ b. needs b rule.Child) (needed-started (pending_of id s.children) _ _ h)) refl)
