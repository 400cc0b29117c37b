-- Actions judged at the states that events leave, and by the names that are pending.
use Rattle.std.proofs.Common.{◌≡◌, ℕ, Bool, true, false, is_some, List, [], ◌∷◌, ◌++◌, Result, Ok, Err, refl, ap, sym, subst, ◌∙◌}
use Rattle.ndc_event.specs.declared.key.RunId.{RunId}
use Rattle.ndc_event.specs.declared.kind.EventKind.{EventKind}
use Rattle.ndc_event.specs.declared.kind.EventKind.TheVariants.{DecisionTaskCompleted}
use Rattle.ndc_state.specs.Pendings.{pending_of, scheduled_by}
use Rattle.ndc_state.specs.Table.{row}
use Rattle.ndc_state.specs.Value.{StateValue}
use Rattle.ndc_command.specs.declared.command.Action.{Action}
use Rattle.ndc_command.specs.declared.command.Action.TheVariants.{Activity, Timer, Untimer, Child, Marker, Complete, Fail, Canceled, Continue}
use Rattle.ndc_command.specs.declared.refusal.CommandError.{CommandError}
use Rattle.ndc_command.specs.declared.refusal.CommandError.TheVariants.{Memory}
use Rattle.ndc_command.specs.declared.refusal.Refusal.{Refusal}
use Rattle.ndc_command.specs.declared.refusal.Refusal.TheVariants.{NoDecision, DecisionNotStarted}
use Rattle.ndc_command.specs.Actions.{names_of, action_kind, judged, behind, after_kind, actions_written}
use Rattle.ndc_command.specs.Judge.{noted, actions_by}
use Rattle.ndc_command.specs.Plan.{judged_at, written}
use Rattle.ndc_command.specs.Stage.{stage_of, needs_started, refuse, allowed, ◌>>◌}
use Rattle.ndc_event.specs.Outcome.{Gives}
use Rattle.ndc_command.specs.declared.stage.Stage.{Stage}
use Rattle.ndc_command.specs.declared.command.Command.TheVariants.{Respond}
use Rattle.ndc_command.proofs.JudgeLemmas.{behind-behind}
use Rattle.ndc_command.proofs.NameLemmas.{pending-put, pending-without}
use Rattle.ndc_command.proofs.TipLemmas.{judged-like}

-- what is pending after an action's event is what the action makes of what was pending
names-after : (version : ℕ) (next_run : RunId) (s : StateValue) (action : Action)
    → names_of (after_kind version s (action_kind next_run action)) ≡ noted action (names_of s)
unfolding row action_kind noted
names-after version next_run s (Activity id _) = λ i. record (names_of s) { activity = λ q. pending-put q id (scheduled_by s.next) s.activities i }
names-after version next_run s (Timer id) = λ i. record (names_of s) { timer = λ q. pending-put q id (scheduled_by s.next) s.timers i }
names-after version next_run s (Untimer id) = λ i. record (names_of s) { timer = λ q. pending-without q id s.timers i }
names-after version next_run s (Child id _) = λ i. record (names_of s) { child = λ q. pending-put q id (scheduled_by s.next) s.children i }
names-after version next_run s (Marker _) = refl
names-after version next_run s (Complete _) = refl
names-after version next_run s (Fail _) = refl
names-after version next_run s Canceled = refl
names-after version next_run s (Continue _) = refl

-- a refusal that is not given has its test fail
pub not_refused : (test : Bool) (refusal : Refusal) → refuse test refusal ≡ allowed → test ≡ false
unfolding refuse
not_refused true refusal h = absurd (cc)
not_refused false refusal h = refl

-- what comes after a first test that allows
pub allowed_then : {A : Type 0} (first : Result (Unit {0}) CommandError) (rest : Result A CommandError) (x : A) → (first >> rest) ≡ Ok x → (first ≡ allowed) × (rest ≡ Ok x)
allowed_then (Ok tt) rest x h = (refl, h)
allowed_then (Err error) rest x h = absurd (cc)

-- the actions are the same in both ways
pub actions-joined : (version : ℕ) (next_run : RunId) (s : StateValue) (actions : List Action)
    → actions_written version next_run s actions ≡ actions_by next_run (names_of s) actions
unfolding actions_by
actions-joined version next_run s [] = refl
actions-joined version next_run s (action ∷ actions) =
    by (judged (names_of s) action) (actions-joined version next_run (after_kind version s (action_kind next_run action)) actions)
  where
    next : StateValue
    next = after_kind version s (action_kind next_run action)

    by : (r : Result (Unit {0}) CommandError) → actions_written version next_run next actions ≡ actions_by next_run (names_of next) actions
        → (r >> behind (action_kind next_run action ∷ []) (actions_written version next_run next actions))
        ≡ (r >> behind (action_kind next_run action ∷ []) (actions_by next_run (noted action (names_of s)) actions))
    by (Ok tt) rest =
        ap (behind (action_kind next_run action ∷ [])) (rest ∙ ap (λ names. actions_by next_run names actions) (names-after version next_run s action))
    by (Err error) rest = refl

-- after the decision that completes at the tip, the same names are pending as at the tip
pub response_joined : (version version' : ℕ) (next_run : RunId) (s : StateValue) (actions : List Action)
    → actions_written version next_run (after_kind version (judged_at s version') DecisionTaskCompleted) actions ≡ actions_by next_run (names_of s) actions
unfolding row
response_joined version version' next_run s actions =
    let like = judged-like s version' in
    let t : StateValue = judged_at s version' in
    let same : names_of t ≡ names_of s = λ i. record {
      running = like.running i;
      activity = λ q. is_some (pending_of q (like.activities i));
      timer = λ q. is_some (pending_of q (like.timers i));
      child = λ q. is_some (pending_of q (like.children i));
    } in
    actions-joined version next_run (after_kind version t DecisionTaskCompleted) actions
    ∙ ap (λ names. actions_by next_run names actions) same

-- what a response writes below the tip, as its actions are judged by names
pub responded : (version : ℕ) (next_run : RunId) (s : StateValue) (stage : Stage) (actions listed : List Action) (before pushed : List EventKind)
    → stage ≡ stage_of (judged_at s version).decision → needs_started stage NoDecision DecisionNotStarted ≡ allowed → listed ≡ actions → pushed ≡ before ++ DecisionTaskCompleted ∷ []
    → behind pushed (actions_by next_run (names_of s) listed) ≡ behind before (written version next_run (judged_at s version) (Respond actions))
unfolding written
responded version next_run s stage actions listed before pushed is started same push =
    let found : needs_started (stage_of (judged_at s version).decision) NoDecision DecisionNotStarted ≡ allowed = ap (λ z. needs_started z NoDecision DecisionNotStarted) (sym is) ∙ started in
    rw (push, same, found) (behind-behind before (DecisionTaskCompleted ∷ []) (actions_by next_run (names_of s) actions)
    ∙ ap (λ rest. behind before (behind (DecisionTaskCompleted ∷ []) rest)) (sym (response_joined version version next_run s actions)))

-- an answer that is another one
pub gives_same : {X Y : Type 0} (view : X → Y) (result : Result X CommandError) (one two : Result Y CommandError) → one ≡ two → Gives Memory view result one → Gives Memory view result two
gives_same view result one two e h = subst (λ answer. Gives Memory view result answer) e h
