-- Actions judged one after the other.
use Rattle.std.proofs.Common.{◌≡◌, ℕ, ◌+◌, ◌<◌, ◌≤◌, List, [], ◌∷◌, ◌++◌, append_assoc, length, drop, get_or, Result, Ok, Err, refl, ap, sym, ◌∙◌}
use Rattle.std.specs.Result.{IsErrAnd}
use Rattle.ndc_event.specs.Outcome.{Gives}
use Rattle.ndc_command.specs.declared.refusal.CommandError.TheVariants.{Memory}
use Rattle.std.proofs.lemmas.List.{drop_more, drop_all, append-nil}
use Rattle.ndc_event.specs.declared.key.RunId.{RunId}
use Rattle.ndc_event.specs.declared.kind.EventKind.{EventKind}
use Rattle.ndc_command.specs.declared.command.Action.{Action}
use Rattle.ndc_command.specs.declared.refusal.CommandError.{CommandError}
use Rattle.ndc_command.specs.Actions.{Names, action_kind, judged, behind}
use Rattle.ndc_command.specs.Judge.{noted, actions_by}
use Rattle.ndc_command.specs.Stage.{allowed, ◌>>◌}

-- kinds put after others in two steps
pub behind-behind : (before front : List EventKind) (rest : Result (List EventKind) CommandError) → behind (before ++ front) rest ≡ behind before (behind front rest)
behind-behind before front (Ok kinds) = ap (λ more. Ok more) (append_assoc before front kinds)
behind-behind before front (Err error) = refl

-- the actions from a place on begin with the one at that place
actions-at : (next_run : RunId) (names : Names) (actions : List Action) (i : ℕ) (action : Action) → i < length actions → action ≡ get_or actions i action
    → actions_by next_run names (drop i actions)
    ≡ (judged names action >> behind (action_kind next_run action ∷ []) (actions_by next_run (noted action names) (drop (i + 1) actions)))
unfolding actions_by
actions-at next_run names actions i action lt e =
    ap (λ rest. actions_by next_run names rest) (drop_more actions i action lt ∙ ap (λ first. first ∷ drop (i + 1) actions) (sym e))

-- an action that is allowed puts its event after those before it
pub actions_step : (next_run : RunId) (names after : Names) (actions : List Action) (i : ℕ) (action : Action) (before pushed : List EventKind)
    → i < length actions → action ≡ get_or actions i action → judged names action ≡ allowed → after ≡ noted action names → pushed ≡ before ++ action_kind next_run action ∷ []
    → behind pushed (actions_by next_run after (drop (i + 1) actions)) ≡ behind before (actions_by next_run names (drop i actions))
actions_step next_run names after actions i action before pushed lt e judge note push =
    rw (push, note, actions-at next_run names actions i action lt e, judge) (behind-behind before (action_kind next_run action ∷ []) _)

-- an action that is refused ends it
pub actions_refused : (next_run : RunId) (names : Names) (actions : List Action) (i : ℕ) (action : Action) (before : List EventKind) (error : CommandError)
    → i < length actions → action ≡ get_or actions i action → judged names action ≡ Err error
    → behind before (actions_by next_run names (drop i actions)) ≡ Err error
actions_refused next_run names actions i action before error lt e judge = rw (actions-at next_run names actions i action lt e, judge) refl

-- after the last action nothing comes
pub actions_done : (next_run : RunId) (names : Names) (actions : List Action) (i : ℕ) (before : List EventKind)
    → length actions ≤ i → behind before (actions_by next_run names (drop i actions)) ≡ Ok before
unfolding actions_by
actions_done next_run names actions i before le = rw (drop_all i actions le) (ap (λ more. Ok more) (append-nil before))

-- an error that is handed on is the answer
pub gives_error : {Y : Type 0} (view : Unit {0} → Y) (result : Result (Unit {0}) CommandError) (answer : Result Y CommandError) (error : CommandError)
    → IsErrAnd result (λ e. e ≡ error) → answer ≡ Err error → Gives Memory view result answer
gives_error view (Ok x) answer error h a = absurd h
gives_error view (Err e) answer error h a = λ _. a ∙ ap (λ z. Err z) (sym h)
