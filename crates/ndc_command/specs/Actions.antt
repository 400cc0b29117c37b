-- The table of actions: what each writes in turn, and what forbids it.
use Rattle.std.specs.Prelude.{ℕ, Bool, not, is_some, List, [], ◌∷◌, ◌++◌, Result, Ok, Err}
use Rattle.ndc_event.specs.declared.key.RunId.{RunId}
use Rattle.ndc_event.specs.declared.kind.EventKind.{EventKind}
use Rattle.ndc_event.specs.declared.kind.EventKind.TheVariants as kind
use Rattle.ndc_event.specs.declared.name.Name.{Name}
use Rattle.ndc_state.specs.Pendings.{pending_of}
use Rattle.ndc_state.specs.Table.{after}
use Rattle.ndc_state.specs.Value.{StateValue}
use Rattle.ndc_command.specs.declared.command.Action.{Action}
use Rattle.ndc_command.specs.declared.command.Action.TheVariants.{Activity, Timer, Untimer, Child, Marker, Complete, Fail, Canceled, Continue}
use Rattle.ndc_command.specs.declared.refusal.CommandError.{CommandError}
use Rattle.ndc_command.specs.declared.refusal.Refusal.TheVariants.{Closed, DuplicateActivity, NoSuchTimer, DuplicateTimer, DuplicateChild}
use Rattle.ndc_command.specs.Stage.{refuse, allowed, ◌>>◌}

-- the state that an event of this kind leaves, written next with this version
abbrev pub after_kind : ℕ → StateValue → EventKind → StateValue
after_kind version s kind = after s (record { id = s.next; version = version; kind = kind })

-- the state that events of these kinds leave, in turn
abbrev pub after_kinds : ℕ → StateValue → List EventKind → StateValue
after_kinds version s [] = s
after_kinds version s (kind ∷ kinds) = after_kinds version (after_kind version s kind) kinds

-- these kinds, and after them those of a result
abbrev pub behind : List EventKind → Result (List EventKind) CommandError → Result (List EventKind) CommandError
behind front (Ok kinds) = Ok (front ++ kinds)
behind front (Err error) = Err error

-- what of a state the actions of a response ask: whether the run is open, and which names are pending
pub record Names : Type 0 where
  pub running : Bool
  pub activity : Name → Bool
  pub timer : Name → Bool
  pub child : Name → Bool

-- what is so at a state
abbrev pub names_of : StateValue → Names
names_of s = record {
  running = s.running;
  activity = λ name. is_some (pending_of name s.activities);
  timer = λ name. is_some (pending_of name s.timers);
  child = λ name. is_some (pending_of name s.children);
}

-- the table of actions: what forbids each
unfoldable pub action_refusal : Names → Action → Result (Unit {0}) CommandError
action_refusal names (Activity id _) = refuse (names.activity id) DuplicateActivity
action_refusal names (Timer id) = refuse (names.timer id) DuplicateTimer
action_refusal names (Untimer id) = refuse (not (names.timer id)) NoSuchTimer
action_refusal names (Child id _) = refuse (names.child id) DuplicateChild
action_refusal names _ = allowed

-- the table of actions: the event of each
unfoldable pub action_kind : RunId → Action → EventKind
action_kind next_run (Activity id activity_type) = kind.ActivityTaskScheduled id activity_type
action_kind next_run (Timer id) = kind.TimerStarted id
action_kind next_run (Untimer id) = kind.TimerCanceled id
action_kind next_run (Child id workflow_type) = kind.StartChildWorkflowExecutionInitiated id workflow_type
action_kind next_run (Marker name) = kind.MarkerRecorded name
action_kind next_run (Complete result) = kind.WorkflowExecutionCompleted result
action_kind next_run (Fail reason) = kind.WorkflowExecutionFailed reason
action_kind next_run Canceled = kind.WorkflowExecutionCanceled
action_kind next_run (Continue workflow_type) = kind.WorkflowExecutionContinuedAsNew next_run workflow_type

-- an action is forbidden after one that has closed the run, and where its row forbids it
abbrev pub judged : Names → Action → Result (Unit {0}) CommandError
judged names action = refuse (not names.running) Closed >> action_refusal names action

-- the events of actions, each judged at the state that the events before it leave
abbrev pub actions_written : ℕ → RunId → StateValue → List Action → Result (List EventKind) CommandError
actions_written version next_run s [] = Ok []
actions_written version next_run s (action ∷ actions) =
    let kind = action_kind next_run action in
    judged (names_of s) action >> behind (kind ∷ []) (actions_written version next_run (after_kind version s kind) actions)
