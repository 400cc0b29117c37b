-- What is pending while the actions of a response are judged in turn: what was before them, and what they have changed since.
use Rattle.std.specs.Prelude.{Bool, true, false, is_some, unwrap_or, List, [], ◌∷◌, Result, Ok, if◌then◌else◌}
use Rattle.std.specs.HashMap.{HashMap, get}
use Rattle.ndc_event.specs.declared.key.RunId.{RunId}
use Rattle.ndc_event.specs.declared.kind.EventKind.{EventKind}
use Rattle.ndc_event.specs.declared.name.Name.{Name}
use Rattle.ndc_state.specs.declared.pendings.Pending.{Pending}
use Rattle.ndc_state.specs.Pendings.{pending_of, same_name}
use Rattle.ndc_command.specs.declared.command.Action.{Action}
use Rattle.ndc_command.specs.declared.command.Action.TheVariants.{Activity, Timer, Untimer, Child, Marker, Complete, Fail, Canceled, Continue}
use Rattle.ndc_command.specs.declared.judge.Judge.{Judge}
use Rattle.ndc_command.specs.declared.refusal.CommandError.{CommandError}
use Rattle.ndc_command.specs.Actions.{Names, action_kind, judged, behind}
use Rattle.ndc_command.specs.Stage.{◌>>◌}

-- whether a name is pending: as it was changed last, or as it was before
abbrev pub pending_now : {S : Type 0} → HashMap Name Bool S → List (Name × Pending) → Name → Bool
pending_now changes before name = unwrap_or (get same_name changes name) (is_some (pending_of name before))

-- what is pending now
abbrev pub names_seen : Judge → Names
names_seen judge = record {
  running = judge.running;
  activity = pending_now judge.activities judge.state.now.activities;
  timer = pending_now judge.timers judge.state.now.timers;
  child = pending_now judge.children judge.state.now.children;
}

-- the names that are pending, where one becomes so or ceases to be
abbrev pub marked : Name → Bool → (Name → Bool) → Name → Bool
marked name pending names other = if same_name name other then pending else names other

-- what is pending after an action
unfoldable pub noted : Action → Names → Names
noted (Activity id _) names = record names { activity = marked id true names.activity }
noted (Timer id) names = record names { timer = marked id true names.timer }
noted (Untimer id) names = record names { timer = marked id false names.timer }
noted (Child id _) names = record names { child = marked id true names.child }
noted (Marker _) names = names
noted (Complete _) names = record names { running = false }
noted (Fail _) names = record names { running = false }
noted Canceled names = record names { running = false }
noted (Continue _) names = record names { running = false }

-- the events of actions, each judged by what is pending after those before it
unfoldable pub actions_by : RunId → Names → List Action → Result (List EventKind) CommandError
actions_by next_run names [] = Ok []
actions_by next_run names (action ∷ actions) =
    judged names action >> behind (action_kind next_run action ∷ []) (actions_by next_run (noted action names) actions)
