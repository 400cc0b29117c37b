-- What a state is seen as.
use Rattle.std.specs.Prelude.{ℕ, Bool, false, List, [], Option, None}
use Rattle.ndc_event.specs.declared.key.Origin.{Origin}
use Rattle.ndc_event.specs.declared.key.RunId.{RunId}
use Rattle.ndc_event.specs.declared.name.Name.{Name}
use Rattle.ndc_state.specs.declared.pendings.Pending.{Pending}
use Rattle.ndc_state.specs.declared.rule.CloseKind.{CloseKind}

-- the mutable state of a run
pub record StateValue : Type 0 where
  pub run : RunId
  -- the id of the event that comes next
  pub next : ℕ
  -- the version of the last event, 0 before the first
  pub version : ℕ
  -- whether the run is open
  pub running : Bool
  -- how the run closed
  pub close : Option CloseKind
  pub decision : Option Pending
  -- what is pending by name, in the order of scheduling
  pub activities : List (Name × Pending)
  pub timers : List (Name × Pending)
  pub children : List (Name × Pending)
  -- the origins of its signals, in order
  pub origins : List Origin
  -- whether its cancel was requested
  pub cancel : Bool

-- the state of a run that has seen no event
abbrev pub new_state : RunId → StateValue
new_state run = record {
  run = run;
  next = 1;
  version = 0;
  running = false;
  close = None;
  decision = None;
  activities = [];
  timers = [];
  children = [];
  origins = [];
  cancel = false;
}
