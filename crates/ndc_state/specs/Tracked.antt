-- The fields of a state that can go back to a mark, as the state now and at the mark.
use Rattle.std.specs.Prelude.{List}
use Rattle.ndc_event.specs.declared.key.Origin.{Origin}
use Rattle.ndc_event.specs.declared.name.Name.{Name}
use Rattle.ndc_state.specs.declared.pendings.Pending.{Pending}
use Rattle.ndc_state.specs.declared.tracked.Outline.{Outline}
use Rattle.ndc_state.specs.declared.tracked.Tracked.TheInside.{Inside}
use Rattle.ndc_state.specs.Marked.{Marked}
use Rattle.ndc_state.specs.Value.{StateValue}

-- the state of these fields
abbrev pub state_of : Outline → List (Name × Pending) → List (Name × Pending) → List (Name × Pending) → List Origin → StateValue
state_of o activities timers children origins = record {
  run = o.run;
  next = o.next;
  version = o.version;
  running = o.running;
  close = o.close;
  decision = o.decision;
  activities = activities;
  timers = timers;
  children = children;
  origins = origins;
  cancel = o.cancel;
}

-- the state now, and at the mark
abbrev pub tracked_of : Inside → Marked StateValue
tracked_of t = record {
  current = state_of t.outline t.activities.current t.timers.current t.children.current t.origins.current;
  marked = state_of t.marked t.activities.marked t.timers.marked t.children.marked t.origins.marked;
}
