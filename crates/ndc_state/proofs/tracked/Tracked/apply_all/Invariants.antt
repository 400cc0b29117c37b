use Rattle.std.proofs.Common.{◌≡◌, ◌+◌, drop}
use Rattle.ndc_state.specs.Counted.{counted}
use Rattle.ndc_state.specs.Replay.{replay, allowed_count}
use Rattle.ndc_state.proofs.tracked.Tracked.apply_all.Given as goal

-- what is left, applied to the state now, is what all events are to the state before them
abbrev pub invariant-loop-event : goal.invariant-loop-event
invariant-loop-event g l = record {
  rest : replay l.self.current (drop l.event-index l.events) ≡ replay l.fn.self.current l.events;
  mark : l.self.marked ≡ l.fn.self.marked;
  steps : l.steps ≡ counted l.fn.steps l.event-index;
  count : l.event-index + allowed_count l.self.current (drop l.event-index l.events) ≡ allowed_count l.fn.self.current l.events;
}
