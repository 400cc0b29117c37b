use Rattle.std.proofs.Common.{◌≡◌, drop}
use Rattle.ndc_state.specs.Replay.{collected}
use Rattle.ndc_state.proofs.origins.Origins.collect.Given as goal

-- the events left, collected after the origins now, are all events after those before
abbrev pub invariant-loop-event : goal.invariant-loop-event
invariant-loop-event l = record {
  rest : collected l.run l.self.current (drop l.event-index l.events) ≡ collected l.run l.fn.self.current l.events;
  mark : l.self.marked ≡ l.fn.self.current;
}
