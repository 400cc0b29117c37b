use Rattle.std.proofs.Common.{◌≡◌, drop}
use Rattle.ndc_explain_sides.specs.Traces.{with_standing_events}
use Rattle.ndc_explain_sides.proofs.latest.Latest.add_events.Given as goal

abbrev pub invariant-loop-event : goal.invariant-loop-event
invariant-loop-event l = with_standing_events l.end l.batch (drop l.event-index l.events) l.self ≡ with_standing_events l.end l.batch l.events l.initial.self
