use Rattle.std.proofs.Common.{◌≡◌, drop}
use Rattle.ndc_explain_sides.specs.Traces.{with_lost_events}
use Rattle.ndc_explain_sides.proofs.least.Least.add_events.Given as goal

abbrev pub invariant-loop-event : goal.invariant-loop-event
invariant-loop-event l = with_lost_events l.parting (drop l.event-index l.events) l.self ≡ with_lost_events l.parting l.events l.initial.self
