use Rattle.std.proofs.Common.{◌≡◌, drop}
use Rattle.ndc_explain.specs.Signals.{with_events}
use Rattle.ndc_explain.proofs.settlers.Settlers.add_events.Given as goal

abbrev pub invariant-loop-event : goal.invariant-loop-event
invariant-loop-event l = with_events l.batch (drop l.event-index l.events) l.self ≡ with_events l.batch l.events l.initial.self
