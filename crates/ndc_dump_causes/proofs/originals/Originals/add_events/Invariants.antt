use Rattle.std.proofs.Common.{◌≡◌, drop}
use Rattle.ndc_dump_causes.specs.Originals.{with_events}
use Rattle.ndc_dump_causes.proofs.originals.Originals.add_events.Given as goal

abbrev pub invariant-loop-event : goal.invariant-loop-event
invariant-loop-event l = with_events l.run (drop l.event-index l.events) l.self ≡ with_events l.run l.events l.initial.self
