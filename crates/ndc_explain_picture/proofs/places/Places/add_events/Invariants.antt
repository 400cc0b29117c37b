use Rattle.std.proofs.Common.{◌≡◌, drop}
use Rattle.ndc_explain_picture.specs.Places.{with_events}
use Rattle.ndc_explain_picture.proofs.places.Places.add_events.Given as goal

abbrev pub invariant-loop-event : goal.invariant-loop-event
invariant-loop-event l = with_events l.place l.run (drop l.event-index l.events) l.self ≡ with_events l.place l.run l.events l.initial.self
